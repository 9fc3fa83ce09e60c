use Rattle.std.proofs.Common.{◌-◌, ◌*◌, ◌≤◌, min, length, Option, sym, refl, ap, ◌∙◌, subst, arith}
use Rattle.std.proofs.lemmas.Bool.{not-true}
use Rattle.std.proofs.lemmas.List.{length-take}
use Rattle.plans.specs.declared.draft.DraftOutline.{DraftOutline}
use Rattle.plans.specs.Plans.{Drafts, plan_outline}
use Rattle.writer.specs.Drafts.{draft_sector}
use Rattle.writer.proofs.Drafted.{check_refuses, draft_unseen, none_filled, front_filled, drawn, drawn_shows, drawn_proper, drawn_many, drawn_sector}
use Rattle.writer.proofs.sectors.fill_sector.Goals as goal

pub returns-then-is_err : goal.returns-then-is_err
returns-then-is_err g c =
    let p = g.G.Grid.picture c.args.grid.now in
    let refused = check_refuses p c.args.view c.size.ensures.width c.size.ensures.height c.check.ensures c.is_err.ensures.value in
    let none = none_filled (draft_sector c.args.plan p c.args.view c.args.place c.args.sector) c.args.buffer.now
    (draft_unseen c.args.plan p c.args.view (not-true _ (sym refused ∙ c.if-is_err.true)) c.args.place c.args.sector) in
    record { count = none.0; bytes = none.1; kept = refl; keeps = g.G.Grid.keeps.none _ }

pub returns-in_default : goal.returns-in_default
returns-in_default g c =
    let p = g.G.Grid.picture c.args.grid.now in
    let refused = check_refuses p c.args.view c.size.ensures.width c.size.ensures.height c.check.ensures c.is_err.ensures.value in
    let d = drawn c.args.plan p c.args.view (g.G.Grid.sound c.args.grid.now) refused c.if-is_err.false c.size-2.ensures.width c.size-2.ensures.height c.kind.ensures refl in
    let q = plan_outline c.args.plan c.size-2.result.width c.size-2.result.height c.kind.result in
    let many = (subst (λ (r : Option DraftOutline). Drafts r (plan_outline c.args.plan c.size-2.result.width c.size-2.result.height c.kind.result)) c.in_default.is c.draft.ensures) (drawn_proper c.args.plan p c.args.view q d) in
    let none = none_filled (draft_sector c.args.plan p c.args.view c.args.place c.args.sector) c.args.buffer.now
    (drawn_many c.args.plan p c.args.view q d many c.args.place c.args.sector) in
    record { count = none.0; bytes = none.1; kept = refl; keeps = g.G.Grid.keeps.none _ }

pub fill-requires : goal.fill-requires
fill-requires g c =
    let p = g.G.Grid.picture c.args.grid.now in
    let refused = check_refuses p c.args.view c.size.ensures.width c.size.ensures.height c.check.ensures c.is_err.ensures.value in
    let d = drawn c.args.plan p c.args.view (g.G.Grid.sound c.args.grid.now) refused c.if-is_err.false c.size-2.ensures.width c.size-2.ensures.height c.kind.ensures (subst (λ (r : Option DraftOutline). Drafts r (plan_outline c.args.plan c.size-2.result.width c.size-2.result.height c.kind.result)) c.in-Some.is c.draft.ensures) in
    record {
      shown = drawn_shows c.args.plan p c.args.view c.in-Some.draft.outline d _ refl refl;
      within = λ some. omega (arith, length-take c.sector_len-count.result c.args.buffer.now, c.sector_len-count.ensures, c.size-3.ensures);
    }

pub returns : goal.returns
returns g c =
    let p = g.G.Grid.picture c.args.grid.now in
    let refused = check_refuses p c.args.view c.size.ensures.width c.size.ensures.height c.check.ensures c.is_err.ensures.value in
    let d = drawn c.args.plan p c.args.view (g.G.Grid.sound c.args.grid.now) refused c.if-is_err.false c.size-2.ensures.width c.size-2.ensures.height c.kind.ensures (subst (λ (r : Option DraftOutline). Drafts r (plan_outline c.args.plan c.size-2.result.width c.size-2.result.height c.kind.result)) c.in-Some.is c.draft.ensures) in
    let count = c.sector_len-count.ensures ∙ ap (λ m. min 512 (m - 512 * c.args.sector)) c.size-3.ensures in
    let room : c.sector_len-count.result ≤ length c.args.buffer.now = omega (arith, c.sector_len-count.ensures, c.told-buffer) in
    let both = front_filled (draft_sector c.args.plan p c.args.view c.args.place c.args.sector) c.args.buffer.now c.fill.new.buffer c.sector_len-count.result _ room c.fill.ensures.bytes
    (drawn_sector c.args.plan p c.args.view c.in-Some.draft.outline d c.in-Some.draft.few c.args.place c.args.sector c.sector_len-count.result count) in
    record { count = both.0; bytes = both.1; kept = c.fill.ensures.asked.kept; keeps = c.fill.ensures.asked.keeps }
