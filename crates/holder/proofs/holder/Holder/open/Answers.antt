use Rattle.std.proofs.Common.{◌≡◌, Some, Ok, Err, sym, ap, ◌∙◌, subst, rules}
use Rattle.std.proofs.lemmas.Result.{err_from_is_err_and}
use Rattle.pages.specs.Opening.{opened}
use Rattle.drafts.specs.declared.call.Call.TheVariants.{Open}
use Rattle.drafts.specs.Mem.{Mem, mem_of}
use Rattle.drafts.specs.Steps.{Step, held, world, sized}
use Rattle.stored.specs.Pixels.{picture_of}
use Rattle.holder.specs.Worlds.{held_by, picture_by, told_open}
use Rattle.holder.proofs.Calls.{lawful}
use Rattle.holder.proofs.Opens.{opened_settled, opened_ok, opened_err, open_ok, open_err}
use Rattle.holder.proofs.holder.Holder.open.Goals as goal

pub returns-in_err-found : goal.returns-in_err-found
returns-in_err-found g c =
    let m : Mem = mem_of g.S.Store c.args.self.now.store in
    let n : Mem = mem_of g.S.Store c.open.new.store in
    let s = opened_settled m n c.args.page c.open.result _ _ _ c.open.ensures.value c.open.ensures.looked.same c.open.ensures.looked.lists c.open.ensures.looked.trails
    (search rules) (search rules) (search rules) in
    let f = err_from_is_err_and c.from_residual.result c.from_residual.ensures.1 in
    let told = f.1 ∙ ap Err f.2 in
    let e : opened m.seen c.args.page ≡ Err c.in_err-found.field-0.0 =
    opened_err c.open.result (opened m.seen c.args.page) c.in_err-found.field-0.0 s.1 c.in_err-found.was in
    subst (λ r. Step (Open c.args.page) (world (held_by c.args.self.now.state) m) (told_open (picture_by g.S.Store.seen (record { store = c.open.new.store; state = c.args.self.now.state })) r) (world (held_by c.args.self.now.state) n))
    (sym told)
    (open_err (held_by c.args.self.now.state) c.args.page c.in_err-found.field-0.0 (lawful g.S.Store c.args.self.now.store) s.0 (sym c.is_some.ensures ∙ c.if-is_some.false) e)

pub returns : goal.returns
returns g c =
    let m : Mem = mem_of g.S.Store c.args.self.now.store in
    let n : Mem = mem_of g.S.Store c.open.new.store in
    let s = opened_settled m n c.args.page c.open.result _ _ _ c.open.ensures.value c.open.ensures.looked.same c.open.ensures.looked.lists c.open.ensures.looked.trails
    (search rules) (search rules) (search rules) in
    let l = c.in_ok-found.found.layout in
    let e : opened m.seen c.args.page ≡ Ok l =
    opened_ok c.open.result (opened m.seen c.args.page) c.in_ok-found.found s.1 c.in_ok-found.was in
    subst (λ t. Step (Open c.args.page) (world (held_by c.args.self.now.state) m) (Ok (sized (picture_of m.seen l))) (world (held (Some l) t c.args.self.now.state.draft) n))
    (sym c.orientation-self.ensures)
    (open_ok (held_by c.args.self.now.state) c.args.page l (lawful g.S.Store c.args.self.now.store) s.0 (sym c.is_some.ensures ∙ c.if-is_some.false) e)
