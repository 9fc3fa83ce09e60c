-- The size of a draft.
use Rattle.std.proofs.Common.{◌≡◌, ℕ, ◌+◌, ◌<◌, ◌≤◌, Bool, true, false, not, ◌&&◌, ltb, leb, Some, None, Ok, Err, Option, Result, ok_or, sym, refl, ap, ◌∙◌, subst, true≢false, arith}
use Rattle.std.proofs.lemmas.Bool.{and_parts, cond_both, ltb-true, leb-true, lt-ltb, le-ltb}
use Rattle.faults.specs.declared.fault.Fault.{Fault}
use Rattle.faults.specs.declared.fault.Check.TheVariants.{Many, View as ViewCheck}
use Rattle.faults.specs.Faults.{bare, refused}
use Rattle.links.proofs.Chaining.{passed}
use Rattle.raster.specs.Views.{area_fits, swaps}
use Rattle.pages.specs.declared.layout.Layout.{Layout}
use Rattle.pages.specs.Pages.{between}
use Rattle.stored.specs.Sane.{sane, Sane, sane_parts}
use Rattle.plans.specs.declared.draft.DraftOutline.{DraftOutline}
use Rattle.plans.specs.declared.outline.Outline.{Outline}
use Rattle.plans.specs.declared.plan.Plan.{Plan}
use Rattle.plans.specs.declared.view.View.{View}
use Rattle.plans.specs.Plans.{Drafts}
use Rattle.plans.specs.Views.{shows_in, view_checked, view_width, view_height}
use Rattle.plans.specs.Outlines.{Proper, segments_in, block_size}
use Rattle.plans.proofs.Views.{plan_proper}
use Rattle.drafts.specs.Steps.{sized_for, outline_by, width_of, height_of}

-- an accepted view
pub check_shows : (w h : ℕ) (v : View) → view_checked w h v ≡ Ok tt → shows_in w h v ≡ true
check_shows w h v e = by (shows_in w h v) (passed (not (shows_in w h v)) (bare ViewCheck) (Ok tt) tt e).0
  where
    by : (b : Bool) → not b ≡ false → b ≡ true
    by true t = refl
    by false t = absurd (true≢false t)

-- a refused view refuses the draft
pub sized_view : (l : Layout) (v : View) (plan : Plan) (f : Fault) → view_checked (width_of l) (height_of l) v ≡ Err f → sized_for l v plan ≡ Err f
unfolding sized_for
sized_view l v plan f e = by (not (shows_in (width_of l) (height_of l) v)) _ e
  where
    told : Result (Unit {0}) Fault → Result ℕ Fault
    told (Ok _) = Ok 0
    told (Err g) = Err g

    by : (b : Bool) (after : Result ℕ Fault) → refused {A = Unit {0}} b (bare ViewCheck) (Ok (tt {0})) ≡ Err f → refused b (bare ViewCheck) after ≡ Err f
    by true after t = ap told t
    by false after t = absurd (let z : ◌≡◌ {A = ℕ} 0 1 = cc in omega arith)

pub sized_many : (l : Layout) (v : View) (plan : Plan) → shows_in (width_of l) (height_of l) v ≡ true → 1024 < segments_in (outline_by v plan l.kind) → sized_for l v plan ≡ Err (bare Many)
unfolding sized_for
sized_many l v plan t n =
    ap (λ b. refused (not b) (bare ViewCheck) (refused (ltb 1024 (segments_in (outline_by v plan l.kind))) (bare Many) (Ok (block_size (outline_by v plan l.kind))))) t
    ∙ ap (λ b. refused b (bare Many) (Ok (block_size (outline_by v plan l.kind)))) (lt-ltb 1024 (segments_in (outline_by v plan l.kind)) n)

pub sized_ok : (l : Layout) (v : View) (plan : Plan) → shows_in (width_of l) (height_of l) v ≡ true → segments_in (outline_by v plan l.kind) ≤ 1024
    → sized_for l v plan ≡ Ok (block_size (outline_by v plan l.kind))
unfolding sized_for
sized_ok l v plan t n =
    ap (λ b. refused (not b) (bare ViewCheck) (refused (ltb 1024 (segments_in (outline_by v plan l.kind))) (bare Many) (Ok (block_size (outline_by v plan l.kind))))) t
    ∙ ap (λ b. refused b (bare Many) (Ok (block_size (outline_by v plan l.kind)))) (le-ltb 1024 (segments_in (outline_by v plan l.kind)) n)

-- the size of a draft by its outline
abbrev pub sized_by : Result DraftOutline Fault → Result ℕ Fault
sized_by (Ok d) = Ok (block_size d.outline)
sized_by (Err f) = Err f

-- the sides of what is seen through a view that fits
pub record Sides (l : Layout) (v : View) : Type 0 where
  pub some_wide : 1 ≤ view_width v
  pub some_high : 1 ≤ view_height v
  pub wide : view_width v ≤ 16384
  pub high : view_height v ≤ 16384

pub view_sides : (l : Layout) (v : View) → Sane l → shows_in (width_of l) (height_of l) v ≡ true → Sides l v
view_sides l v s t =
    let whole = (and_parts (area_fits (width_of l) (height_of l) v.area) (between 1 8 v.turn) t).0 in
    let parts = and_parts (ltb 0 v.area.width && ltb 0 v.area.height) (leb (v.area.x + v.area.width) (width_of l) && leb (v.area.y + v.area.height) (height_of l)) whole in
    let some = and_parts (ltb 0 v.area.width) (ltb 0 v.area.height) parts.0 in
    let most = and_parts (leb (v.area.x + v.area.width) (width_of l)) (leb (v.area.y + v.area.height) (height_of l)) parts.1 in
    let w : 0 < v.area.width = ltb-true 0 v.area.width some.0 in
    let h : 0 < v.area.height = ltb-true 0 v.area.height some.1 in
    let wl : width_of l ≤ 16384 = cond_both (swaps l.orientation) l.height l.width (λ n. n ≤ 16384) (λ _. s.height.most) (λ _. s.width.most) in
    let hl : height_of l ≤ 16384 = cond_both (swaps l.orientation) l.width l.height (λ n. n ≤ 16384) (λ _. s.width.most) (λ _. s.height.most) in
    let wm : v.area.width ≤ 16384 = omega (arith, leb-true (v.area.x + v.area.width) (width_of l) most.0) in
    let hm : v.area.height ≤ 16384 = omega (arith, leb-true (v.area.y + v.area.height) (height_of l) most.1) in
    record {
      some_wide = cond_both (swaps v.turn) v.area.height v.area.width (λ n. 1 ≤ n) (λ _. omega arith) (λ _. omega arith);
      some_high = cond_both (swaps v.turn) v.area.width v.area.height (λ n. 1 ≤ n) (λ _. omega arith) (λ _. omega arith);
      wide = cond_both (swaps v.turn) v.area.height v.area.width (λ n. n ≤ 16384) (λ _. hm) (λ _. wm);
      high = cond_both (swaps v.turn) v.area.width v.area.height (λ n. n ≤ 16384) (λ _. wm) (λ _. hm);
    }

-- the outline of a draft through a view that fits is proper
pub view_proper : (l : Layout) (v : View) (plan : Plan) → sane l ≡ true → shows_in (width_of l) (height_of l) v ≡ true → Proper (outline_by v plan l.kind)
view_proper l v plan t u =
    let s = sane_parts l t in
    let k = view_sides l v s u in
    plan_proper plan (view_width v) (view_height v) l.kind s.kind k.some_wide k.wide k.some_high k.high

-- what an accepted view and the outline of its draft come to
pub sized_draft : (l : Layout) (v : View) (plan : Plan) (o : Option DraftOutline) (r : Result DraftOutline Fault) → sane l ≡ true
    → view_checked (width_of l) (height_of l) v ≡ Ok tt → Drafts o (outline_by v plan l.kind) → r ≡ ok_or o (bare Many) → sized_by r ≡ sized_for l v plan
sized_draft l v plan (Some d) r t e is told =
    ap sized_by told ∙ ap (λ (q : Outline). Ok (block_size q)) is
    ∙ sym (sized_ok l v plan (check_shows (width_of l) (height_of l) v e) (subst (λ (q : Outline). segments_in q ≤ 1024) is d.few))
sized_draft l v plan None r t e many told =
    let shows = check_shows (width_of l) (height_of l) v e in
    ap sized_by told ∙ sym (sized_many l v plan shows (many (view_proper l v plan t shows)))
