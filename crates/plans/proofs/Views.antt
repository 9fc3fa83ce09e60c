-- What is seen through a view, and its outline.
use Rattle.std.proofs.Common.{◌≡◌, ℕ, ◌<◌, ◌≤◌, true, ap, arith}
use Rattle.std.proofs.lemmas.Bool.{and_parts, cond-true, cond_both}
use Rattle.octets.specs.declared.endian.Endian.{Endian}
use Rattle.raster.specs.declared.grid.Kind.{Kind}
use Rattle.raster.specs.Picture.{Picture, empty, allowed}
use Rattle.raster.specs.Views.{fits, rectangle, crop_of, turn_by, swaps}
use Rattle.raster.specs.Soundness.{fits_parts, crop_sound, turn_sound}
use Rattle.pages.specs.Pages.{between}
use Rattle.plans.specs.declared.pieces.Pieces.{Pieces}
use Rattle.plans.specs.declared.plan.Plan.{Plan}
use Rattle.plans.specs.declared.view.View.{View}
use Rattle.plans.specs.Outlines.{outlined, outline_of, Proper}
use Rattle.plans.specs.Plans.{plan_outline}
use Rattle.plans.specs.Views.{viewed, shows, view_width, view_height, ViewsShow}
use Rattle.plans.proofs.Outlines.{outlined_proper}

pub views_show : ViewsShow
views_show p v t =
    let f : fits p v.area ≡ true = (and_parts (fits p v.area) (between 1 8 v.turn) t).0 in
    let some = (fits_parts p v.area f).0 in
    let e : crop_of p v.area ≡ rectangle p v.area = cond-true {A = Picture} (fits p v.area) (rectangle p v.area) empty f in
    let wide : (viewed p v).width ≡ view_width v = ap (λ (r : Picture). (turn_by v.turn r).width) e in
    record {
      wide = wide;
      high = ap (λ (r : Picture). (turn_by v.turn r).height) e;
      kind = ap (λ (r : Picture). (turn_by v.turn r).kind) e;
      some = omega (arith, wide, cond_both (swaps v.turn) v.area.height v.area.width (λ n. 0 < n) (λ _. some.1) (λ _. some.0));
      sound = λ s. turn_sound v.turn (crop_of p v.area) (crop_sound p v.area s);
    }

-- the outline of what is seen, from the view and the picture's kind
pub viewed_outline : (o : Endian) (ps : Pieces) (p : Picture) (v : View) → shows p v ≡ true
    → outline_of o ps (viewed p v) ≡ outlined o ps (view_width v) (view_height v) p.kind
viewed_outline o ps p v h =
    let s = views_show p v h in
    λ i. outlined o ps (s.wide i) (s.high i) (s.kind i)

-- a plan makes proper outlines
pub plan_proper : (plan : Plan) (width height : ℕ) (kind : Kind) → allowed kind ≡ true → 1 ≤ width → width ≤ 16384 → 1 ≤ height → height ≤ 16384
    → Proper (plan_outline plan width height kind)
plan_proper plan width height kind k w wm h hm = outlined_proper plan.endian plan.pieces width height kind plan.limits k w wm h hm
