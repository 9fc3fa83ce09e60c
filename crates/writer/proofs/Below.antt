-- What a view shows, by the picture below.
use Rattle.std.proofs.Common.{◌≡◌, ℕ, ◌+◌, ◌<◌, Bool, true, false, cond, Ok, Err, Result, ap, ◌∙◌, arith}
use Rattle.std.proofs.lemmas.Bool.{and_parts, cond-true}
use Rattle.faults.specs.declared.fault.Fault.{Fault}
use Rattle.raster.specs.Picture.{Picture, empty, framed}
use Rattle.raster.specs.Views.{fits, rectangle, crop_of, turn_by, swaps, mirrors, flips, reversed, column_below, row_below}
use Rattle.raster.proofs.Frames.{framed_inside}
use Rattle.pages.specs.Pages.{between}
use Rattle.plans.specs.declared.view.View.{View}
use Rattle.plans.specs.Views.{viewed, shows, view_width, view_height}

pub column_inside : (k w h x y : ℕ) → x < cond (swaps k) h w → y < cond (swaps k) w h → column_below k w x y < w
column_inside k w h x y = go (swaps k) (mirrors k)
  where
    go : (s m : Bool) → x < cond s h w → y < cond s w h → reversed m w (cond s y x) < w
    go true true lx ly = omega arith
    go true false lx ly = omega arith
    go false true lx ly = omega arith
    go false false lx ly = omega arith

pub row_inside : (k w h x y : ℕ) → x < cond (swaps k) h w → y < cond (swaps k) w h → row_below k h x y < h
row_inside k w h x y = go (swaps k) (flips k)
  where
    go : (s f : Bool) → x < cond s h w → y < cond s w h → reversed f h (cond s x y) < h
    go true true lx ly = omega arith
    go true false lx ly = omega arith
    go false true lx ly = omega arith
    go false false lx ly = omega arith

module _ (p : Picture) (v : View) (t : shows p v ≡ true) where
  pub view_fits : fits p v.area ≡ true
  view_fits = (and_parts (fits p v.area) (between 1 8 v.turn) t).0

  view_crop : crop_of p v.area ≡ rectangle p v.area
  view_crop = cond-true {A = Picture} (fits p v.area) (rectangle p v.area) empty view_fits

  module _ (x y : ℕ) (lx : x < view_width v) (ly : y < view_height v) where
    abbrev column : ℕ
    column = column_below v.turn v.area.width x y

    abbrev row : ℕ
    row = row_below v.turn v.area.height x y

    pub viewed_inside : (viewed p v).at x y ≡ p.at (v.area.x + column) (v.area.y + row)
    viewed_inside =
        ap (λ (r : Picture). (turn_by v.turn r).at x y) view_crop
        ∙ framed_inside (view_width v) (view_height v) (λ x y. (rectangle p v.area).at (column_below v.turn v.area.width x y) (row_below v.turn v.area.height x y)) x y lx ly
        ∙ framed_inside v.area.width v.area.height (λ x y. p.at (v.area.x + x) (v.area.y + y)) column row
        (column_inside v.turn v.area.width v.area.height x y lx ly)
        (row_inside v.turn v.area.width v.area.height x y lx ly)

    pub seen_inside : framed (view_width v) (view_height v) (viewed p v).at x y ≡ p.at (v.area.x + column) (v.area.y + row)
    seen_inside = framed_inside (view_width v) (view_height v) (viewed p v).at x y lx ly ∙ viewed_inside

-- the pixel of an answer that is not refused
pub ok_value : (b : Bool) (x v : ℕ) (f : Fault) → ◌≡◌ {A = Result ℕ Fault} (cond b (Ok x) (Err f)) (Ok v) → v ≡ x
ok_value true x v f e = cc
ok_value false x v f e = cc
