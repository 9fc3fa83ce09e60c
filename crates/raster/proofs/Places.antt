-- What each turn shows, place by place.
use Rattle.std.proofs.Common.{◌≡◌, ℕ, ◌<◌, cond, ◌⊎◌, refl, arith}
use Rattle.std.proofs.lemmas.Bool.Decides.{nat_tests}
use Rattle.raster.specs.Picture.{Picture}
use Rattle.raster.specs.Views.{turn_by, swaps, column_below, row_below}
use Rattle.raster.specs.Turns.{Shows, Eight}
use Rattle.raster.proofs.Frames.{framed_inside}

shows : (p : Picture) (k : ℕ) →
    Shows p k (cond (swaps k) p.height p.width) (cond (swaps k) p.width p.height)
    (λ x y. (column_below k p.width x y, row_below k p.height x y))
shows p k = record {
  wide = refl;
  high = refl;
  pixels = framed_inside (cond (swaps k) p.height p.width) (cond (swaps k) p.width p.height)
      (λ x y. p.at (column_below k p.width x y) (row_below k p.height x y));
}

others : (p : Picture) (k : ℕ) → (k ≡ 0) ⊎ (8 < k) → turn_by k p ≡ turn_by 1 p
others p k h = grind (arith, nat_tests)

pub eight : (p : Picture) → Eight p p.width p.height
eight p = record {
  turn_1 = shows p 1;
  turn_2 = shows p 2;
  turn_3 = shows p 3;
  turn_4 = shows p 4;
  turn_5 = shows p 5;
  turn_6 = shows p 6;
  turn_7 = shows p 7;
  turn_8 = shows p 8;
  others = others p;
}
