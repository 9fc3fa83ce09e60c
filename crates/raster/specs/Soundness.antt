-- Rectangles and turns of sound pictures are sound. Assumes nothing.
use Rattle.std.specs.Prelude.{◌≡◌, ℕ, ◌+◌, ◌^◌, ◌<◌, ◌≤◌, Bool, true, false, cond, ◌&&◌, ◌==◌, nat_le, nat_lt, refl}
use Rattle.std.proofs.Common.{ap, ◌∙◌, inl, inr, ⊎_elim, arith, pow_pos}
use Rattle.std.proofs.lemmas.Bool.{cond-false, cond_both, and_parts, ltb-true, leb-true}
use Rattle.raster.specs.Picture.{Picture, Sound, within, framed, empty, levels, kind_of, number_of}
use Rattle.raster.specs.Views.{crop_of, rectangle, fits, turn_by, swaps, column_below, row_below}
use Rattle.raster.specs.declared.grid.Kind.{Kind}
use Rattle.raster.specs.declared.grid.Photometric.TheVariants.{BlackIsZero}
use Rattle.raster.specs.declared.grid.Area.{Area}
use Rattle.raster.specs.declared.crop.Crop.{Crop}
use Rattle.raster.specs.declared.turn.Turn.{Turn}
use Rattle.raster.specs.Layers.{cropped, turned}

pub levels_some : (k : Kind) → 0 < levels k
levels_some k = cond_both (number_of k.photometric == 2) (2 ^ 24) (2 ^ k.bits) (λ n. 0 < n) (λ _. pow_pos 24) (λ _. pow_pos k.bits)

-- what `framed` gives, inside and outside the sides
pub framed_below : (w h : ℕ) (f : ℕ → ℕ → ℕ) (n : ℕ) → 0 < n → ((x y : ℕ) → f x y < n) → (x y : ℕ) → framed w h f x y < n
framed_below w h f n some each x y = cond_both (within w h x y) (f x y) 0 (λ v. v < n) (λ _. each x y) (λ _. some)

pub framed_outside : (w h : ℕ) (f : ℕ → ℕ → ℕ) (x y : ℕ) → within w h x y ≡ false → framed w h f x y ≡ 0
framed_outside w h f x y e = cond-false (within w h x y) (f x y) 0 e

pub empty_sound : Sound empty
empty_sound = record {
  sides = inl refl;
  wide = omega arith;
  high = omega arith;
  kinds = refl;
  samples = λ x y. levels_some (kind_of BlackIsZero 1);
  outside = λ x y _. refl;
}

-- what `fits` says
pub fits_parts : (p : Picture) (a : Area) → fits p a ≡ true →
    ((0 < a.width) × (0 < a.height)) × ((a.x + a.width ≤ p.width) × (a.y + a.height ≤ p.height))
fits_parts p a t =
    let both = and_parts (nat_lt 0 a.width && nat_lt 0 a.height) (nat_le (a.x + a.width) p.width && nat_le (a.y + a.height) p.height) t in
    let some = and_parts (nat_lt 0 a.width) (nat_lt 0 a.height) both.0 in
    let inside = and_parts (nat_le (a.x + a.width) p.width) (nat_le (a.y + a.height) p.height) both.1 in (
      (ltb-true 0 a.width some.0, ltb-true 0 a.height some.1),
      (leb-true (a.x + a.width) p.width inside.0, leb-true (a.y + a.height) p.height inside.1),
    )

pub rectangle_sound : (p : Picture) (a : Area) → Sound p → fits p a ≡ true → Sound (rectangle p a)
rectangle_sound p a s t =
    let f : ℕ → ℕ → ℕ = λ c r. p.at (a.x + c) (a.y + r) in
    let h = fits_parts p a t in
    record {
      sides = inr h.0;
      wide = omega (arith, h.1.0, s.wide);
      high = omega (arith, h.1.1, s.high);
      kinds = s.kinds;
      samples = framed_below a.width a.height f (levels p.kind) (levels_some p.kind) (λ c r. s.samples (a.x + c) (a.y + r));
      outside = framed_outside a.width a.height f;
    }

pub crop_sound : (p : Picture) (a : Area) → Sound p → Sound (crop_of p a)
crop_sound p a s = cond_both {A = Picture} (fits p a) (rectangle p a) empty Sound (rectangle_sound p a s) (λ _. empty_sound)

cond_same : {A : Type 0} (b : Bool) (x : A) → cond b x x ≡ x
cond_same true x = refl
cond_same false x = refl

turn_empty : (k : ℕ) → turn_by k empty ≡ empty
turn_empty k = λ i. record {
  width = cond_same (swaps k) 0 i;
  height = cond_same (swaps k) 0 i;
  kind = kind_of BlackIsZero 1;
  at = λ x y. cond_same (within (cond (swaps k) 0 0) (cond (swaps k) 0 0) x y) 0 i;
}

pub turn_sound : (k : ℕ) (p : Picture) → Sound p → Sound (turn_by k p)
turn_sound k p s =
    let w : ℕ = cond (swaps k) p.height p.width in
    let h : ℕ = cond (swaps k) p.width p.height in
    let f : ℕ → ℕ → ℕ = λ x y. p.at (column_below k p.width x y) (row_below k p.height x y) in
    record {
      sides = ⊎_elim (λ e. inl (ap (turn_by k) e ∙ turn_empty k))
          (λ some. inr (
            cond_both (swaps k) p.height p.width (λ n. 0 < n) (λ _. some.1) (λ _. some.0),
            cond_both (swaps k) p.width p.height (λ n. 0 < n) (λ _. some.0) (λ _. some.1),
          ))
          s.sides;
      wide = cond_both (swaps k) p.height p.width (λ n. n ≤ 16384) (λ _. s.high) (λ _. s.wide);
      high = cond_both (swaps k) p.width p.height (λ n. n ≤ 16384) (λ _. s.wide) (λ _. s.high);
      kinds = s.kinds;
      samples = framed_below w h f (levels p.kind) (levels_some p.kind) (λ x y. s.samples _ _);
      outside = framed_outside w h f;
    }

module _ {G : Type 0} (picture : G → Picture) (sound : (g : G) → Sound (picture g)) where
  pub cropped_sound : (c : Crop G) → Sound (cropped picture c)
  cropped_sound c = crop_sound (picture c.below) c.area (sound c.below)

  pub turned_sound : (t : Turn G) → Sound (turned picture t)
  turned_sound t = turn_sound t.turn (picture t.below) (sound t.below)
