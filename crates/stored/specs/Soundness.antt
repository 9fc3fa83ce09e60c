-- The picture of a sane layout is sound, whatever the bytes. Assumes nothing.
use Rattle.std.specs.Prelude.{◌≡◌, ℕ, suc, ◌+◌, ◌-◌, ◌*◌, ◌/◌, ◌%◌, ◌^◌, ◌<◌, true, List}
use Rattle.std.proofs.Common.{ap, subst, ◌∙◌, inr, mod-lt, pow-suc, one-mul, pow_pos}
use Rattle.std.proofs.Math.Nat.{pow-zero}
use Rattle.std.proofs.lemmas.Bool.{cond_both, eqb-true}
use Rattle.octets.specs.Digits.{digit}
use Rattle.octets.specs.Rows.{byte, per_byte, sample_in}
use Rattle.octets.proofs.Digits.{packed_below}
use Rattle.reads.specs.Reads.{inside}
use Rattle.raster.specs.declared.grid.Kind.{Kind}
use Rattle.raster.specs.declared.grid.Photometric.{Photometric}
use Rattle.raster.specs.declared.grid.Photometric.TheVariants.{WhiteIsZero, BlackIsZero, Rgb}
use Rattle.raster.specs.Picture.{Sound, allowed, levels, kind_of}
use Rattle.raster.specs.Soundness.{levels_some, framed_below, framed_outside, turn_sound}
use Rattle.pages.specs.declared.layout.Layout.{Layout}
use Rattle.pages.specs.Geometry.{samples_of}
use Rattle.stored.specs.Pixels.{pixel_place, row_place, first_sample, pixel_in, stored_pixel, stored, picture_of}
use Rattle.stored.specs.Sane.{sane, sane_parts}

-- a sample is below the levels of its bits
sample_below : (bits : ℕ) (row : ℕ → ℕ) (s : ℕ) → sample_in bits row s < 2 ^ bits
unfolding sample_in digit
sample_below bits row s = mod-lt (row (s / per_byte bits) / (2 ^ bits) ^ (per_byte bits - suc (s % per_byte bits))) (pow_pos bits)

-- so many numbers have the samples of a pixel of an allowed kind
pub levels_samples : (k : Kind) → allowed k ≡ true → (2 ^ k.bits) ^ samples_of k ≡ levels k
levels_samples k t = by k.photometric k.bits t
  where
    power : (n : ℕ) → n ^ 1 ≡ n
    power n = pow-suc n 0 ∙ ap (λ m. m * n) (pow-zero n) ∙ one-mul n

    by : (p : Photometric) (b : ℕ) → allowed (kind_of p b) ≡ true → (2 ^ b) ^ samples_of (kind_of p b) ≡ levels (kind_of p b)
    by WhiteIsZero b _ = power (2 ^ b)
    by BlackIsZero b _ = power (2 ^ b)
    by Rgb b e = ap (λ n. (2 ^ n) ^ 3) (eqb-true b 8 e)

pixel_below : (bs : List ℕ) (l : Layout) → allowed l.kind ≡ true → (x y : ℕ) → pixel_in bs l x y < levels l.kind
unfolding pixel_in
pixel_below bs l t x y =
    subst (λ n. pixel_in bs l x y < n) (levels_samples l.kind t)
    (packed_below (2 ^ l.kind.bits) (samples_of l.kind)
    (λ j. sample_in l.kind.bits (λ i. byte bs (row_place bs l x y + i)) (first_sample l x + j))
    (λ j _. sample_below l.kind.bits (λ i. byte bs (row_place bs l x y + i)) (first_sample l x + j)))

pub stored_below : (bs : List ℕ) (l : Layout) → allowed l.kind ≡ true → (x y : ℕ) → stored_pixel bs l x y < levels l.kind
unfolding stored_pixel
stored_below bs l t x y =
    cond_both (inside bs (pixel_place bs l x y) (samples_of l.kind)) (pixel_in bs l x y) 0 (λ v. v < levels l.kind)
    (λ _. pixel_below bs l t x y)
    (λ _. levels_some l.kind)

pub stored_sound : (bs : List ℕ) (l : Layout) → sane l ≡ true → Sound (stored bs l)
stored_sound bs l t =
    let s = sane_parts l t in
    record {
      sides = inr (s.width.least, s.height.least);
      wide = s.width.most;
      high = s.height.most;
      kinds = s.kind;
      samples = framed_below l.width l.height (stored_pixel bs l) (levels l.kind) (levels_some l.kind) (stored_below bs l s.kind);
      outside = framed_outside l.width l.height (stored_pixel bs l);
    }

pub picture_sound : (bs : List ℕ) (l : Layout) → sane l ≡ true → Sound (picture_of bs l)
picture_sound bs l t = turn_sound l.orientation (stored bs l) (stored_sound bs l t)
