-- A pixel by its row, and by the place of its bytes alone.
use Rattle.std.proofs.Common.{◌≡◌, ℕ, suc, ◌+◌, ◌-◌, ◌/◌, ◌%◌, ◌^◌, ◌<◌, ◌≤◌, Bool, true, false, cond, List, length, sym, refl, ap, ◌∙◌, subst, ap₂, add-zero, zero-add, zero-mul, div-one, arith}
use native.Mathlib.Nat.{zero-div, zero-mod}
use Rattle.std.proofs.lemmas.List.{get_or_past}
use Rattle.std.proofs.lemmas.Bool.{cond-true, cond-false, eqb-true, leb-false, le-leb, lt-leb}
use Rattle.octets.specs.Digits.{packed, digit}
use Rattle.octets.specs.Rows.{byte, per_byte, sample_in}
use Rattle.octets.proofs.Digits.{packed_same}
use Rattle.reads.specs.Reads.{inside}
use Rattle.raster.specs.declared.grid.Photometric.{Photometric}
use Rattle.raster.specs.declared.grid.Photometric.TheVariants.{WhiteIsZero, BlackIsZero, Rgb}
use Rattle.raster.specs.Picture.{allowed, kind_of}
use Rattle.pages.specs.declared.layout.Layout.{Layout}
use Rattle.pages.specs.Geometry.{samples_of}
use Rattle.pages.specs.Segments.{offset_of}
use Rattle.stored.specs.Pixels.{segment_of, first_sample, row_place, pixel_place, pixel_in, stored_pixel}
use Rattle.stored.specs.Reading.{start_of, sample_at, rgb_at, pixel_from}

-- the pixel of n samples, the first of which is a given one of the row that begins at a place
abbrev pixel_by : List ℕ → ℕ → ℕ → ℕ → ℕ → ℕ
pixel_by bs bits n row first =
    cond (inside bs (row + first / per_byte bits) n) (packed (2 ^ bits) n (λ j. sample_in bits (λ i. byte bs (row + i)) (first + j))) 0

digit_zero : (base n t : ℕ) → digit base n 0 t ≡ 0
unfolding digit
digit_zero base n t = ap (λ v. v % base) (zero-div (base ^ (n - suc t))) ∙ zero-mod base

sample_past : (bs : List ℕ) (bits place s : ℕ) → length bs ≤ place → sample_at bs bits place s ≡ 0
unfolding sample_at
sample_past bs bits place s h = ap (λ v. digit (2 ^ bits) (per_byte bits) v s) (get_or_past bs place 0 h) ∙ digit_zero (2 ^ bits) (per_byte bits) s

rgb_past : (bs : List ℕ) (place : ℕ) → length bs < place + 3 → rgb_at bs place ≡ 0
unfolding rgb_at
rgb_past bs place h = cond-false (inside bs place 3) (packed 256 3 (λ i. byte bs (place + i) % 256)) 0 (lt-leb (place + 3) (length bs) h)

-- a pixel that begins past the end is 0
pub pixel_past : (bs : List ℕ) (p : Photometric) (bits place s : ℕ) → length bs ≤ place → pixel_from bs p bits place s ≡ 0
pixel_past bs WhiteIsZero bits place s h = sample_past bs bits place s h
pixel_past bs BlackIsZero bits place s h = sample_past bs bits place s h
pixel_past bs Rgb bits place s h = rgb_past bs place (omega arith)

grey_value : (bs : List ℕ) (bits row first : ℕ) →
    packed (2 ^ bits) 1 (λ j. sample_in bits (λ i. byte bs (row + i)) (first + j)) ≡ sample_at bs bits (row + first / per_byte bits) (first % per_byte bits)
unfolding packed sample_in sample_at
grey_value bs bits row first =
    let v : ℕ → ℕ = λ s. digit (2 ^ bits) (per_byte bits) (byte bs (row + s / per_byte bits)) (s % per_byte bits) in
    ap (λ z. z + v (first + 0)) (zero-mul (2 ^ bits)) ∙ zero-add (v (first + 0)) ∙ ap v (add-zero first)

grey_from : (bs : List ℕ) (bits row first : ℕ) → pixel_by bs bits 1 row first ≡ sample_at bs bits (row + first / per_byte bits) (first % per_byte bits)
grey_from bs bits row first = by (inside bs (row + first / per_byte bits) 1) refl
  where
    by : (b : Bool) → inside bs (row + first / per_byte bits) 1 ≡ b →
        cond b (packed (2 ^ bits) 1 (λ j. sample_in bits (λ i. byte bs (row + i)) (first + j))) 0
        ≡ sample_at bs bits (row + first / per_byte bits) (first % per_byte bits)
    by true t = grey_value bs bits row first
    by false t = sym (sample_past bs bits (row + first / per_byte bits) (first % per_byte bits) (omega (arith, leb-false (row + first / per_byte bits + 1) (length bs) t)))

rgb_sample : (bs : List ℕ) (row first j : ℕ) → sample_in 8 (λ i. byte bs (row + i)) (first + j) ≡ byte bs (row + first / 1 + j) % 256
unfolding sample_in digit
rgb_sample bs row first j =
    let z : 1 - suc ((first + j) % 1) ≡ 0 = omega arith in
    let p : row + (first + j) / 1 ≡ row + first / 1 + j = omega arith in
    ap₂ (λ k q. byte bs q / 256 ^ k % 256) z p ∙ ap (λ v. v % 256) (div-one (byte bs (row + first / 1 + j)))

rgb_from : (bs : List ℕ) (row first : ℕ) → pixel_by bs 8 3 row first ≡ rgb_at bs (row + first / 1)
unfolding rgb_at
rgb_from bs row first =
    ap (λ v. cond (inside bs (row + first / 1) 3) v 0)
    (packed_same 256 3 (λ j. sample_in 8 (λ i. byte bs (row + i)) (first + j)) (λ i. byte bs (row + first / 1 + i) % 256) (λ j _. rgb_sample bs row first j))

from_by : (bs : List ℕ) (p : Photometric) (b row first : ℕ) → allowed (kind_of p b) ≡ true →
    pixel_by bs b (samples_of (kind_of p b)) row first ≡ pixel_from bs p b (row + first / per_byte b) (first % per_byte b)
from_by bs WhiteIsZero b row first t = grey_from bs b row first
from_by bs BlackIsZero b row first t = grey_from bs b row first
from_by bs Rgb b row first t =
    subst (λ n. pixel_by bs n 3 row first ≡ rgb_at bs (row + first / per_byte n)) (sym (eqb-true b 8 t)) (rgb_from bs row first)

-- the pixel of a row is the one from its own place on
pub pixel_row_lem : (bs : List ℕ) (l : Layout) (x y : ℕ) → allowed l.kind ≡ true →
    stored_pixel bs l x y
    ≡ pixel_from bs l.kind.photometric l.kind.bits (row_place bs l x y + first_sample l x / per_byte l.kind.bits) (first_sample l x % per_byte l.kind.bits)
unfolding stored_pixel pixel_in
pixel_row_lem bs l x y t = from_by bs l.kind.photometric l.kind.bits (row_place bs l x y) (first_sample l x) t

pub pixel_from_lem : (bs : List ℕ) (l : Layout) (x y : ℕ) → allowed l.kind ≡ true →
    pixel_from bs l.kind.photometric l.kind.bits (offset_of bs l (segment_of l.cut l.width x y) + start_of l x y) (first_sample l x % per_byte l.kind.bits)
    ≡ stored_pixel bs l x y
pixel_from_lem bs l x y t =
    let offset : ℕ = offset_of bs l (segment_of l.cut l.width x y) in
    let at : offset + start_of l x y ≡ row_place bs l x y + first_sample l x / per_byte l.kind.bits = omega arith in
    ap (λ n. pixel_from bs l.kind.photometric l.kind.bits n (first_sample l x % per_byte l.kind.bits)) at ∙ sym (pixel_row_lem bs l x y t)

-- a pixel whose bytes all lie in the file
pub pixel_inside : (bs : List ℕ) (l : Layout) (x y : ℕ) → pixel_place bs l x y + samples_of l.kind ≤ length bs → stored_pixel bs l x y ≡ pixel_in bs l x y
unfolding stored_pixel
pixel_inside bs l x y h =
    cond-true (inside bs (pixel_place bs l x y) (samples_of l.kind)) (pixel_in bs l x y) 0 (le-leb (pixel_place bs l x y + samples_of l.kind) (length bs) h)
