-- How pixels stand in bytes, case by case.
use Rattle.std.proofs.Common.{◌≡◌, ℕ, suc, ◌+◌, ◌-◌, ◌*◌, ◌/◌, ◌%◌, ◌^◌, ◌<◌, ◌≤◌, eqb, List, length, refl, ap, ◌∙◌, ap₂, add-zero, mod-eq_of_lt, suc-mul, div-add-mod', zero-mul, mul-one, arith}
use native.Mathlib.Nat.{zero-div, div-eq_of_lt, div-eq_of_lt-le, add-div_right}
use lib.Arith.{digits_div, digits_mod}
use Rattle.std.proofs.lemmas.Bool.{cond-true, cond-false, eq-eqb, ne_eqb, le-leb}
use Rattle.octets.specs.Digits.{packed, digit}
use Rattle.octets.specs.Rows.{byte, ceil, per_byte, packed_size}
use Rattle.reads.specs.Reads.{inside}
use Rattle.raster.specs.declared.grid.Kind.{Kind}
use Rattle.raster.specs.declared.grid.Photometric.{Photometric}
use Rattle.raster.specs.declared.grid.Photometric.TheVariants.{WhiteIsZero, BlackIsZero, Rgb}
use Rattle.raster.specs.Picture.{number_of}
use Rattle.pages.specs.declared.layout.Cut.{Cut}
use Rattle.pages.specs.declared.layout.Layout.{Layout}
use Rattle.pages.specs.Geometry.{samples_of, across, row_bytes}
use Rattle.pages.specs.Segments.{offset_of}
use Rattle.stored.specs.Pixels.{segment_of, first_sample, row_place, stored_pixel}
use Rattle.stored.specs.Reading.{sample_at, rgb_at, pixel_from}
use Rattle.stored.specs.Reads.{Grey, Colour, Runs, Rows, PixelsRead}
use Rattle.stored.specs.Sane.{Sane, sane_parts}
use Rattle.stored.proofs.Pixel.{pixel_row_lem}

-- the samples of a pixel
one_sample : (k : Kind) → number_of k.photometric < 2 → samples_of k ≡ 1
one_sample k h = cond-false (eqb (number_of k.photometric) 2) 3 1 (ne_eqb (number_of k.photometric) 2 (λ e. omega arith))

three_samples : (k : Kind) → number_of k.photometric ≡ 2 → samples_of k ≡ 3
three_samples k h = cond-true (eqb (number_of k.photometric) 2) 3 1 (eq-eqb (number_of k.photometric) 2 h)

grey_from : (bs : List ℕ) (p : Photometric) (b place s : ℕ) → number_of p < 2 → pixel_from bs p b place s ≡ sample_at bs b place s
grey_from bs WhiteIsZero b place s h = refl
grey_from bs BlackIsZero b place s h = refl
grey_from bs Rgb b place s h = absurd (omega arith)

colour_from : (bs : List ℕ) (p : Photometric) (b place s : ℕ) → number_of p ≡ 2 → pixel_from bs p b place s ≡ rgb_at bs place
colour_from bs WhiteIsZero b place s h = absurd (omega arith)
colour_from bs BlackIsZero b place s h = absurd (omega arith)
colour_from bs Rgb b place s h = refl

together : (bs : List ℕ) → ((i : ℕ) → byte bs i < 256) → (place : ℕ) → place + 3 ≤ length bs → rgb_at bs place ≡ 65536 * byte bs place + 256 * byte bs (place + 1) + byte bs (place + 2)
unfolding rgb_at packed
together bs bytes place room =
    let first : place + 0 ≡ place = add-zero place in
    cond-true (inside bs place 3) (packed 256 3 (λ i. byte bs (place + i) % 256)) 0 (le-leb (place + 3) (length bs) room)
    ∙ ap (λ q. ((0 * 256 + byte bs q % 256) * 256 + byte bs (place + 1) % 256) * 256 + byte bs (place + 2) % 256) first
    ∙ flat (byte bs place) (byte bs (place + 1)) (byte bs (place + 2)) (bytes place) (bytes (place + 1)) (bytes (place + 2))
  where
    flat : (a b c : ℕ) → a < 256 → b < 256 → c < 256 → ((0 * 256 + a % 256) * 256 + b % 256) * 256 + c % 256 ≡ 65536 * a + 256 * b + c
    flat a b c l m n = omega arith

module _ (bs : List ℕ) (l : Layout) (s : Sane l) (x y : ℕ) where
  grey_pixel : (b : ℕ) → Grey l b →
      stored_pixel bs l x y ≡ sample_at bs b (row_place bs l x y + x % l.cut.wide / per_byte b) (x % l.cut.wide % per_byte b)
  grey_pixel b g =
      let u : ℕ = x % l.cut.wide in
      let one : u * samples_of l.kind ≡ u = ap (λ n. u * n) (one_sample l.kind g.0) ∙ mul-one u in
      pixel_row_lem bs l x y s.kind
      ∙ grey_from bs l.kind.photometric l.kind.bits (row_place bs l x y + first_sample l x / per_byte l.kind.bits) (first_sample l x % per_byte l.kind.bits) g.0
      ∙ (λ i. sample_at bs (g.1 i) (row_place bs l x y + one i / per_byte (g.1 i)) (one i % per_byte (g.1 i)))

  of_1 : Grey l 1 → stored_pixel bs l x y ≡ byte bs (row_place bs l x y + x % l.cut.wide / 8) / 2 ^ (7 - x % l.cut.wide % 8) % 2
  unfolding sample_at digit
  of_1 g =
      let u : ℕ = x % l.cut.wide in
      let z : 8 - suc (u % 8) ≡ 7 - u % 8 = omega arith in
      grey_pixel 1 g ∙ ap (λ n. byte bs (row_place bs l x y + u / 8) / 2 ^ n % 2) z

  of_4 : Grey l 4 → stored_pixel bs l x y ≡ byte bs (row_place bs l x y + x % l.cut.wide / 2) / 16 ^ (1 - x % l.cut.wide % 2) % 16
  unfolding sample_at digit
  of_4 g =
      let u : ℕ = x % l.cut.wide in
      let z : 2 - suc (u % 2) ≡ 1 - u % 2 = omega arith in
      grey_pixel 4 g ∙ ap (λ n. byte bs (row_place bs l x y + u / 2) / 16 ^ n % 16) z

  module _ (bytes : (i : ℕ) → byte bs i < 256) where
    of_8 : Grey l 8 → stored_pixel bs l x y ≡ byte bs (row_place bs l x y + x % l.cut.wide)
    unfolding sample_at digit
    of_8 g =
        let u : ℕ = x % l.cut.wide in
        let place : ℕ = row_place bs l x y + u in
        let z : 1 - suc (u % 1) ≡ 0 = omega arith in
        let p : row_place bs l x y + u / 1 ≡ place = omega arith in
        let m : byte bs place / 1 % 256 ≡ byte bs place = omega (arith, bytes place) in
        grey_pixel 8 g ∙ ap₂ (λ q n. byte bs q / 256 ^ n % 256) p z ∙ m

    of_rgb : Colour l → row_place bs l x y + 3 * (x % l.cut.wide) + 3 ≤ length bs →
        stored_pixel bs l x y
        ≡ 65536 * byte bs (row_place bs l x y + 3 * (x % l.cut.wide)) + 256 * byte bs (row_place bs l x y + 3 * (x % l.cut.wide) + 1)
        + byte bs (row_place bs l x y + 3 * (x % l.cut.wide) + 2)
    of_rgb g room =
        let u : ℕ = x % l.cut.wide in
        let place : ℕ = row_place bs l x y + 3 * u in
        let three : u * samples_of l.kind ≡ u * 3 = ap (λ n. u * n) (three_samples l.kind g.0) in
        let at : row_place bs l x y + first_sample l x / per_byte l.kind.bits ≡ place =
        (λ i. row_place bs l x y + three i / per_byte (g.1 i)) ∙ (let z : row_place bs l x y + u * 3 / 1 ≡ place = omega arith in z) in
        pixel_row_lem bs l x y s.kind
        ∙ colour_from bs l.kind.photometric l.kind.bits (row_place bs l x y + first_sample l x / per_byte l.kind.bits) (first_sample l x % per_byte l.kind.bits) g.0
        ∙ ap (rgb_at bs) at
        ∙ together bs bytes place room

runs_of : (l : Layout) → Sane l → Runs l
runs_of l s = record { first = first; right = right; down = down; strips = strips }
  where
    c : Cut
    c = l.cut

    n : ℕ
    n = across c l.width

    first : segment_of c l.width 0 0 ≡ 0
    first = ap₂ (λ a b. a * n + b) (zero-div c.high) (zero-div c.wide) ∙ ap (λ a. a + 0) (zero-mul n)

    right : (x y : ℕ) → segment_of c l.width (x + c.wide) y ≡ segment_of c l.width x y + 1
    right x y = let e : (x + c.wide) / c.wide ≡ x / c.wide + 1 = add-div_right x s.wide.least in omega arith

    down : (x y : ℕ) → segment_of c l.width x (y + c.high) ≡ segment_of c l.width x y + n
    down x y =
        let e : (y + c.high) / c.high ≡ suc (y / c.high) = omega (arith, add-div_right y {k = c.high} s.high.least) in
        ap (λ a. a * n + x / c.wide) e ∙ (let z : suc (y / c.high) * n + x / c.wide ≡ y / c.high * n + x / c.wide + n = omega (arith, suc-mul (y / c.high) n) in z)

    strips : c.wide ≡ l.width → (x y : ℕ) → x < l.width → segment_of c l.width x y ≡ y / c.high
    strips e x y h =
        let one : n ≡ 1 = ap (λ w. ceil l.width w) e ∙ div-eq_of_lt-le {k = 1} l.width {m = l.width + (l.width - 1)} (omega (arith, s.width.least)) (omega (arith, s.width.least)) in
        let none : x / c.wide ≡ 0 = div-eq_of_lt (omega arith) in
        ap₂ (λ a b. y / c.high * a + b) one none ∙ (let z : y / c.high * 1 + 0 ≡ y / c.high = omega arith in z)

rows_of : (bs : List ℕ) (l : Layout) → Sane l → Rows bs l
rows_of bs l s = record { top = top; next = next; of_1 = one; of_4 = four; of_8 = eight; of_rgb = colour }
  where
    c : Cut
    c = l.cut

    size : ℕ
    size = row_bytes c l.kind

    top : (x y : ℕ) → y % c.high ≡ 0 → row_place bs l x y ≡ offset_of bs l (segment_of c l.width x y)
    top x y e = ap (λ r. offset_of bs l (segment_of c l.width x y) + r * size) e ∙ ap (λ r. offset_of bs l (segment_of c l.width x y) + r) (zero-mul size) ∙ add-zero _

    next : (x y : ℕ) → y % c.high + 1 < c.high → row_place bs l x (y + 1) ≡ row_place bs l x y + size
    next x y h =
        let q : ℕ = y / c.high in
        let r : ℕ = y % c.high in
        let up : y + 1 ≡ q * c.high + (r + 1) = omega (arith, div-add-mod' y c.high) in
        let same : (y + 1) / c.high ≡ q = ap (λ a. a / c.high) up ∙ digits_div q h in
        let more : (y + 1) % c.high ≡ suc r = ap (λ a. a % c.high) up ∙ digits_mod q h ∙ (let z : r + 1 ≡ suc r = omega arith in z) in
        ap₂ (λ a b. offset_of bs l (a * across c l.width + x / c.wide) + b * size) same more
        ∙ (let z : offset_of bs l (segment_of c l.width x y) + suc r * size ≡ row_place bs l x y + size = omega (arith, suc-mul r size) in z)

    grey : (b : ℕ) → Grey l b → size ≡ packed_size b (c.wide * 1)
    grey b g = λ i. packed_size (g.1 i) (c.wide * one_sample l.kind g.0 i)

    one : Grey l 1 → size ≡ (c.wide + 7) / 8
    one g = grey 1 g ∙ (let z : packed_size 1 (c.wide * 1) ≡ (c.wide + 7) / 8 = omega arith in z)

    four : Grey l 4 → size ≡ (c.wide + 1) / 2
    four g = grey 4 g ∙ (let z : packed_size 4 (c.wide * 1) ≡ (c.wide + 1) / 2 = omega arith in z)

    eight : Grey l 8 → size ≡ c.wide
    eight g = grey 8 g ∙ (let z : packed_size 8 (c.wide * 1) ≡ c.wide = omega arith in z)

    colour : Colour l → size ≡ 3 * c.wide
    colour g =
        (λ i. packed_size (g.1 i) (c.wide * three_samples l.kind g.0 i))
        ∙ (let z : packed_size 8 (c.wide * 3) ≡ 3 * c.wide = omega arith in z)

strip_of : (bs : List ℕ) (l : Layout) → Sane l → ((i : ℕ) → byte bs i < 256) → Grey l 8 → l.cut.wide ≡ l.width → (x y : ℕ) → x < l.width →
    stored_pixel bs l x y ≡ byte bs (offset_of bs l (y / l.cut.high) + y % l.cut.high * l.width + x)
strip_of bs l s bytes g e x y h =
    let c : Cut = l.cut in
    let wide : row_bytes c l.kind ≡ l.width = (rows_of bs l s).of_8 g ∙ e in
    let column : x % c.wide ≡ x = mod-eq_of_lt (omega arith) in
    of_8 bs l s x y bytes g
    ∙ (λ i. byte bs (offset_of bs l ((runs_of l s).strips e x y h i) + y % c.high * wide i + column i))

pub pixels_read : PixelsRead
pixels_read = record {
  runs = λ l t. runs_of l (sane_parts l t);
  rows = λ bs l t. rows_of bs l (sane_parts l t);
  reads = λ bs l t bytes x y.
      let s : Sane l = sane_parts l t in
      record { of_1 = of_1 bs l s x y; of_4 = of_4 bs l s x y; of_8 = of_8 bs l s x y bytes; of_rgb = of_rgb bs l s x y bytes };
  strip = λ bs l t. strip_of bs l (sane_parts l t);
}
