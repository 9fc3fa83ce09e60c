-- Samples of one and of three to a pixel, put into bytes.
use Rattle.std.proofs.Common.{◌≡◌, ℕ, zero, suc, ◌+◌, ◌-◌, ◌*◌, ◌/◌, ◌%◌, ◌^◌, ◌<◌, ◌≤◌, true, eqb, ltb, sym, refl, ap, ◌∙◌, subst, ap₂, mul-le-mul_right, mod-lt, mod-eq_of_lt, mul_comm, pow-suc, div-one, arith}
use native.Mathlib.Nat.{pow-zero, mod-one, pow-le-pow_right}
use lib.Arith.{digits_lt}
use Rattle.std.proofs.lemmas.Bool.{cond-true, cond-false, cond_both, lt-ltb, le-ltb, eqb-true}
use Rattle.std.proofs.lemmas.Nat.{pow_pos, one_shl, div-mul-add, mod-mul-add, div-add-mod'}
use Rattle.octets.specs.Digits.{packed, digit}
use Rattle.octets.specs.Rows.{Bits, per_byte, packed_size, padded}
use Rattle.octets.proofs.Digits.{packed_below, pow_pow}
use Rattle.octets.proofs.Rows.{by_bits, padded_below}
use Rattle.raster.specs.declared.grid.Kind.{Kind}
use Rattle.raster.specs.declared.grid.Photometric.{Photometric}
use Rattle.raster.specs.declared.grid.Photometric.TheVariants.{WhiteIsZero, BlackIsZero, Rgb}
use Rattle.raster.specs.Picture.{Picture, Sound, framed, within, allowed, levels, kind_of}
use Rattle.pages.specs.Geometry.{samples_of}
use Rattle.plans.specs.declared.outline.Outline.{Outline}
use Rattle.plans.specs.Views.{viewed, view_width, view_height}
use Rattle.plans.proofs.Views.{views_show}
use Rattle.writer.specs.declared.spots.Spot.{Spot}
use Rattle.writer.specs.Spots.{pixel_at, sample_at, padded_at, byte_at}
use Rattle.writer.specs.declared.canvas.Canvas.{Canvas}
use Rattle.writer.specs.Painting.{Shows}

-- a pixel of what is seen is below the levels of its kind
pub pixel_below : (c : Canvas) (p : Picture) → Shows c p → Sound p → (spot : Spot) (x : ℕ) → pixel_at c.head.draft.outline (viewed p c.view).at spot x < levels c.head.draft.outline.kind
pixel_below c p shown sound spot x =
    let q = c.head.draft.outline in
    let s = views_show p c.view shown.seen in
    let small : (k : Kind) → 0 < levels k = λ k. cond_both (eqb _ 2) (2 ^ 24) (2 ^ k.bits) (λ n. 0 < n) (λ _. pow_pos 24) (λ _. pow_pos k.bits) in
    cond_both (within q.width q.height (spot.column + x) spot.row) ((viewed p c.view).at (spot.column + x) spot.row) 0 (λ n. n < levels q.kind)
    (λ _. subst (λ (k : Kind). (viewed p c.view).at (spot.column + x) spot.row < levels k) (s.kind ∙ sym shown.kind) ((s.sound sound).samples (spot.column + x) spot.row))
    (λ _. small q.kind)

-- one sample to a pixel has the levels of its bits
pub single_levels : (k : Kind) → samples_of k ≡ 1 → levels k ≡ 2 ^ k.bits
single_levels k e = go k.photometric k.bits e
  where
    go : (ph : Photometric) (b : ℕ) → samples_of (kind_of ph b) ≡ 1 → levels (kind_of ph b) ≡ 2 ^ b
    go WhiteIsZero b e = refl
    go BlackIsZero b e = refl
    go Rgb b e = absurd (omega arith)

-- else a pixel has three samples of 8 bits
pub three_samples : (k : Kind) → allowed k ≡ true → (samples_of k ≡ 1 → ⊥) → (samples_of k ≡ 3) × (k.bits ≡ 8)
three_samples k t n = go k.photometric k.bits t n
  where
    go : (ph : Photometric) (b : ℕ) → allowed (kind_of ph b) ≡ true → (samples_of (kind_of ph b) ≡ 1 → ⊥) → (samples_of (kind_of ph b) ≡ 3) × (b ≡ 8)
    go WhiteIsZero b t n = absurd (n refl)
    go BlackIsZero b t n = absurd (n refl)
    go Rgb b t n = (refl, eqb-true b 8 t)

-- padded samples, by their bits, their number to a pixel, the pixels to a row and the pixels
abbrev padded_by : ℕ → ℕ → ℕ → (ℕ → ℕ) → ℕ → ℕ
padded_by b n wide pixel s = padded (wide * n) (λ s. digit (2 ^ b) n (pixel (s / n)) (s % n)) s

single_digit : (base v : ℕ) → v < base → digit base 1 v 0 ≡ v
unfolding digit
single_digit base v l =
    let z : 1 - suc 0 ≡ 0 = refl in
    ap (λ m. v / m % base) (pow-zero base) ∙ ap (λ m. m % base) (div-one v) ∙ mod-eq_of_lt l

single_inside : (b wide : ℕ) (pixel : ℕ → ℕ) (s : ℕ) → s < wide → pixel s < 2 ^ b → pixel s ≡ padded_by b 1 wide pixel s
single_inside b wide pixel s l m =
    sym (cond-true (ltb s (wide * 1)) (digit (2 ^ b) 1 (pixel (s / 1)) (s % 1)) 0 (lt-ltb s (wide * 1) (omega arith))
    ∙ ap₂ (λ x t. digit (2 ^ b) 1 (pixel x) t) (div-one s) (mod-one s)
    ∙ single_digit (2 ^ b) (pixel s) m)

single_outside : (b wide : ℕ) (pixel : ℕ → ℕ) (s : ℕ) → wide ≤ s → 0 ≡ padded_by b 1 wide pixel s
single_outside b wide pixel s l = sym (cond-false (ltb s (wide * 1)) (digit (2 ^ b) 1 (pixel (s / 1)) (s % 1)) 0 (le-ltb s (wide * 1) (omega arith)))

module _ (q : Outline) (at : ℕ → ℕ → ℕ) (spot : Spot) (single : samples_of q.kind ≡ 1) where
  pub grey_inside : (s : ℕ) → s < q.cut.wide → pixel_at q at spot s < 2 ^ q.kind.bits → pixel_at q at spot s ≡ padded_at q at spot s
  grey_inside s l m = single_inside q.kind.bits q.cut.wide (pixel_at q at spot) s l m ∙ ap (λ n. padded_by q.kind.bits n q.cut.wide (pixel_at q at spot) s) (sym single)

  pub grey_outside : (s : ℕ) → q.cut.wide ≤ s → 0 ≡ padded_at q at spot s
  grey_outside s l = single_outside q.kind.bits q.cut.wide (pixel_at q at spot) s l ∙ ap (λ n. padded_by q.kind.bits n q.cut.wide (pixel_at q at spot) s) (sym single)

-- three samples of 8 bits: a byte is a sample
abbrev byte_by : ℕ → ℕ → ℕ → (ℕ → ℕ) → ℕ → ℕ
byte_by b n wide pixel i = packed (2 ^ b) (per_byte b) (λ t. padded_by b n wide pixel (i * per_byte b + t))

rgb_sample : (wide : ℕ) (pixel : ℕ → ℕ) (i : ℕ) → i < wide * 3 → byte_by 8 3 wide pixel i ≡ digit 256 3 (pixel (i / 3)) (i % 3)
unfolding packed
rgb_sample wide pixel i l =
    let e : i * 1 + 0 ≡ i = omega arith in
    let z : 0 * 256 + padded_by 8 3 wide pixel (i * 1 + 0) ≡ padded_by 8 3 wide pixel (i * 1 + 0) = omega arith in
    z ∙ ap (padded_by 8 3 wide pixel) e ∙ cond-true (ltb i (wide * 3)) (digit 256 3 (pixel (i / 3)) (i % 3)) 0 (lt-ltb i (wide * 3) l)

pub rgb_byte : (q : Outline) (at : ℕ → ℕ → ℕ) (spot : Spot) → samples_of q.kind ≡ 3 → q.kind.bits ≡ 8 → spot.byte < q.cut.wide * 3
    → byte_at q at spot ≡ digit 256 3 (pixel_at q at spot (spot.byte / 3)) (spot.byte % 3)
rgb_byte q at spot n b l =
    ap₂ (λ b n. byte_by b n q.cut.wide (pixel_at q at spot) spot.byte) b n ∙ rgb_sample q.cut.wide (pixel_at q at spot) spot.byte l

-- the bytes of such a row
pub rgb_row : (wide i b n : ℕ) → b ≡ 8 → n ≡ 3 → i < packed_size b (wide * n) → i < wide * 3
rgb_row wide i b n eb en l =
    let k : i < packed_size 8 (wide * 3) = subst (λ m. i < m) (ap₂ (λ b n. packed_size b (wide * n)) eb en) l in
    omega arith

-- a channel is a digit
pub channel_digit : (v n r : ℕ) → n < 3 → (n ≡ 0 → r ≡ v / 65536 % 256) → (n ≡ 1 → r ≡ v / 256 % 256) → (n ≡ 2 → r ≡ v % 256) → r ≡ digit 256 3 v n
unfolding digit
channel_digit v zero r l a b c = a refl
channel_digit v (suc zero) r l a b c = b refl
channel_digit v (suc (suc zero)) r l a b c = c refl ∙ ap (λ m. m % 256) (sym (div-one v))
channel_digit v (suc (suc (suc n))) r l a b c = absurd (omega arith)

-- one sample more leaves a byte
pub next_below : (b i n : ℕ) (f : ℕ → ℕ) → i < n → n * b ≤ 8 → ((t : ℕ) → f t < 2 ^ b) → packed (2 ^ b) i f * 2 ^ b + f i < 256
next_below b i n f l few h =
    let below : packed (2 ^ b) i f * 2 ^ b + f i < (2 ^ b) ^ i * 2 ^ b = digits_lt (packed_below (2 ^ b) i f (λ t m. h t)) (h i) in
    let power : (2 ^ b) ^ i * 2 ^ b ≡ 2 ^ (b * suc i) = sym (pow-suc (2 ^ b) i) ∙ pow_pow 2 b (suc i) in
    let bits : b * suc i ≤ 8 = omega (arith, mul-le-mul_right {m = suc i} {n = n} b l, mul_comm b (suc i)) in
    let most : 2 ^ (b * suc i) ≤ 2 ^ 8 = pow-le-pow_right {n = 2} (omega arith) bits in
    omega (arith, below, power, most)

small : (b : ℕ) → Bits b → b < 32
small = by_bits (λ b. b < 32) (omega arith) (omega arith) (omega arith)

pub levels_shifted : (b : ℕ) → Bits b → 1 * 2 ^ b % 4294967296 ≡ 2 ^ b
levels_shifted b h = one_shl b 32 (small b h)

pub padded_small : (q : Outline) (at : ℕ → ℕ → ℕ) (spot : Spot) (s : ℕ) → padded_at q at spot s < 2 ^ q.kind.bits
unfolding digit
padded_small q at spot s =
    padded_below (2 ^ q.kind.bits) (q.cut.wide * samples_of q.kind) (sample_at q at spot) (pow_pos q.kind.bits)
    (λ s _. mod-lt (pixel_at q at spot (s / samples_of q.kind) / (2 ^ q.kind.bits) ^ (samples_of q.kind - suc (s % samples_of q.kind))) (pow_pos q.kind.bits)) s

-- the byte before, in the same part of some parts of one size
pub before : (j size : ℕ) → 0 < size → 0 < j % size → ((j - 1) / size ≡ j / size) × ((j - 1) % size ≡ j % size - 1)
before j size z l =
    let whole : j / size * size + j % size ≡ j = div-add-mod' j size in
    let less : j % size < size = mod-lt j z in
    let e : j - 1 ≡ j / size * size + (j % size - 1) = omega arith in (
      ap (λ m. m / size) e ∙ div-mul-add (j / size) size (j % size - 1) (omega arith),
      ap (λ m. m % size) e ∙ mod-mul-add (j / size) size (j % size - 1) (omega arith),
    )

-- what is asked of the grid is the pixel of the outline
module _ (c : Canvas) (p : Picture) (shown : Shows c p) (spot : Spot) where
  pub asked_pixel : (x : ℕ) → framed (view_width c.view) (view_height c.view) (viewed p c.view).at (spot.column + x) spot.row ≡ pixel_at c.head.draft.outline (viewed p c.view).at spot x
  asked_pixel x = ap₂ (λ w h. framed w h (viewed p c.view).at (spot.column + x) spot.row) (sym shown.wide) (sym shown.high)

  pub asked_sample : Sound p → samples_of c.head.draft.outline.kind ≡ 1 → (s : ℕ) → s < c.head.draft.outline.cut.wide
      → framed (view_width c.view) (view_height c.view) (viewed p c.view).at (spot.column + s) spot.row ≡ padded_at c.head.draft.outline (viewed p c.view).at spot s
  asked_sample sound single s l =
      asked_pixel s
      ∙ grey_inside c.head.draft.outline (viewed p c.view).at spot single s l (omega (arith, pixel_below c p shown sound spot s, single_levels c.head.draft.outline.kind single))

packed_byte : (b : ℕ) → Bits b → (f : ℕ → ℕ) → ((t : ℕ) → f t < 2 ^ b) → packed (2 ^ b) (per_byte b) f < 256
packed_byte = by_bits (λ b. (f : ℕ → ℕ) → ((t : ℕ) → f t < 2 ^ b) → packed (2 ^ b) (per_byte b) f < 256)
    (λ f h. packed_below 2 8 f (λ t _. h t)) (λ f h. packed_below 16 2 f (λ t _. h t)) (λ f h. packed_below 256 1 f (λ t _. h t))

pub byte_small : (q : Outline) (at : ℕ → ℕ → ℕ) (spot : Spot) → Bits q.kind.bits → byte_at q at spot < 256
byte_small q at spot bits =
    packed_byte q.kind.bits bits (λ t. padded_at q at spot (spot.byte * per_byte q.kind.bits + t))
    (λ t. padded_small q at spot (spot.byte * per_byte q.kind.bits + t))
