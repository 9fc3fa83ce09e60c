-- The segments of a draft: how many there are, and how many rows each has.
use Rattle.std.proofs.Common.{◌≡◌, ℕ, suc, ◌+◌, ◌-◌, ◌*◌, ◌/◌, ◌%◌, ◌<◌, ◌≤◌, min, true, eqb, leb, sym, refl, ap, ◌∙◌, ◌⊎◌, inl, inr, ⊎_elim, mul-le-mul_right, suc-mul, div-lt_iff_lt-mul, mul-le-mul, mul-le-mul_left, le-div_iff_mul-le, zero-mul, div-one, arith}
use native.Mathlib.Nat.{div-eq_of_lt-le}
use lib.Arith.{digits_lt}
use Rattle.std.proofs.lemmas.Bool.{cond-true, cond-false, cond_both, and_parts, leb-true, le-leb, eqb-true}
use Rattle.std.proofs.lemmas.Nat.{mul-lt}
use Rattle.octets.specs.Rows.{Bits, ceil, packed_size}
use Rattle.octets.proofs.Rows.{by_bits}
use Rattle.raster.specs.declared.grid.Kind.{Kind}
use Rattle.octets.specs.declared.endian.Endian.{Endian}
use Rattle.raster.specs.Picture.{Picture, Sound, allowed, number_of}
use Rattle.pages.specs.declared.layout.SegmentKind.{SegmentKind}
use Rattle.pages.specs.declared.layout.SegmentKind.TheVariants.{Strip, Tile}
use Rattle.pages.specs.Tags.{are_tiles}
use Rattle.pages.specs.Geometry.{samples_of, segments, first_row, rows_of, row_bytes}
use Rattle.pages.specs.Pages.{between, tile_side}
use Rattle.pages.proofs.Cutting.{div_below_ceil}
use Rattle.stored.specs.Sane.{allowed_bits}
use Rattle.plans.specs.declared.outline.Outline.{Outline}
use Rattle.plans.specs.declared.pieces.Pieces.{Pieces}
use Rattle.plans.specs.declared.pieces.Pieces.TheVariants.{Strips, Tiles}
use Rattle.plans.specs.Limits.{limited}
use Rattle.plans.specs.Outlines.{cut_by, pieces_by, pieces_of, outlined, outline_of, Spans, Proper, segments_in, segment_size, head_size, block_size}

pub samples_positive : (k : Kind) → 0 < samples_of k
samples_positive k = cond_both (eqb (number_of k.photometric) 2) 3 1 (λ n. 0 < n) (λ _. omega arith) (λ _. omega arith)

pub samples_few : (k : Kind) → samples_of k ≤ 3
samples_few k = cond_both (eqb (number_of k.photometric) 2) 3 1 (λ n. n ≤ 3) (λ _. omega arith) (λ _. omega arith)

-- a tile's side
pub record Side (n : ℕ) : Type 0 where
  pub whole : n % 16 ≡ 0
  pub least : 16 ≤ n
  pub most : n ≤ 16384

pub tile_side_lem : (n : ℕ) → tile_side n ≡ true → Side n
tile_side_lem n t =
    let a = and_parts (between 16 16384 n) (eqb (n % 16) 0) t in
    let b = and_parts (leb 16 n) (leb n 16384) a.0 in
    record { whole = eqb-true (n % 16) 0 a.1; least = leb-true 16 n b.0; most = leb-true n 16384 b.1 }

pub tile_limits : (kind : SegmentKind) (wide high : ℕ) → limited (pieces_by kind wide high) ≡ true → kind ≡ Tile → Side wide × Side high
tile_limits Tile wide high l e = let a = and_parts (tile_side wide) (tile_side high) l in (tile_side_lem wide a.0, tile_side_lem high a.1)
tile_limits Strip wide high l e = absurd cc

strip_limits : (kind : SegmentKind) (wide high : ℕ) → limited (pieces_by kind wide high) ≡ true → kind ≡ Strip → 1 ≤ high
strip_limits Tile wide high l e = absurd cc
strip_limits Strip wide high l e = leb-true 1 high l

-- a segment is a strip or a tile
pub cases_kind : (kind : SegmentKind) → (kind ≡ Tile) ⊎ (kind ≡ Strip)
cases_kind Tile = inl refl
cases_kind Strip = inr refl

-- the sides of a segment
pub record SegmentSides (q : Outline) : Type 0 where
  pub some_wide : 0 < q.cut.wide
  pub some_high : 0 < q.cut.high
  pub wide : q.cut.wide ≤ 16384
  pub high : q.cut.high ≤ 16384

pub segment_sides : (q : Outline) → Proper q → SegmentSides q
segment_sides q proper =
    ⊎_elim {C = SegmentSides q}
    (λ t. let s = tile_limits q.cut.kind q.cut.wide q.cut.high proper.limits t in
    record {
      some_wide = omega (arith, s.0.least);
      some_high = omega (arith, s.1.least);
      wide = s.0.most;
      high = s.1.most;
    })
    (λ f. let s = proper.spanned f in
    record {
      some_wide = omega (arith, s.0, proper.some_wide);
      some_high = strip_limits q.cut.kind q.cut.wide q.cut.high proper.limits f;
      wide = omega (arith, s.0, proper.wide);
      high = omega (arith, s.1, proper.high);
    })
    (cases_kind q.cut.kind)

pub some_segments : (q : Outline) → Proper q → 0 < segments_in q
unfolding segments
some_segments q proper =
    let s = segment_sides q proper in
    let m : 0 / q.cut.high < ceil q.height q.cut.high = div_below_ceil 0 q.height q.cut.high s.some_high proper.some_high in
    let n : 0 / q.cut.wide < ceil q.width q.cut.wide = div_below_ceil 0 q.width q.cut.wide s.some_wide proper.some_wide in
    let k : 0 * ceil q.width q.cut.wide + 0 < ceil q.height q.cut.high * ceil q.width q.cut.wide = digits_lt {q = 0} {r = 0} (omega arith) (omega arith) in
    omega arith

across_strip : (w : ℕ) → 0 < w → ceil w w ≡ 1
across_strip w z = div-eq_of_lt-le w (omega arith) (omega arith)

-- the rows of a tile, and of a strip
pub tile_rows : (q : Outline) → q.cut.kind ≡ Tile → (k : ℕ) → rows_of q.cut q.width q.height k ≡ q.cut.high
tile_rows q t k = cond-true (are_tiles q.cut.kind) q.cut.high (min q.cut.high (q.height - first_row q.cut q.width k)) (ap are_tiles t)

module _ (q : Outline) (proper : Proper q) (f : q.cut.kind ≡ Strip) where
  one_across : ceil q.width q.cut.wide ≡ 1
  one_across = ap (ceil q.width) (proper.spanned f).0 ∙ across_strip q.width proper.some_wide

  pub strip_rows : (k : ℕ) → rows_of q.cut q.width q.height k ≡ min q.cut.high (q.height - k * q.cut.high)
  strip_rows k =
      cond-false (are_tiles q.cut.kind) q.cut.high (min q.cut.high (q.height - first_row q.cut q.width k)) (ap are_tiles f)
      ∙ ap (λ a. min q.cut.high (q.height - a * q.cut.high)) (ap (λ a. k / a) one_across ∙ div-one k)

  strip_count : segments_in q ≡ ceil q.height q.cut.high
  unfolding segments
  strip_count = ap (λ a. ceil q.height q.cut.high * a) one_across ∙ (omega arith)

full : (h d k : ℕ) → 0 < d → suc (suc k) * d ≤ h + (d - 1) → min d (h - k * d) ≡ d
full h d k z e = omega (arith, suc-mul (suc k) d, suc-mul k d)

-- each segment but the last has as many rows as the first, and the last has no more
pub rows_same : (q : Outline) → Proper q → (k : ℕ) → suc k < segments_in q → rows_of q.cut q.width q.height k ≡ rows_of q.cut q.width q.height 0
rows_same q proper k m =
    ⊎_elim (λ t. tile_rows q t k ∙ sym (tile_rows q t 0))
    (λ f. let h : ℕ = q.height in
    let d : ℕ = q.cut.high in
    let positive : 0 < q.cut.high = (segment_sides q proper).some_high in
    let all : suc (suc k) ≤ ceil q.height q.cut.high = omega (arith, strip_count q proper f) in
    let enough : suc (suc k) * q.cut.high ≤ q.height + (q.cut.high - 1) = (le-div_iff_mul-le positive).0 all in
    strip_rows q proper f k ∙ full h d k positive enough ∙ sym (strip_rows q proper f 0 ∙ first h d (proper.spanned f).1))
    (cases_kind q.cut.kind)
  where
    first : (h d : ℕ) → d ≤ h → min d (h - 0 * d) ≡ d
    first h d l = omega (arith, zero-mul d)

pub rows_most : (q : Outline) → Proper q → (k : ℕ) → rows_of q.cut q.width q.height k ≤ rows_of q.cut q.width q.height 0
rows_most q proper k =
    ⊎_elim (λ t. omega (arith, tile_rows q t k, tile_rows q t 0))
    (λ f. omega (arith, strip_rows q proper f k, strip_rows q proper f 0, zero-mul q.cut.high, (proper.spanned f).1))
    (cases_kind q.cut.kind)

pub first_rows : (q : Outline) → Proper q → rows_of q.cut q.width q.height 0 ≡ q.cut.high
first_rows q proper =
    ⊎_elim (λ t. tile_rows q t 0)
    (λ f. omega (arith, strip_rows q proper f 0, zero-mul q.cut.high, (proper.spanned f).1))
    (cases_kind q.cut.kind)

-- a row takes some bytes, and no more than three a pixel
row_some : (n : ℕ) → 0 < n → (b : ℕ) → Bits b → 0 < packed_size b n
row_some n l = by_bits (λ b. 0 < packed_size b n) (omega arith) (omega arith) (omega arith)

row_most : (n : ℕ) → (b : ℕ) → Bits b → packed_size b n ≤ n
row_most n = by_bits (λ b. packed_size b n ≤ n) (omega arith) (omega arith) (omega arith)

pub row_positive : (q : Outline) → Proper q → 0 < row_bytes q.cut q.kind
row_positive q proper =
    row_some (q.cut.wide * samples_of q.kind)
    (omega (arith, mul-lt 0 0 q.cut.wide (samples_of q.kind) (segment_sides q proper).some_wide (samples_positive q.kind)))
    q.kind.bits (allowed_bits q.kind proper.kind)

pub row_bounded : (q : Outline) → Proper q → row_bytes q.cut q.kind ≤ 49152
row_bounded q proper =
    let s = segment_sides q proper in
    let w : ℕ = q.cut.wide in
    omega (
      arith,
      row_most (w * samples_of q.kind) q.kind.bits (allowed_bits q.kind proper.kind),
      cond_both (eqb (number_of q.kind.photometric) 2) 3 1 (λ n. w * n ≤ 49152) (λ _. omega (arith, s.wide)) (λ _. omega (arith, s.wide)),
    )

pub segment_positive : (q : Outline) → Proper q → 0 < segment_size q 0
segment_positive q proper =
    omega (
      arith,
      mul-lt 0 0 (rows_of q.cut q.width q.height 0) (row_bytes q.cut q.kind)
          (omega (arith, first_rows q proper, (segment_sides q proper).some_high)) (row_positive q proper),
    )

pub segment_most : (q : Outline) → Proper q → (k : ℕ) → segment_size q k ≤ segment_size q 0
segment_most q proper k = mul-le-mul_right (row_bytes q.cut q.kind) (rows_most q proper k)

pub segment_same : (q : Outline) → Proper q → (k : ℕ) → suc k < segments_in q → segment_size q k ≡ segment_size q 0
segment_same q proper k m = ap (λ r. r * row_bytes q.cut q.kind) (rows_same q proper k m)

-- How large a draft can be.

pub ceil_most : (n d : ℕ) → 0 < d → ceil n d ≤ n
ceil_most n d z =
    let l : ceil n d < suc n = (div-lt_iff_lt-mul z).1 (omega (arith, suc-mul n d, mul-le-mul_left n z)) in
    omega arith

pub few_segments : (q : Outline) → Proper q → segments_in q ≤ 268435456
unfolding segments
few_segments q proper =
    let s = segment_sides q proper in
    mul-le-mul {n₁ = ceil q.height q.cut.high} {m₁ = ceil q.width q.cut.wide} {n₂ = 16384} {m₂ = 16384}
    (omega (arith, ceil_most q.height q.cut.high s.some_high, proper.high))
    (omega (arith, ceil_most q.width q.cut.wide s.some_wide, proper.wide))

pub segment_bounded : (q : Outline) → Proper q → (k : ℕ) → segment_size q k ≤ 805306368
segment_bounded q proper k =
    let s = segment_sides q proper in
    omega (
      arith,
      segment_most q proper k,
      mul-le-mul {n₁ = rows_of q.cut q.width q.height 0} {m₁ = row_bytes q.cut q.kind} {n₂ = 16384} {m₂ = 49152}
          (omega (arith, first_rows q proper, s.high)) (row_bounded q proper),
    )

pub head_bounded : (q : Outline) → segments_in q ≤ 1024 → head_size q ≤ 8376
head_bounded q many =
    omega (
      arith,
      cond_both (are_tiles q.cut.kind) 13 12 (λ n. n ≤ 13) (λ _. omega arith) (λ _. omega arith),
      cond_both (eqb (number_of q.kind.photometric) 2) 6 0 (λ n. n ≤ 6) (λ _. omega arith) (λ _. omega arith),
      cond_both (leb (segments_in q) 1) 0 (4 * segments_in q) (λ n. n ≤ 4096) (λ _. omega arith) (λ _. omega arith),
    )

-- a block of at most 1,024 segments
pub block_bounded : (q : Outline) → Proper q → segments_in q ≤ 1024 → block_size q ≤ 824633729208
unfolding block_size
block_bounded q proper many =
    omega (
      arith,
      head_bounded q many,
      segment_bounded q proper (segments_in q - 1),
      mul-le-mul {n₁ = segments_in q - 1} {m₁ = segment_size q 0} {n₂ = 1023} {m₂ = 805306368} (omega arith) (segment_bounded q proper 0),
    )

-- The outline of a draft is proper.

pub cut_limited : (ps : Pieces) (width height : ℕ) → limited ps ≡ true → 1 ≤ height → limited (pieces_of (cut_by ps width height)) ≡ true
cut_limited (Strips rows) width height l h = le-leb 1 (min rows height) (omega (arith, leb-true 1 rows l))
cut_limited (Tiles wide high) width height l h = l

pub cut_spans : (ps : Pieces) (width height : ℕ) → Spans (cut_by ps width height) width height
cut_spans (Strips rows) width height e = (refl, omega arith)
cut_spans (Tiles wide high) width height e = absurd cc

pub outlined_proper : (o : Endian) (ps : Pieces) (width height : ℕ) (kind : Kind) → limited ps ≡ true
    → allowed kind ≡ true → 1 ≤ width → width ≤ 16384 → 1 ≤ height → height ≤ 16384 → Proper (outlined o ps width height kind)
outlined_proper o ps width height kind l k w wm h hm = record {
  kind = k;
  some_wide = w;
  some_high = h;
  wide = wm;
  high = hm;
  limits = cut_limited ps width height l h;
  spanned = cut_spans ps width height;
}

-- a sound picture with some column has some row
pub some_rows : (p : Picture) → Sound p → 0 < p.width → 0 < p.height
some_rows p sound w = ⊎_elim (λ e. absurd (omega (arith, ap (λ (r : Picture). r.width) e))) (λ h. h.1) sound.sides

pub outline_proper : (o : Endian) (ps : Pieces) (p : Picture) → limited ps ≡ true → Sound p → 0 < p.width → Proper (outline_of o ps p)
outline_proper o ps p l sound w =
    outlined_proper o ps p.width p.height p.kind l sound.kinds w sound.wide (some_rows p sound w) sound.high
