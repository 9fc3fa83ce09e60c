-- The fields of a block can be written and read back, and their size.
use Rattle.std.proofs.Common.{◌≡◌, ℕ, zero, suc, ◌+◌, ◌*◌, ◌%◌, ◌<◌, ◌≤◌, Bool, true, false, cond, eqb, leb, List, [], ◌∷◌, length, get_or, refl, ap, ◌∙◌, arith}
use Rattle.std.proofs.lemmas.List.FromFn.{length-map-range_with_len, get_or-map-range_with_len}
use Rattle.std.proofs.lemmas.Bool.{lt-ltb, cond_both}
use Rattle.std.proofs.lemmas.Bool.Decides.{nat_tests}
use Rattle.octets.specs.Rows.{tabulate, Bits}
use Rattle.octets.proofs.Rows.{by_bits}
use Rattle.raster.specs.declared.grid.Photometric.{Photometric}
use Rattle.raster.specs.declared.grid.Photometric.TheVariants.{WhiteIsZero, BlackIsZero, Rgb}
use Rattle.raster.specs.Picture.{number_of}
use Rattle.pages.specs.Geometry.{samples_of}
use Rattle.entries.specs.declared.entry.Shape.TheVariants.{Bits as BitsShape}
use Rattle.entries.specs.Entries.{shape_of, fits}
use Rattle.stored.specs.Sane.{allowed_bits}
use Rattle.pages.specs.declared.layout.SegmentKind.{SegmentKind}
use Rattle.pages.specs.declared.layout.SegmentKind.TheVariants.{Strip, Tile}
use Rattle.pages.specs.Tags.{are_tiles}
use Rattle.plans.specs.declared.outline.Outline.{Outline}
use Rattle.plans.specs.Outlines.{Proper, segments_in, segment_size, bits_size, longs_size, head_size}
use Rattle.plans.specs.Directories.{shorts, longs, rational, outer_size, directory_bytes}
use Rattle.plans.specs.Blocks.{sample_bits, fields_by, fields_in}
use Rattle.blocks.proofs.Directory.{Good, Fit, GoodAll, SizedAll, Ascending, outers, length_directory}
use Rattle.plans.proofs.Outlines.{segment_sides, samples_few}

good_shorts : (tag : ℕ) (ns : List ℕ) → tag < 65536 → length ns < 65536 → ((j : ℕ) → j < length ns → get_or ns j 0 < 65536)
    → Fit (shape_of tag) 3 (length ns) → Good (shorts tag ns)
good_shorts tag ns t c fit shape = record {
  tag_fits = t;
  kind_fits = omega arith;
  count_fits = omega arith;
  sized = omega arith;
  numbers_fit = fit;
  even = cond_both (leb (2 * length ns) 4) 0 (2 * length ns) (λ n. n % 2 ≡ 0) (λ _. refl) (λ _. omega arith);
  shape = shape;
}

good_longs : (tag : ℕ) (ns : List ℕ) → tag < 65536 → length ns < 65536 → ((j : ℕ) → j < length ns → get_or ns j 0 < 4294967296)
    → Fit (shape_of tag) 4 (length ns) → Good (longs tag ns)
good_longs tag ns t c fit shape = record {
  tag_fits = t;
  kind_fits = omega arith;
  count_fits = omega arith;
  sized = omega arith;
  numbers_fit = fit;
  even = cond_both (leb (4 * length ns) 4) 0 (4 * length ns) (λ n. n % 2 ≡ 0) (λ _. refl) (λ _. omega arith);
  shape = shape;
}

one_fits : (v bound : ℕ) → v < bound → (j : ℕ) → j < length (v ∷ []) → get_or (v ∷ []) j 0 < bound
one_fits v bound h zero l = h
one_fits v bound h (suc j) l = absurd (omega arith)

good_short : (tag v : ℕ) → tag < 65536 → v < 65536 → Fit (shape_of tag) 3 1 → Good (shorts tag (v ∷ []))
good_short tag v t h shape = good_shorts tag (v ∷ []) t (omega arith) (one_fits v 65536 h) shape

good_long : (tag v : ℕ) → tag < 65536 → v < 4294967296 → Fit (shape_of tag) 4 1 → Good (longs tag (v ∷ []))
good_long tag v t h shape = good_longs tag (v ∷ []) t (omega arith) (one_fits v 4294967296 h) shape

two_fit : (a b bound : ℕ) → a < bound → b < bound → (j : ℕ) → j < length (a ∷ b ∷ []) → get_or (a ∷ b ∷ []) j 0 < bound
two_fit a b bound h k zero l = h
two_fit a b bound h k (suc zero) l = k
two_fit a b bound h k (suc (suc j)) l = absurd (omega arith)

good_rational : (tag : ℕ) → tag < 65536 → Fit (shape_of tag) 5 1 → Good (rational tag 1 1)
good_rational tag t shape = record {
  tag_fits = t;
  kind_fits = omega arith;
  count_fits = omega arith;
  sized = refl;
  numbers_fit = two_fit 1 1 4294967296 (omega arith) (omega arith);
  even = refl;
  shape = shape;
}

table_fits : (n bound : ℕ) (f : ℕ → ℕ) → ((k : ℕ) → k < n → f k < bound) → (j : ℕ) → j < length (tabulate n f) → get_or (tabulate n f) j 0 < bound
table_fits n bound f h j l =
    let m : j < n = omega (arith, length-map-range_with_len f 0 n) in
    omega (arith, get_or-map-range_with_len f 0 n j j 0 m (omega arith), h j m)

bits_small : (b : ℕ) → Bits b → b < 65536
bits_small = by_bits (λ b. b < 65536) (omega arith) (omega arith) (omega arith)

pub kind_small : (q : Outline) → Proper q → q.kind.bits < 65536
kind_small q proper = bits_small q.kind.bits (allowed_bits q.kind proper.kind)

pub photometric_small : (p : Photometric) → number_of p < 65536
photometric_small WhiteIsZero = omega arith
photometric_small BlackIsZero = omega arith
photometric_small Rgb = omega arith

-- the bits, one number for each sample
good_bits : (q : Outline) → Proper q → Good (shorts 258 (sample_bits q))
good_bits q proper =
    let b : ℕ = q.kind.bits in
    let len : length (sample_bits q) ≡ samples_of q.kind = length-map-range_with_len (λ (i : ℕ). b) 0 (samples_of q.kind) in
    good_shorts 258 (sample_bits q) (omega arith) (omega (arith, samples_few q.kind))
    (table_fits (samples_of q.kind) 65536 (λ _. b) (λ _ _. kind_small q proper))
    (ap (fits BitsShape 3) len ∙ cond_both (eqb (number_of q.kind.photometric) 2) 3 1 (λ s. fits BitsShape 3 s ≡ true) (λ _. refl) (λ _. refl))

good_table : (tag n : ℕ) (f : ℕ → ℕ) → tag < 65536 → 0 < n → n ≤ 1024 → ((k : ℕ) → k < n → f k < 4294967296)
    → ((c : ℕ) → 0 < c → Fit (shape_of tag) 4 c) → Good (longs tag (tabulate n f))
good_table tag n f t some few h shape =
    good_longs tag (tabulate n f) t (omega (arith, length-map-range_with_len f 0 n)) (table_fits n 4294967296 f h)
    (shape (length (tabulate n f)) (omega (arith, length-map-range_with_len f 0 n)))

pub sized_fields : (t : SegmentKind) (q : Outline) (start : ℕ) → SizedAll (fields_by t q start)
sized_fields Strip q start = omega arith
sized_fields Tile q start = omega arith

pub ascending_fields : (t : SegmentKind) (q : Outline) (start : ℕ) → Ascending 0 (fields_by t q start)
ascending_fields Strip q start = omega arith
ascending_fields Tile q start = omega arith

pub count_fields : (t : SegmentKind) (q : Outline) (start : ℕ) → length (fields_by t q start) ≡ cond (are_tiles t) 13 12
count_fields Strip q start = refl
count_fields Tile q start = refl

pub good_fields : (t : SegmentKind) (q : Outline) (start : ℕ) → Proper q → 0 < segments_in q → segments_in q ≤ 1024
    → ((k : ℕ) → k < segments_in q → start + k * segment_size q 0 < 4294967296)
    → ((k : ℕ) → k < segments_in q → segment_size q k < 4294967296)
    → GoodAll (fields_by t q start)
good_fields t q start proper some few offsets counts = by t
  where
    width : Good (longs 256 (q.width ∷ []))
    width = good_long 256 q.width (omega arith) (omega (arith, proper.wide)) refl

    height : Good (longs 257 (q.height ∷ []))
    height = good_long 257 q.height (omega arith) (omega (arith, proper.high)) refl

    photometric : Good (shorts 262 (number_of q.kind.photometric ∷ []))
    photometric = good_short 262 (number_of q.kind.photometric) (omega arith) (photometric_small q.kind.photometric) refl

    samples : Good (shorts 277 (samples_of q.kind ∷ []))
    samples = good_short 277 (samples_of q.kind) (omega arith) (omega (arith, samples_few q.kind)) refl

    wide : q.cut.wide < 4294967296
    wide = omega (arith, (segment_sides q proper).wide)

    high : q.cut.high < 4294967296
    high = omega (arith, (segment_sides q proper).high)

    by : (t : SegmentKind) → GoodAll (fields_by t q start)
    by Strip = (
      width,
      (
        height,
        (
          good_bits q proper,
          (
            good_short 259 1 (omega arith) (omega arith) refl,
            (
              photometric,
              (
                good_table 273 (segments_in q) (λ k. start + k * segment_size q 0) (omega arith) some few offsets (λ n m. lt-ltb 0 n m),
                (
                  samples,
                  (
                    good_long 278 q.cut.high (omega arith) high refl,
                    (
                      good_table 279 (segments_in q) (segment_size q) (omega arith) some few counts (λ n m. lt-ltb 0 n m),
                      (
                        good_rational 282 (omega arith) tt,
                        (
                          good_rational 283 (omega arith) tt,
                          (good_short 296 1 (omega arith) (omega arith) tt, tt),
                        ),
                      ),
                    ),
                  ),
                ),
              ),
            ),
          ),
        ),
      ),
    )
    by Tile = (
      width,
      (
        height,
        (
          good_bits q proper,
          (
            good_short 259 1 (omega arith) (omega arith) refl,
            (
              photometric,
              (
                samples,
                (
                  good_rational 282 (omega arith) tt,
                  (
                    good_rational 283 (omega arith) tt,
                    (
                      good_short 296 1 (omega arith) (omega arith) tt,
                      (
                        good_long 322 q.cut.wide (omega arith) wide refl,
                        (
                          good_long 323 q.cut.high (omega arith) high refl,
                          (
                            good_table 324 (segments_in q) (λ k. start + k * segment_size q 0) (omega arith) some few offsets (λ n m. lt-ltb 0 n m),
                            (good_table 325 (segments_in q) (segment_size q) (omega arith) some few counts (λ n m. lt-ltb 0 n m), tt),
                          ),
                        ),
                      ),
                    ),
                  ),
                ),
              ),
            ),
          ),
        ),
      ),
    )

-- The size of what stands before the segments.

pub outer_bits : (q : Outline) → outer_size (shorts 258 (sample_bits q)) ≡ bits_size q.kind
outer_bits q =
    ap (λ n. cond (leb (2 * n) 4) 0 (2 * n)) (length-map-range_with_len (λ (i : ℕ). q.kind.bits) 0 (samples_of q.kind))
    ∙ go (eqb (number_of q.kind.photometric) 2)
  where
    go : (t : Bool) → cond (leb (2 * cond t 3 1) 4) 0 (2 * cond t 3 1) ≡ cond t 6 0
    go true = refl
    go false = refl

pub outer_table : (tag n : ℕ) (f : ℕ → ℕ) → outer_size (longs tag (tabulate n f)) ≡ longs_size n
outer_table tag n f = ap (λ n. cond (leb (4 * n) 4) 0 (4 * n)) (length-map-range_with_len f 0 n) ∙ go n
  where
    go : (n : ℕ) → cond (leb (4 * n) 4) 0 (4 * n) ≡ cond (leb n 1) 0 (4 * n)
    go n = grind (arith, nat_tests)

pub outers_fields : (t : SegmentKind) (q : Outline) (start : ℕ) → outers (fields_by t q start) ≡ bits_size q.kind + (16 + 2 * longs_size (segments_in q))
outers_fields Strip q start =
    omega (arith, outer_bits q, outer_table 273 (segments_in q) (λ k. start + k * segment_size q 0), outer_table 279 (segments_in q) (segment_size q))
outers_fields Tile q start =
    omega (arith, outer_bits q, outer_table 324 (segments_in q) (λ k. start + k * segment_size q 0), outer_table 325 (segments_in q) (segment_size q))

pub head_length : (q : Outline) (place : ℕ) → length (directory_bytes q.endian place (fields_in q place)) ≡ head_size q
head_length q place =
    let t : SegmentKind = q.cut.kind in
    let start : ℕ = place + head_size q in
    omega (arith, length_directory q.endian place (fields_by t q start) (sized_fields t q start), outers_fields t q start, count_fields t q start)
