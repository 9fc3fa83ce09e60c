-- The segments of a page that holds a block: their offsets, and the pixels in them.
use Rattle.std.proofs.Common.{◌≡◌, ℕ, zero, suc, ◌+◌, ◌-◌, ◌*◌, ◌/◌, ◌%◌, ◌^◌, ◌<◌, ◌≤◌, min, true, false, ltb, List, length, get_or, Ok, sym, refl, ap, ◌∙◌, subst, ap₂, mod-lt, div-add-mod', arith}
use lib.Arith.{digits_lt, digits_div, digits_mod}
use Rattle.std.proofs.lemmas.Nat.{pow_pos}
use Rattle.std.proofs.lemmas.List.FromFn.{length-map-range_with_len, get_or-map-range_with_len}
use Rattle.std.proofs.lemmas.Bool.{lt-ltb, le-leb, cond-true, cond_both, and_from, eqb-true}
use Rattle.std.proofs.lemmas.Bool.Decides.{nat_tests}
use Rattle.faults.specs.declared.fault.Check.TheVariants.{Segment}
use Rattle.faults.specs.Faults.{fault, then}
use Rattle.octets.specs.Digits.{digit}
use Rattle.octets.specs.Rows.{byte, Holds, per_byte, packed_size, sample_in}
use Rattle.octets.proofs.Digits.{packed_same, packed_digit}
use Rattle.octets.proofs.Rows.{holds_chain, length_packed_row, sample_back, sample_within}
use Rattle.reads.specs.Reads.{inside}
use Rattle.raster.specs.declared.grid.Photometric.{Photometric}
use Rattle.raster.specs.declared.grid.Photometric.TheVariants.{WhiteIsZero, BlackIsZero, Rgb}
use Rattle.raster.specs.Picture.{allowed, levels, kind_of, within, framed}
use Rattle.entries.specs.Fields.{number_at}
use Rattle.pages.specs.declared.layout.Layout.{Layout}
use Rattle.pages.specs.Geometry.{samples_of, across, segments, first_row, rows_of, row_bytes, needed}
use Rattle.pages.specs.Segments.{offset_of, byte_count_of, lacking, segment_at, segments_from, filled}
use Rattle.stored.specs.Pixels.{segment_of, pixel_in, stored_pixel}
use Rattle.stored.specs.Sane.{allowed_bits}
use Rattle.stored.specs.Soundness.{levels_samples}
use Rattle.pages.specs.declared.layout.SegmentKind.{SegmentKind}
use Rattle.pages.specs.Tags.{are_tiles, offsets_tag}
use Rattle.plans.specs.declared.outline.Outline.{Outline}
use Rattle.plans.specs.Outlines.{Proper, segments_in, segment_size, offsets_by, counts_by, block_layout}
use Rattle.plans.specs.Blocks.{pixel_of, sample_of, row_of, segment, offsets_from, byte_counts}
use Rattle.pages.proofs.Cutting.{div_below_ceil}
use Rattle.plans.proofs.Outlines.{segment_sides}
use Rattle.blocks.proofs.Bytes.{digit_below}
use Rattle.blocks.proofs.Directory.{not_refused}
use Rattle.blocks.proofs.Numbers.{longs_read}
use Rattle.blocks.proofs.Places.{length_segment}
use Rattle.roundtrip.proofs.Reading.{HeldBy, offsets_held, counts_held}

right_segment : (offset count need n : ℕ) → 8 ≤ offset → need ≤ count → offset + need ≤ n → lacking n offset count need ≡ false
right_segment offset count need n a b c = grind (arith, nat_tests)

-- the bytes of a pixel lie in its row
room : (p : Photometric) (b : ℕ) → allowed (kind_of p b) ≡ true → (wide x : ℕ) → x < wide
    → x * samples_of (kind_of p b) / per_byte b + samples_of (kind_of p b) ≤ packed_size b (wide * samples_of (kind_of p b))
room WhiteIsZero b t wide x l = let w = sample_within (wide * 1) (x * 1) (omega arith) b (allowed_bits (kind_of WhiteIsZero b) t) in omega arith
room BlackIsZero b t wide x l = let w = sample_within (wide * 1) (x * 1) (omega arith) b (allowed_bits (kind_of BlackIsZero b) t) in omega arith
room Rgb b t wide x l = subst (λ n. x * 3 / per_byte n + 3 ≤ packed_size n (wide * 3)) (sym (eqb-true b 8 t)) (omega arith)

module _ (q : Outline) (at : ℕ → ℕ → ℕ) (bs : List ℕ) (place start : ℕ) (proper : Proper q)
    (values : HeldBy q.cut.kind q bs place start)
    (low : (k : ℕ) → k < segments_in q → start + k * segment_size q 0 < 4294967296)
    (small : (k : ℕ) → k < segments_in q → segment_size q k < 4294967296)
    (far : 8 ≤ start)
    (held : (k : ℕ) → k < segments_in q → Holds bs (start + k * segment_size q 0) (segment q at k)) where
  abbrev layout : Layout
  layout = block_layout q place

  offset_by : (t : SegmentKind) → HeldBy t q bs place start → (k : ℕ) → k < segments_in q → number_at q.endian bs (offsets_by t q place) k ≡ start + k * segment_size q 0
  offset_by t h k l =
      let f : ℕ → ℕ = λ k. start + k * segment_size q 0 in
      let len : length (offsets_from q start) ≡ segments_in q = length-map-range_with_len f 0 (segments_in q) in
      let value : get_or (offsets_from q start) k 0 ≡ start + k * segment_size q 0 = get_or-map-range_with_len f 0 (segments_in q) k k 0 l (omega arith) in
      longs_read q.endian bs (segments_in q) (offsets_by t q place).place (offsets_from q start) k (omega arith) (omega (arith, low k l)) (offsets_held q bs place start proper t h)
      ∙ value

  count_by : (t : SegmentKind) → HeldBy t q bs place start → (k : ℕ) → k < segments_in q → number_at q.endian bs (counts_by t q place) k ≡ segment_size q k
  count_by t h k l =
      let len : length (byte_counts q) ≡ segments_in q = length-map-range_with_len (segment_size q) 0 (segments_in q) in
      let value : get_or (byte_counts q) k 0 ≡ segment_size q k = get_or-map-range_with_len (segment_size q) 0 (segments_in q) k k 0 l (omega arith) in
      longs_read q.endian bs (segments_in q) (counts_by t q place).place (byte_counts q) k (omega arith) (omega (arith, small k l)) (counts_held q bs place start proper t h)
      ∙ value

  pub offset_read : (k : ℕ) → k < segments_in q → offset_of bs layout k ≡ start + k * segment_size q 0
  unfolding block_layout
  offset_read k l = offset_by q.cut.kind values k l

  count_read : (k : ℕ) → k < segments_in q → byte_count_of bs layout k ≡ segment_size q k
  unfolding block_layout
  count_read k l = count_by q.cut.kind values k l

  pub needed_is : (k : ℕ) → needed layout k ≡ segment_size q k
  unfolding needed block_layout
  needed_is k = refl

  segment_passes : (k : ℕ) → k < segments_in q → segment_at bs layout k ≡ Ok tt
  unfolding segment_at
  segment_passes k l =
      not_refused (lacking (length bs) (offset_of bs layout k) (byte_count_of bs layout k) (needed layout k))
      (fault Segment layout.directory.page (offsets_tag layout.cut.kind) (offset_of bs layout k)) (Ok tt)
      (right_segment (offset_of bs layout k) (byte_count_of bs layout k) (needed layout k) (length bs)
      (omega (arith, offset_read k l))
      (omega (arith, count_read k l, needed_is k))
      (omega (arith, offset_read k l, needed_is k, (held k l).fits, length_segment q at k)))

  segments_pass : (left k : ℕ) → k + left ≤ segments_in q → segments_from left bs layout k ≡ Ok tt
  unfolding segments_from
  segments_pass zero k l = refl
  segments_pass (suc left) k l =
      ap (λ r. then r (λ _. segments_from left bs layout (k + 1))) (segment_passes k (omega arith))
      ∙ segments_pass left (k + 1) (omega arith)

  pub page_filled : filled bs layout ≡ Ok layout
  unfolding filled block_layout
  page_filled = ap (λ r. then r (λ _. Ok layout)) (segments_pass (segments_in q) 0 (omega arith))

  -- The pixel at a column and a row within the sides.

  module _ (x y : ℕ) (inx : x < q.width) (iny : y < q.height) where
    abbrev here : ℕ
    here = segment_of q.cut q.width x y

    in_across : x / q.cut.wide < across q.cut q.width
    in_across = div_below_ceil x q.width q.cut.wide (segment_sides q proper).some_wide inx

    in_segments : here < segments_in q
    unfolding segments
    in_segments = digits_lt (div_below_ceil y q.height q.cut.high (segment_sides q proper).some_high iny) in_across

    column_of : here % across q.cut q.width ≡ x / q.cut.wide
    column_of = digits_mod (y / q.cut.high) in_across

    row_of_lem : here / across q.cut q.width ≡ y / q.cut.high
    row_of_lem = digits_div (y / q.cut.high) in_across

    in_rows : y % q.cut.high < rows_of q.cut q.width q.height here
    in_rows =
        let l : y % q.cut.high < q.cut.high = mod-lt y (segment_sides q proper).some_high in
        let e : first_row q.cut q.width here ≡ y / q.cut.high * q.cut.high = ap (λ r. r * q.cut.high) row_of_lem in
        cond_both (are_tiles q.cut.kind) q.cut.high (min q.cut.high (q.height - first_row q.cut q.width here)) (λ n. y % q.cut.high < n)
        (λ _. l)
        (λ _. rw e (omega (arith, div-add-mod' y q.cut.high)))

    pixel_of_lem : pixel_of q at here (x % q.cut.wide) (y % q.cut.high) ≡ at x y
    pixel_of_lem =
        ap₂ (framed q.width q.height at)
        (ap (λ a. a * q.cut.wide + x % q.cut.wide) column_of ∙ div-add-mod' x q.cut.wide)
        (ap (λ a. a * q.cut.high + y % q.cut.high) row_of_lem ∙ div-add-mod' y q.cut.high)
        ∙ cond-true (within q.width q.height x y) (at x y) 0
        (and_from (ltb x q.width) (ltb y q.height) (lt-ltb x q.width inx) (lt-ltb y q.height iny))

    abbrev from : ℕ
    from = offset_of bs layout here + y % q.cut.high * row_bytes q.cut q.kind

    row_held : Holds bs from (row_of q at here (y % q.cut.high))
    unfolding segment
    row_held =
        holds_chain bs (row_of q at here) (row_bytes q.cut q.kind) (offset_of bs layout here)
        (rows_of q.cut q.width q.height here) (y % q.cut.high)
        (λ i _. length_packed_row q.kind.bits (q.cut.wide * samples_of q.kind) (sample_of q at here i))
        in_rows (subst (λ p. Holds bs p (segment q at here)) (sym (offset_read here in_segments)) (held here in_segments))

    row_length : length (row_of q at here (y % q.cut.high)) ≡ row_bytes q.cut q.kind
    row_length = length_packed_row q.kind.bits (q.cut.wide * samples_of q.kind) (sample_of q at here (y % q.cut.high))

    abbrev first : ℕ
    first = x % q.cut.wide * samples_of q.kind

    sample_of_lem : (j : ℕ) → j < samples_of q.kind →
        sample_in q.kind.bits (λ i. byte bs (from + i)) (first + j) ≡ digit (2 ^ q.kind.bits) (samples_of q.kind) (at x y) j
    sample_of_lem j l =
        sample_back q.kind.bits (q.cut.wide * samples_of q.kind) (sample_of q at here (y % q.cut.high)) (λ i. byte bs (from + i))
        (allowed_bits q.kind proper.kind)
        (λ s _. digit_below (2 ^ q.kind.bits) (samples_of q.kind) (pixel_of q at here (s / samples_of q.kind) (y % q.cut.high)) (s % samples_of q.kind) (pow_pos q.kind.bits))
        (λ i m. row_held.same i (omega (arith, row_length)))
        (first + j)
        (digits_lt (mod-lt x (segment_sides q proper).some_wide) l)
        ∙ ap₂ (λ v t. digit (2 ^ q.kind.bits) (samples_of q.kind) v t)
        (ap (λ a. pixel_of q at here a (y % q.cut.high)) (digits_div (x % q.cut.wide) l) ∙ pixel_of_lem)
        (digits_mod (x % q.cut.wide) l)

    pixel_inside : inside bs (from + first / per_byte q.kind.bits) (samples_of q.kind) ≡ true
    pixel_inside =
        le-leb (from + first / per_byte q.kind.bits + samples_of q.kind) (length bs)
        (omega (arith, row_held.fits, row_length, room q.kind.photometric q.kind.bits proper.kind q.cut.wide (x % q.cut.wide) (mod-lt x (segment_sides q proper).some_wide)))

    pub pixel_back : at x y < levels q.kind → stored_pixel bs layout x y ≡ at x y
    unfolding stored_pixel pixel_in block_layout
    pixel_back below =
        cond-true (inside bs (from + first / per_byte q.kind.bits) (samples_of q.kind)) (pixel_in bs layout x y) 0 pixel_inside
        ∙ packed_same (2 ^ q.kind.bits) (samples_of q.kind)
        (λ j. sample_in q.kind.bits (λ i. byte bs (from + i)) (first + j))
        (digit (2 ^ q.kind.bits) (samples_of q.kind) (at x y))
        sample_of_lem
        ∙ packed_digit (2 ^ q.kind.bits) (samples_of q.kind) (at x y) (subst (λ n. at x y < n) (sym (levels_samples q.kind proper.kind)) below)
