-- The values after a draft's directory, byte by byte.
use Rattle.std.proofs.Common.{◌≡◌, ℕ, zero, suc, ◌+◌, ◌-◌, ◌*◌, ◌/◌, ◌%◌, ◌<◌, ◌≤◌, Bool, true, false, cond, eqb, leb, List, [], ◌∷◌, ◌++◌, length, get_or, sym, refl, ap, ◌∙◌, ⊎_elim, mod-lt, div-lt_iff_lt-mul, div-add-mod', arith}
use Rattle.std.specs.List.{flat_map}
use Rattle.std.proofs.lemmas.List.{get_or_append_left, get_or-append_right}
use Rattle.std.proofs.lemmas.List.FromFn.{length-map-range_with_len, get_or-map-range_with_len}
use Rattle.std.proofs.lemmas.Bool.{cases_lt, cond-true, cond-false, cond_both, leb-false, lt-leb}
use Rattle.octets.specs.declared.endian.Endian.{Endian}
use Rattle.octets.specs.Digits.{byte_of}
use Rattle.octets.specs.Numbers.{number_bytes}
use Rattle.octets.specs.Rows.{byte, tabulate}
use Rattle.raster.specs.Picture.{number_of}
use Rattle.pages.specs.declared.layout.SegmentKind.{SegmentKind}
use Rattle.pages.specs.declared.layout.SegmentKind.TheVariants.{Strip, Tile}
use Rattle.pages.specs.Tags.{are_tiles}
use Rattle.plans.specs.declared.outline.Outline.{Outline}
use Rattle.plans.specs.Outlines.{segments_in, segment_size, bits_size, longs_size, head_size}
use Rattle.plans.specs.Directories.{shorts, longs, rational, inline, value_bytes, outer_bytes}
use Rattle.plans.specs.Blocks.{sample_bits, offsets_from, byte_counts, fields_by}
use Rattle.blocks.proofs.Numbers.{length_number_bytes, number_here}
use Rattle.blocks.proofs.Chains.{holds_self}
use Rattle.blocks.proofs.Directory.{length_outer}
use Rattle.blocks.proofs.Fields.{outer_bits, outer_table}
use Rattle.heads.specs.Values.{bits_at, offsets_at, counts_at, ratios_at, offset_of}
use Rattle.heads.proofs.Shifts.{number_byte}

-- byte j of numbers of w bytes each
numbers_byte : (o : Endian) (w : ℕ) (ns : List ℕ) (j : ℕ) → 0 < w → j < length ns * w
    → byte (flat_map (number_bytes o w) ns) j ≡ byte_of o w (get_or ns (j / w) 0) (j % w)
numbers_byte o w ns j z l =
    let k : j / w < length ns = (div-lt_iff_lt-mul z).1 l in
    let m : j % w < w = mod-lt j z in
    let whole : 0 + j / w * w + j % w ≡ j = omega (arith, div-add-mod' j w) in
    ap (byte (flat_map (number_bytes o w) ns)) (sym whole)
    ∙ (number_here o (flat_map (number_bytes o w) ns) 0 w ns (holds_self (flat_map (number_bytes o w) ns)) (j / w) k).same (j % w) (omega (arith, length_number_bytes o w (get_or ns (j / w) 0)))
    ∙ sym (number_byte o w (get_or ns (j / w) 0) (j % w) m)

-- one LONG a segment
table_value : (o : Endian) (tag n : ℕ) (f : ℕ → ℕ) (j : ℕ) → j < longs_size n → byte (outer_bytes o (longs tag (tabulate n f))) j ≡ byte_of o 4 (f (j / 4)) (j % 4)
table_value o tag n f j l =
    let len : length (tabulate n f) ≡ n = length-map-range_with_len f 0 n in
    let both : (1 < n) × (j < 4 * n) =
    cond_both (leb n 1) 0 (4 * n) (λ m. j < m → (1 < n) × (j < 4 * n)) (λ e k. absurd (omega arith)) (λ e k. (leb-false n 1 e, k)) l in
    let more : 1 < n = both.0 in
    let less : j < 4 * n = both.1 in
    let within : j / 4 < n = omega arith in
    ap (λ (xs : List ℕ). byte xs j) (cond-false (inline (longs tag (tabulate n f))) [] (value_bytes o (longs tag (tabulate n f))) (lt-leb (4 * length (tabulate n f)) 4 (omega arith)))
    ∙ numbers_byte o 4 (tabulate n f) j (omega arith) (omega arith)
    ∙ ap (λ v. byte_of o 4 v (j % 4)) (get_or-map-range_with_len f 0 n (j / 4) (j / 4) 0 within (omega arith))

ratio_value : (o : Endian) (tag j : ℕ) → j < 8 → byte (outer_bytes o (rational tag 1 1)) j ≡ byte_of o 4 1 (j % 4)
ratio_value o tag j l =
    numbers_byte o 4 (1 ∷ 1 ∷ []) j (omega arith) l ∙ ap (λ v. byte_of o 4 v (j % 4)) (one (j / 4) (omega arith))
  where
    one : (k : ℕ) → k < 2 → get_or {A = ℕ} (1 ∷ 1 ∷ []) k 0 ≡ 1
    one zero m = refl
    one (suc zero) m = refl
    one (suc (suc k)) m = absurd (omega arith)

bits_value : (q : Outline) (j : ℕ) → j < bits_size q.kind → byte (outer_bytes q.endian (shorts 258 (sample_bits q))) j ≡ byte_of q.endian 2 q.kind.bits (j % 2)
bits_value q j l = go (eqb (number_of q.kind.photometric) 2) l
  where
    go : (t : Bool) → j < cond {A = ℕ} t 6 0 → byte (outer_bytes q.endian (shorts 258 (tabulate (cond t 3 1) (λ _. q.kind.bits)))) j ≡ byte_of q.endian 2 q.kind.bits (j % 2)
    go true m =
        numbers_byte q.endian 2 (tabulate 3 (λ _. q.kind.bits)) j (omega arith) m
        ∙ ap (λ v. byte_of q.endian 2 v (j % 2)) (get_or-map-range_with_len (λ _. q.kind.bits) 0 3 (j / 2) (j / 2) 0 (omega arith) (omega arith))
    go false m = absurd (omega arith)

-- a byte of lists that stand one after another, the first at place a and the next at place b
stop : (xs ys : List ℕ) (a b i : ℕ) → a + length xs ≡ b → a ≤ i → i < b → byte (xs ++ ys) (i - a) ≡ byte xs (i - a)
stop xs ys a b i e l m = get_or_append_left xs ys 0 (i - a) (omega arith)

skip : (xs ys : List ℕ) (a b i : ℕ) → a + length xs ≡ b → b ≤ i → byte (xs ++ ys) (i - a) ≡ byte ys (i - b)
skip xs ys a b i e l =
    let k : i - a - length xs ≡ i - b = omega arith in
    get_or-append_right xs ys (length xs) (i - a) 0 refl (omega arith) ∙ ap (byte ys) k

-- the two RATIONALs, one after the other
ratios_value : (o : Endian) (ys : List ℕ) (r i : ℕ) → r ≤ i → i < r + 16
    → byte (outer_bytes o (rational 282 1 1) ++ (outer_bytes o (rational 283 1 1) ++ ys)) (i - r) ≡ byte_of o 4 1 ((i - r) % 4)
ratios_value o ys r i l m =
    ⊎_elim
    (λ k. stop (outer_bytes o (rational 282 1 1)) (outer_bytes o (rational 283 1 1) ++ ys) r (r + 8) i refl l k ∙ ratio_value o 282 (i - r) (omega arith))
    (λ k.
    let e : (i - (r + 8)) % 4 ≡ (i - r) % 4 = omega arith in
    skip (outer_bytes o (rational 282 1 1)) (outer_bytes o (rational 283 1 1) ++ ys) r (r + 8) i refl k
    ∙ stop (outer_bytes o (rational 283 1 1)) ys (r + 8) (r + 16) i (omega arith) k m
    ∙ ratio_value o 283 (i - (r + 8)) (omega arith)
    ∙ ap (byte_of o 4 1) e)
    (cases_lt i (r + 8))

-- the values after the directory
abbrev pub outer_in : SegmentKind → Outline → ℕ → List ℕ
outer_in t q place = flat_map (outer_bytes q.endian) (fields_by t q (place + head_size q))

module _ (q : Outline) (place : ℕ) where
  abbrev o : Endian
  o = q.endian

  abbrev n : ℕ
  n = segments_in q

  abbrev size : ℕ
  size = bits_size q.kind

  abbrev L : ℕ
  L = longs_size n

  abbrev offset : ℕ → ℕ
  offset k = place + head_size q + k * segment_size q 0

  abbrev B : List ℕ
  B = outer_bytes o (shorts 258 (sample_bits q))

  abbrev O : ℕ → List ℕ
  O tag = outer_bytes o (longs tag (offsets_from q (place + head_size q)))

  abbrev C : ℕ → List ℕ
  C tag = outer_bytes o (longs tag (byte_counts q))

  abbrev R : List ℕ
  R = outer_bytes o (rational 282 1 1)

  length_B : length B ≡ size
  length_B = length_outer o (shorts 258 (sample_bits q)) (omega arith) ∙ outer_bits q

  length_O : (tag : ℕ) → length (O tag) ≡ L
  length_O tag = length_outer o (longs tag (offsets_from q (place + head_size q))) (omega arith) ∙ outer_table tag n offset

  length_C : (tag : ℕ) → length (C tag) ≡ L
  length_C tag = length_outer o (longs tag (byte_counts q)) (omega arith) ∙ outer_table tag n (segment_size q)

  -- where the values stand, of strips and of tiles
  module _ (strips : q.cut.kind ≡ Strip) where
    a150 : bits_at q ≡ 150
    a150 = ap (λ m. 6 + 12 * m) (cond-false (are_tiles q.cut.kind) 13 12 (ap are_tiles strips))

    a_o : offsets_at q ≡ 150 + size
    a_o = ap (λ m. m + size) (cond-false (are_tiles q.cut.kind) 178 150 (ap are_tiles strips))

    a_r : ratios_at q ≡ 150 + size + 2 * L
    a_r = cond-false (are_tiles q.cut.kind) (162 + size) (150 + size + 2 * L) (ap are_tiles strips)

    module _ (i : ℕ) where
      past_B : offsets_at q ≤ i → byte (outer_in Strip q place) (i - bits_at q) ≡ byte (O 273 ++ (C 279 ++ (R ++ (R ++ [])))) (i - offsets_at q)
      past_B l = skip B (O 273 ++ (C 279 ++ (R ++ (R ++ [])))) (bits_at q) (offsets_at q) i (omega (arith, a150, a_o, length_B)) l

      past_O : counts_at q ≤ i → byte (outer_in Strip q place) (i - bits_at q) ≡ byte (C 279 ++ (R ++ (R ++ []))) (i - counts_at q)
      past_O l = past_B (omega arith) ∙ skip (O 273) (C 279 ++ (R ++ (R ++ []))) (offsets_at q) (counts_at q) i (omega (arith, length_O 273)) l

      past_C : ratios_at q ≤ i → byte (outer_in Strip q place) (i - bits_at q) ≡ byte (R ++ (R ++ [])) (i - ratios_at q)
      past_C l = past_O (omega (arith, a_o, a_r)) ∙ skip (C 279) (R ++ (R ++ [])) (counts_at q) (ratios_at q) i (omega (arith, length_C 279, a_o, a_r)) l

      strip_bits : bits_at q ≤ i → i < bits_at q + size → byte_of o 2 q.kind.bits ((i - bits_at q) % 2) ≡ byte (outer_in Strip q place) (i - bits_at q)
      strip_bits l m = sym (stop B (O 273 ++ (C 279 ++ (R ++ (R ++ [])))) (bits_at q) (bits_at q + size) i (omega (arith, length_B)) l m ∙ bits_value q (i - bits_at q) (omega arith))

      strip_offset : offsets_at q ≤ i → i < counts_at q → byte_of o 4 (offset_of q place ((i - offsets_at q) / 4)) ((i - offsets_at q) % 4) ≡ byte (outer_in Strip q place) (i - bits_at q)
      strip_offset l m =
          sym (past_B l ∙ stop (O 273) (C 279 ++ (R ++ (R ++ []))) (offsets_at q) (counts_at q) i (omega (arith, length_O 273)) l m
          ∙ table_value o 273 n offset (i - offsets_at q) (omega arith))

      strip_count : counts_at q ≤ i → i < counts_at q + L → byte_of o 4 (segment_size q ((i - counts_at q) / 4)) ((i - counts_at q) % 4) ≡ byte (outer_in Strip q place) (i - bits_at q)
      strip_count l m =
          sym (past_O l ∙ stop (C 279) (R ++ (R ++ [])) (counts_at q) (counts_at q + L) i (omega (arith, length_C 279)) l m
          ∙ table_value o 279 n (segment_size q) (i - counts_at q) (omega arith))

      strip_ratio : ratios_at q ≤ i → i < ratios_at q + 16 → byte_of o 4 1 ((i - ratios_at q) % 4) ≡ byte (outer_in Strip q place) (i - bits_at q)
      strip_ratio l m = sym (past_C l ∙ ratios_value o [] (ratios_at q) i l m)

  module _ (tiles : q.cut.kind ≡ Tile) where
    b162 : bits_at q ≡ 162
    b162 = ap (λ m. 6 + 12 * m) (cond-true (are_tiles q.cut.kind) 13 12 (ap are_tiles tiles))

    b_o : offsets_at q ≡ 178 + size
    b_o = ap (λ m. m + size) (cond-true (are_tiles q.cut.kind) 178 150 (ap are_tiles tiles))

    b_r : ratios_at q ≡ 162 + size
    b_r = cond-true (are_tiles q.cut.kind) (162 + size) (150 + size + 2 * L) (ap are_tiles tiles)

    module _ (i : ℕ) where
      beyond_B : ratios_at q ≤ i → byte (outer_in Tile q place) (i - bits_at q) ≡ byte (R ++ (R ++ (O 324 ++ (C 325 ++ [])))) (i - ratios_at q)
      beyond_B l = skip B (R ++ (R ++ (O 324 ++ (C 325 ++ [])))) (bits_at q) (ratios_at q) i (omega (arith, b162, b_r, length_B)) l

      beyond_R : offsets_at q ≤ i → byte (outer_in Tile q place) (i - bits_at q) ≡ byte (O 324 ++ (C 325 ++ [])) (i - offsets_at q)
      beyond_R l =
          beyond_B (omega (arith, b_r, b_o))
          ∙ skip R (R ++ (O 324 ++ (C 325 ++ []))) (ratios_at q) (ratios_at q + 8) i refl (omega (arith, b_r, b_o))
          ∙ skip R (O 324 ++ (C 325 ++ [])) (ratios_at q + 8) (offsets_at q) i (omega (arith, b_r, b_o)) l

      beyond_O : counts_at q ≤ i → byte (outer_in Tile q place) (i - bits_at q) ≡ byte (C 325 ++ []) (i - counts_at q)
      beyond_O l = beyond_R (omega arith) ∙ skip (O 324) (C 325 ++ []) (offsets_at q) (counts_at q) i (omega (arith, length_O 324)) l

      tile_bits : bits_at q ≤ i → i < bits_at q + size → byte_of o 2 q.kind.bits ((i - bits_at q) % 2) ≡ byte (outer_in Tile q place) (i - bits_at q)
      tile_bits l m = sym (stop B (R ++ (R ++ (O 324 ++ (C 325 ++ [])))) (bits_at q) (bits_at q + size) i (omega (arith, length_B)) l m ∙ bits_value q (i - bits_at q) (omega arith))

      tile_offset : offsets_at q ≤ i → i < counts_at q → byte_of o 4 (offset_of q place ((i - offsets_at q) / 4)) ((i - offsets_at q) % 4) ≡ byte (outer_in Tile q place) (i - bits_at q)
      tile_offset l m =
          sym (beyond_R l ∙ stop (O 324) (C 325 ++ []) (offsets_at q) (counts_at q) i (omega (arith, length_O 324)) l m
          ∙ table_value o 324 n offset (i - offsets_at q) (omega arith))

      tile_count : counts_at q ≤ i → i < counts_at q + L → byte_of o 4 (segment_size q ((i - counts_at q) / 4)) ((i - counts_at q) % 4) ≡ byte (outer_in Tile q place) (i - bits_at q)
      tile_count l m =
          sym (beyond_O l ∙ stop (C 325) [] (counts_at q) (counts_at q + L) i (omega (arith, length_C 325)) l m
          ∙ table_value o 325 n (segment_size q) (i - counts_at q) (omega arith))

      tile_ratio : ratios_at q ≤ i → i < ratios_at q + 16 → byte_of o 4 1 ((i - ratios_at q) % 4) ≡ byte (outer_in Tile q place) (i - bits_at q)
      tile_ratio l m = sym (beyond_B l ∙ ratios_value o (O 324 ++ (C 325 ++ [])) (ratios_at q) i l m)

-- the same of strips and of tiles
module _ (q : Outline) (place i : ℕ) where
  pub bits_byte : (t : SegmentKind) → q.cut.kind ≡ t → bits_at q ≤ i → i < bits_at q + bits_size q.kind
      → byte_of q.endian 2 q.kind.bits ((i - bits_at q) % 2) ≡ byte (outer_in t q place) (i - bits_at q)
  bits_byte Tile e = tile_bits q place e i
  bits_byte Strip e = strip_bits q place e i

  pub offset_byte : (t : SegmentKind) → q.cut.kind ≡ t → offsets_at q ≤ i → i < counts_at q
      → byte_of q.endian 4 (offset_of q place ((i - offsets_at q) / 4)) ((i - offsets_at q) % 4) ≡ byte (outer_in t q place) (i - bits_at q)
  offset_byte Tile e = tile_offset q place e i
  offset_byte Strip e = strip_offset q place e i

  pub count_byte : (t : SegmentKind) → q.cut.kind ≡ t → counts_at q ≤ i → i < counts_at q + longs_size (segments_in q)
      → byte_of q.endian 4 (segment_size q ((i - counts_at q) / 4)) ((i - counts_at q) % 4) ≡ byte (outer_in t q place) (i - bits_at q)
  count_byte Tile e = tile_count q place e i
  count_byte Strip e = strip_count q place e i

  pub ratio_byte : (t : SegmentKind) → q.cut.kind ≡ t → ratios_at q ≤ i → i < ratios_at q + 16
      → byte_of q.endian 4 1 ((i - ratios_at q) % 4) ≡ byte (outer_in t q place) (i - bits_at q)
  ratio_byte Tile e = tile_ratio q place e i
  ratio_byte Strip e = strip_ratio q place e i

-- what is not a value of the others is one of the RATIONALs
pub ratio_left : (q : Outline) (i : ℕ) (t : SegmentKind) → q.cut.kind ≡ t → bits_at q + bits_size q.kind ≤ i → i < head_size q
    → (offsets_at q ≤ i → i < counts_at q → ⊥) → (counts_at q ≤ i → i < counts_at q + longs_size (segments_in q) → ⊥)
    → (ratios_at q ≤ i) × (i < ratios_at q + 16)
ratio_left q i Tile e l m f g =
    ⊎_elim
    (λ k. let a = b162 q 0 e in let b = b_o q 0 e in let c = b_r q 0 e in (omega arith, omega arith))
    (λ k. absurd (⊎_elim (λ h. f k h) (λ h. g h (omega (arith, b162 q 0 e, b_o q 0 e))) (cases_lt i (counts_at q))))
    (cases_lt i (offsets_at q))
ratio_left q i Strip e l m f g =
    ⊎_elim
    (λ k. absurd (⊎_elim (λ h. f (omega (arith, a150 q 0 e, a_o q 0 e)) h) (λ h. g h (omega (arith, a_o q 0 e, a_r q 0 e))) (cases_lt i (counts_at q))))
    (λ k. let a = a150 q 0 e in let b = a_o q 0 e in let c = a_r q 0 e in (k, omega arith))
    (cases_lt i (ratios_at q))
