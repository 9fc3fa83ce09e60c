-- The entries of a draft, tag by tag.
use Rattle.std.proofs.Common.{◌≡◌, ℕ, zero, suc, ◌+◌, ◌-◌, ◌*◌, ◌/◌, ◌%◌, ◌<◌, Bool, true, false, cond, eqb, leb, List, [], ◌∷◌, ◌++◌, length, get_or, sym, refl, ap, ◌∙◌, ap₂, ⊎_elim, arith}
use Rattle.std.specs.List.{flat_map}
use Rattle.std.proofs.lemmas.List.{get_or_append_left, get_or-append_right}
use Rattle.std.proofs.lemmas.List.FromFn.{length-map-range_with_len}
use Rattle.std.proofs.lemmas.Bool.{cases_lt, cond-true, cond-false, lt-leb}
use Rattle.octets.specs.declared.endian.Endian.{Endian}
use Rattle.octets.specs.Numbers.{number_bytes}
use Rattle.octets.specs.Rows.{byte, tabulate}
use Rattle.raster.specs.Picture.{number_of}
use Rattle.entries.specs.declared.field_type.FieldType.TheVariants.{Short as ShortType, Long as LongType, Rational as RationalType}
use Rattle.pages.specs.declared.layout.SegmentKind.{SegmentKind}
use Rattle.pages.specs.declared.layout.SegmentKind.TheVariants.{Strip, Tile}
use Rattle.pages.specs.Tags.{are_tiles}
use Rattle.plans.specs.declared.outline.Outline.{Outline}
use Rattle.plans.specs.Outlines.{segments_in, segment_size, directory_size, bits_size, longs_size, head_size}
use Rattle.plans.specs.Directories.{Field, shorts, longs, rational, inline, entry_bytes, outer_size, entries_bytes}
use Rattle.plans.specs.Blocks.{sample_bits, offsets_from, byte_counts, fields_by}
use Rattle.blocks.proofs.Fields.{outer_bits, outer_table}
use Rattle.heads.specs.declared.contents.Content.{Content}
use Rattle.heads.specs.declared.contents.Content.TheVariants.{Short, Long, Placed}
use Rattle.heads.specs.declared.tags.Tag.{Tag}
use Rattle.heads.specs.Contents.{entry_of}
use Rattle.heads.specs.Tags.{tag_number, tags_of, count, tag_at}
use Rattle.heads.specs.Values.{bits_at, offsets_at, counts_at, ratios_at, one_each, content_of}

-- the entry of each form of field
short_entry : (o : Endian) (out tag v : ℕ) → entry_bytes o out (shorts tag (v ∷ [])) ≡ entry_of o tag (Short v)
unfolding entry_of
short_entry o out tag v = refl

long_entry : (o : Endian) (out tag v : ℕ) → entry_bytes o out (longs tag (v ∷ [])) ≡ entry_of o tag (Long v)
unfolding entry_of
long_entry o out tag v = refl

ratio_entry : (o : Endian) (out place tag : ℕ) → out ≡ place → entry_bytes o out (rational tag 1 1) ≡ entry_of o tag (Placed RationalType 1 place)
unfolding entry_of
ratio_entry o out place tag e = ap (λ n. entry_of o tag (Placed RationalType 1 n)) e

many_entry : (o : Endian) (out tag : ℕ) (ns : List ℕ) → 1 < length ns → entry_bytes o out (longs tag ns) ≡ entry_of o tag (Placed LongType (length ns) out)
unfolding entry_of
many_entry o out tag ns l =
    ap (λ (xs : List ℕ). number_bytes o 2 tag ++ (number_bytes o 2 4 ++ (number_bytes o 4 (length ns) ++ xs)))
    (cond-false (inline (longs tag ns)) _ (number_bytes o 4 out) (lt-leb (4 * length ns) 4 (omega arith)))

table_entry : (o : Endian) (out place tag n : ℕ) (f : ℕ → ℕ) → 0 < n → out ≡ place
    → entry_bytes o out (longs tag (tabulate n f)) ≡ entry_of o tag (one_each n (f 0) place)
table_entry o out place tag zero f some e = absurd (omega arith)
table_entry o out place tag (suc zero) f some e = long_entry o out tag (f 0)
table_entry o out place tag (suc (suc n)) f some e =
    let len : length (tabulate (suc (suc n)) f) ≡ suc (suc n) = length-map-range_with_len f 0 (suc (suc n)) in
    many_entry o out tag (tabulate (suc (suc n)) f) (omega arith)
    ∙ ap₂ (λ m p. entry_of o tag (Placed LongType m p)) len e
    ∙ ap (entry_of o tag) (sym (cond-false (leb (suc (suc n)) 1) (Long (f 0)) (Placed LongType (suc (suc n)) place) (lt-leb (suc (suc n)) 1 (omega arith))))

bits_entry : (o : Endian) (out place : ℕ) (q : Outline) → out ≡ place
    → entry_bytes o out (shorts 258 (sample_bits q)) ≡ entry_of o 258 (cond (eqb (number_of q.kind.photometric) 2) (Placed ShortType 3 place) (Short q.kind.bits))
unfolding entry_of
bits_entry o out place q e = go (eqb (number_of q.kind.photometric) 2)
  where
    go : (t : Bool) → entry_bytes o out (shorts 258 (tabulate (cond t 3 1) (λ _. q.kind.bits))) ≡ entry_of o 258 (cond t (Placed ShortType 3 place) (Short q.kind.bits))
    go true = ap (λ n. entry_of o 258 (Placed ShortType 3 n)) e
    go false = refl

entries_more : (o : Endian) (out next : ℕ) (f : Field) (fs : List Field) (x rest : List ℕ) → entry_bytes o out f ≡ x → out + outer_size f ≡ next
    → entries_bytes o next fs ≡ rest → entries_bytes o out (f ∷ fs) ≡ x ++ rest
unfolding entries_bytes
entries_more o out next f fs x rest e k r = ap₂ (λ (a b : List ℕ). a ++ b) e (ap (λ n. entries_bytes o n fs) k ∙ r)

entries_none : (o : Endian) (out : ℕ) → entries_bytes o out [] ≡ []
unfolding entries_bytes
entries_none o out = refl

-- the entry of a tag in a draft
abbrev pub entry_in : Outline → ℕ → Tag → List ℕ
entry_in q place t = entry_of q.endian (tag_number t) (content_of q place t)

module _ (q : Outline) (place : ℕ) (some : 0 < segments_in q) where
  abbrev o : Endian
  o = q.endian

  abbrev n : ℕ
  n = segments_in q

  abbrev start : ℕ
  start = place + head_size q

  abbrev offsets : ℕ → ℕ
  offsets k = start + k * segment_size q 0

  strip_entries : q.cut.kind ≡ Strip → entries_bytes o (place + directory_size 12) (fields_by Strip q start) ≡ flat_map (entry_in q place) (tags_of Strip)
  strip_entries strips =
      let d : ℕ = place + 150 in
      let a : ℕ = place + offsets_at q in
      let b : ℕ = place + counts_at q in
      let r : ℕ = place + ratios_at q in
      let ea : cond {A = ℕ} (are_tiles q.cut.kind) 178 150 ≡ 150 = cond-false (are_tiles q.cut.kind) 178 150 (ap are_tiles strips) in
      let er : cond {A = ℕ} (are_tiles q.cut.kind) (162 + bits_size q.kind) (150 + bits_size q.kind + 2 * longs_size n) ≡ 150 + bits_size q.kind + 2 * longs_size n = cond-false (are_tiles q.cut.kind) (162 + bits_size q.kind) (150 + bits_size q.kind + 2 * longs_size n) (ap are_tiles strips) in
      let ed : cond {A = ℕ} (are_tiles q.cut.kind) 13 12 ≡ 12 = cond-false (are_tiles q.cut.kind) 13 12 (ap are_tiles strips) in
      entries_more o d d (longs 256 (q.width ∷ [])) _ _ _ (long_entry o d 256 q.width) (omega arith)
      (entries_more o d d (longs 257 (q.height ∷ [])) _ _ _ (long_entry o d 257 q.height) (omega arith)
      (entries_more o d a (shorts 258 (sample_bits q)) _ _ _ (bits_entry o d (place + bits_at q) q (omega arith)) (omega (arith, outer_bits q))
      (entries_more o a a (shorts 259 (1 ∷ [])) _ _ _ (short_entry o a 259 1) (omega arith)
      (entries_more o a a (shorts 262 (number_of q.kind.photometric ∷ [])) _ _ _ (short_entry o a 262 (number_of q.kind.photometric)) (omega arith)
      (entries_more o a b (longs 273 (offsets_from q start)) _ _ _ (table_entry o a a 273 n offsets some refl) (omega (arith, outer_table 273 n offsets))
      (entries_more o b b (shorts 277 (_ ∷ [])) _ _ _ (short_entry o b 277 _) (omega arith)
      (entries_more o b b (longs 278 (q.cut.high ∷ [])) _ _ _ (long_entry o b 278 q.cut.high) (omega arith)
      (entries_more o b r (longs 279 (byte_counts q)) _ _ _ (table_entry o b b 279 n (segment_size q) some refl) (omega (arith, outer_table 279 n (segment_size q)))
      (entries_more o r (r + 8) (rational 282 1 1) _ _ _ (ratio_entry o r r 282 refl) (omega arith)
      (entries_more o (r + 8) (r + 8 + 8) (rational 283 1 1) _ _ _ (ratio_entry o (r + 8) (place + (ratios_at q + 8)) 283 (omega arith)) (omega arith)
      (entries_more o (r + 8 + 8) (r + 8 + 8) (shorts 296 (1 ∷ [])) _ _ _ (short_entry o (r + 8 + 8) 296 1) (omega arith)
      (entries_none o (r + 8 + 8)))))))))))))

  tile_entries : q.cut.kind ≡ Tile → entries_bytes o (place + directory_size 13) (fields_by Tile q start) ≡ flat_map (entry_in q place) (tags_of Tile)
  tile_entries tiles =
      let d : ℕ = place + 162 in
      let r : ℕ = place + ratios_at q in
      let a : ℕ = place + offsets_at q in
      let b : ℕ = place + counts_at q in
      let e : ℕ = b + longs_size n in
      let ea : cond {A = ℕ} (are_tiles q.cut.kind) 178 150 ≡ 178 = cond-true (are_tiles q.cut.kind) 178 150 (ap are_tiles tiles) in
      let er : cond {A = ℕ} (are_tiles q.cut.kind) (162 + bits_size q.kind) (150 + bits_size q.kind + 2 * longs_size n) ≡ 162 + bits_size q.kind = cond-true (are_tiles q.cut.kind) (162 + bits_size q.kind) (150 + bits_size q.kind + 2 * longs_size n) (ap are_tiles tiles) in
      let ed : cond {A = ℕ} (are_tiles q.cut.kind) 13 12 ≡ 13 = cond-true (are_tiles q.cut.kind) 13 12 (ap are_tiles tiles) in
      entries_more o d d (longs 256 (q.width ∷ [])) _ _ _ (long_entry o d 256 q.width) (omega arith)
      (entries_more o d d (longs 257 (q.height ∷ [])) _ _ _ (long_entry o d 257 q.height) (omega arith)
      (entries_more o d r (shorts 258 (sample_bits q)) _ _ _ (bits_entry o d (place + bits_at q) q (omega arith)) (omega (arith, outer_bits q))
      (entries_more o r r (shorts 259 (1 ∷ [])) _ _ _ (short_entry o r 259 1) (omega arith)
      (entries_more o r r (shorts 262 (number_of q.kind.photometric ∷ [])) _ _ _ (short_entry o r 262 (number_of q.kind.photometric)) (omega arith)
      (entries_more o r r (shorts 277 (_ ∷ [])) _ _ _ (short_entry o r 277 _) (omega arith)
      (entries_more o r (r + 8) (rational 282 1 1) _ _ _ (ratio_entry o r r 282 refl) (omega arith)
      (entries_more o (r + 8) a (rational 283 1 1) _ _ _ (ratio_entry o (r + 8) (place + (ratios_at q + 8)) 283 (omega arith)) (omega arith)
      (entries_more o a a (shorts 296 (1 ∷ [])) _ _ _ (short_entry o a 296 1) (omega arith)
      (entries_more o a a (longs 322 (q.cut.wide ∷ [])) _ _ _ (long_entry o a 322 q.cut.wide) (omega arith)
      (entries_more o a a (longs 323 (q.cut.high ∷ [])) _ _ _ (long_entry o a 323 q.cut.high) (omega arith)
      (entries_more o a b (longs 324 (offsets_from q start)) _ _ _ (table_entry o a a 324 n offsets some refl) (omega (arith, outer_table 324 n offsets))
      (entries_more o b e (longs 325 (byte_counts q)) _ _ _ (table_entry o b b 325 n (segment_size q) some refl) (omega (arith, outer_table 325 n (segment_size q)))
      (entries_none o e)))))))))))))

  pub entries_tagged : (t : SegmentKind) → q.cut.kind ≡ t → entries_bytes o (place + directory_size (count t)) (fields_by t q start) ≡ flat_map (entry_in q place) (tags_of t)
  entries_tagged Tile e = tile_entries e
  entries_tagged Strip e = strip_entries e

length_entry_of : (o : Endian) (tag : ℕ) (c : Content) → length (entry_of o tag c) ≡ 12
unfolding entry_of
length_entry_of o tag (Short v) = refl
length_entry_of o tag (Long v) = refl
length_entry_of o tag (Placed k m p) = refl

-- lists of 12 bytes, one after another
pub twelves : {T : Type 0} (f : T → List ℕ) (ts : List T) (d : T) (j : ℕ) → ((t : T) → length (f t) ≡ 12) → j < 12 * length ts
    → byte (flat_map f ts) j ≡ byte (f (get_or ts (j / 12) d)) (j % 12)
twelves f [] d j each l = absurd (omega arith)
twelves f (t ∷ ts) d j each l =
    ⊎_elim
    (λ less.
    let a : j / 12 ≡ 0 = omega arith in
    let b : j ≡ j % 12 = omega arith in
    get_or_append_left (f t) (flat_map f ts) 0 j (omega (arith, each t))
    ∙ ap (byte (f t)) b
    ∙ ap (λ k. byte (f (get_or (t ∷ ts) k d)) (j % 12)) (sym a))
    (λ more.
    let a : suc ((j - 12) / 12) ≡ j / 12 = omega arith in
    let b : (j - 12) % 12 ≡ j % 12 = omega arith in
    get_or-append_right (f t) (flat_map f ts) 12 j 0 (each t) more
    ∙ twelves f ts d (j - 12) each (omega arith)
    ∙ ap₂ (λ k m. byte (f (get_or (t ∷ ts) k d)) m) a b)
    (cases_lt j 12)

-- a byte of the entries of a draft
pub entries_byte : (q : Outline) (place : ℕ) → 0 < segments_in q → (t : SegmentKind) → q.cut.kind ≡ t → (j : ℕ) → j < 12 * count t
    → byte (entries_bytes q.endian (place + directory_size (count t)) (fields_by t q (place + head_size q))) j ≡ byte (entry_in q place (tag_at t (j / 12))) (j % 12)
entries_byte q place some t e j l =
    ap (λ (xs : List ℕ). byte xs j) (entries_tagged q place some t e)
    ∙ twelves (entry_in q place) (tags_of t) _ j (λ s. length_entry_of q.endian (tag_number s) (content_of q place s)) (enough t l)
  where
    enough : (t : SegmentKind) → j < 12 * count t → j < 12 * length (tags_of t)
    enough Tile l = l
    enough Strip l = l
