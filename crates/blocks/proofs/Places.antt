-- The block byte by byte and sector by sector.
use Rattle.std.proofs.Common.{◌≡◌, ℕ, zero, suc, ◌+◌, ◌-◌, ◌*◌, ◌/◌, ◌%◌, ◌<◌, ◌≤◌, min, ltb, List, [], ◌∷◌, ◌++◌, length, get_or, take, ap, ◌∙◌, subst, mod-lt, arith}
use Rattle.std.specs.List.{flat_map}
use Rattle.std.proofs.lemmas.List.{length-append, get_or_append_left, get_or-append_right}
use Rattle.std.proofs.lemmas.List.FromFn.{get_or-map-range_with_len, fill_by_all}
use Rattle.std.proofs.lemmas.Bool.{cond_both, ltb-true, ltb-false}
use Rattle.octets.specs.declared.endian.Endian.{Endian}
use Rattle.octets.specs.Rows.{byte, Holds, chain, packed_row, tabulate}
use Rattle.octets.specs.Sectors.{sector}
use Rattle.octets.proofs.Patches.{length_sector, get_or_sector}
use Rattle.octets.proofs.Rows.{holds_at, holds_front, holds_back, length_chain, length_packed_row}
use Rattle.pages.specs.Geometry.{samples_of, rows_of, row_bytes}
use Rattle.plans.specs.declared.outline.Outline.{Outline}
use Rattle.plans.specs.Outlines.{Proper, segments_in, segment_size, head_size, block_size}
use Rattle.plans.specs.Directories.{Field, entry_bytes, outer_size, outer_bytes, entries_bytes, directory_bytes}
use Rattle.plans.specs.Blocks.{sample_of, row_of, segment, fields_in, block, row_byte, segment_byte, segments_byte, block_byte}
use Rattle.blocks.proofs.Chains.{length_chain_last, byte_chain}
use Rattle.blocks.proofs.Directory.{SizedAll, length_entry, length_outer, outers}
use Rattle.blocks.proofs.Fields.{head_length}
use Rattle.plans.proofs.Outlines.{some_segments, row_positive, segment_positive, segment_most, segment_same}

pub length_segment : (q : Outline) (at : ℕ → ℕ → ℕ) (k : ℕ) → length (segment q at k) ≡ segment_size q k
unfolding segment
length_segment q at k =
    length_chain (row_of q at k) (row_bytes q.cut q.kind) (rows_of q.cut q.width q.height k)
    (λ y _. length_packed_row q.kind.bits (q.cut.wide * samples_of q.kind) (sample_of q at k y))

row_byte_lem : (q : Outline) (at : ℕ → ℕ → ℕ) (k y i : ℕ) → i < row_bytes q.cut q.kind → byte (row_of q at k y) i ≡ row_byte q at k y i
unfolding packed_row
row_byte_lem q at k y i l = get_or-map-range_with_len (row_byte q at k y) 0 (row_bytes q.cut q.kind) i i 0 l (omega arith)

some_rows : (rows size n i : ℕ) → n ≡ rows * size → i < n → 0 < rows
some_rows zero size n i e m = absurd (omega arith)
some_rows (suc r) size n i e m = omega arith

module _ (q : Outline) (at : ℕ → ℕ → ℕ) (proper : Proper q) where
  segment_byte_lem : (k i : ℕ) → i < length (segment q at k) → byte (segment q at k) i ≡ segment_byte q at k i
  unfolding segment
  segment_byte_lem k i l =
      let size : ℕ = row_bytes q.cut q.kind in
      let rows : ℕ = rows_of q.cut q.width q.height k in
      let z : 0 < row_bytes q.cut q.kind = row_positive q proper in
      let len : (y : ℕ) → length (row_of q at k y) ≡ row_bytes q.cut q.kind = λ y. length_packed_row q.kind.bits (q.cut.wide * samples_of q.kind) (sample_of q at k y) in
      let some : 0 < rows_of q.cut q.width q.height k = some_rows rows size (length (segment q at k)) i (length_segment q at k) l in
      let found = byte_chain (row_of q at k) size rows i z some (λ y _. len y) (omega (arith, len (rows - 1))) l in
      found.2 ∙ row_byte_lem q at k (i / size) (i % size) (mod-lt i z)

  pub full_length : (k : ℕ) → suc k < segments_in q → length (segment q at k) ≡ segment_size q 0
  full_length k m = length_segment q at k ∙ segment_same q proper k m

  pub segments_length : length (chain (segments_in q) (segment q at)) ≡ (segments_in q - 1) * segment_size q 0 + segment_size q (segments_in q - 1)
  segments_length =
      length_chain_last (segment q at) (segment_size q 0) (segments_in q) (some_segments q proper) full_length
      ∙ ap (λ n. (segments_in q - 1) * segment_size q 0 + n) (length_segment q at (segments_in q - 1))

  pub length_block : (place : ℕ) → length (block q at place) ≡ block_size q
  unfolding block block_size
  length_block place =
      omega (arith, length-append (directory_bytes q.endian place (fields_in q place)) (chain (segments_in q) (segment q at)), head_length q place, segments_length)

  pub segments_byte_lem : (j : ℕ) → j < length (chain (segments_in q) (segment q at)) → byte (chain (segments_in q) (segment q at)) j ≡ segments_byte q at j
  segments_byte_lem j m =
      let n : ℕ = segments_in q in
      let s : ℕ = segment_size q 0 in
      let short : length (segment q at (segments_in q - 1)) ≤ segment_size q 0 =
      omega (arith, length_segment q at (n - 1), segment_most q proper (n - 1)) in
      let found = byte_chain (segment q at) s n j (segment_positive q proper) (some_segments q proper) full_length short m in
      found.2 ∙ segment_byte_lem (j / s) (j % s) found.1

  pub block_byte_lem : (place i : ℕ) → i < block_size q → byte (block q at place) i ≡ block_byte q at place i
  unfolding block block_byte block_size
  block_byte_lem place i m =
      let front : List ℕ = directory_bytes q.endian place (fields_in q place) in
      let back : List ℕ = chain (segments_in q) (segment q at) in
      let h : ℕ = head_size q in
      cond_both (ltb i h) (byte front i) (segments_byte q at (i - h)) (λ v. byte (front ++ back) i ≡ v)
      (λ e. get_or_append_left front back 0 i (omega (arith, ltb-true i h e, head_length q place)))
      (λ e. get_or-append_right front back h i 0 (head_length q place) (ltb-false i h e)
      ∙ segments_byte_lem (i - h) (omega (arith, ltb-false i h e, segments_length)))

  -- sector s of the block, byte by byte
  pub sector_bytes : (place s n : ℕ) → 512 * s ≤ block_size q → n ≡ min 512 (block_size q - 512 * s)
      → sector (block q at place) s ≡ tabulate n (λ i. block_byte q at place (512 * s + i))
  sector_bytes place s n within e =
      fill_by_all (λ i. block_byte q at place (512 * s + i)) (sector (block q at place) s) n 0
      (omega (arith, length_sector (block q at place) s, length_block place))
      (λ k m. get_or_sector (block q at place) s k 0 (omega arith)
      ∙ block_byte_lem place (512 * s + k) (omega arith))

-- entry e of a directory, and its values if they are longer than 4 bytes
pub entry_here : (o : Endian) (bs : List ℕ) (at out e : ℕ) (fs : List Field) (d : Field) → SizedAll fs → e < length fs
    → Holds bs at (entries_bytes o out fs) → Holds bs (at + e * 12) (entry_bytes o (out + outers (take e fs)) (get_or fs e d))
unfolding entries_bytes
entry_here o bs at out e [] d g l h = absurd (omega arith)
entry_here o bs at out zero (f ∷ fs) d g l h =
    let z : out ≡ out + 0 = omega arith in
    subst (λ q. Holds bs (at + 0 * 12) (entry_bytes o q f)) z
    (holds_at bs at (at + 0 * 12) (entry_bytes o out f) (omega arith) (holds_front bs at (entry_bytes o out f) (entries_bytes o (out + outer_size f) fs) h))
entry_here o bs at out (suc e) (f ∷ fs) d g l h =
    let q : out + outer_size f + outers (take e fs) ≡ out + (outer_size f + outers (take e fs)) = omega arith in
    subst (λ q. Holds bs (at + suc e * 12) (entry_bytes o q (get_or fs e d))) q
    (holds_at bs (at + 12 + e * 12) (at + suc e * 12) (entry_bytes o (out + outer_size f + outers (take e fs)) (get_or fs e d)) (omega arith)
    (entry_here o bs (at + 12) (out + outer_size f) e fs d g.1 (omega arith)
    (holds_back bs at (at + 12) (entry_bytes o out f) (entries_bytes o (out + outer_size f) fs) (omega (arith, length_entry o out f g.0)) h)))

pub outer_here : (o : Endian) (bs : List ℕ) (out e : ℕ) (fs : List Field) (d : Field) → SizedAll fs → e < length fs
    → Holds bs out (flat_map (outer_bytes o) fs) → Holds bs (out + outers (take e fs)) (outer_bytes o (get_or fs e d))
outer_here o bs out e [] d g l h = absurd (omega arith)
outer_here o bs out zero (f ∷ fs) d g l h = holds_at bs out (out + 0) (outer_bytes o f) (omega arith) (holds_front bs out (outer_bytes o f) (flat_map (outer_bytes o) fs) h)
outer_here o bs out (suc e) (f ∷ fs) d g l h =
    holds_at bs (out + outer_size f + outers (take e fs)) (out + (outer_size f + outers (take e fs))) (outer_bytes o (get_or fs e d)) (omega arith)
    (outer_here o bs (out + outer_size f) e fs d g.1 (omega arith)
    (holds_back bs out (out + outer_size f) (outer_bytes o f) (flat_map (outer_bytes o) fs) (omega (arith, length_outer o f g.0)) h))
