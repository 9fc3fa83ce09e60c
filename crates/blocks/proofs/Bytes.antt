-- Every byte of a block is below 256.
use Rattle.std.proofs.Common.{ℕ, zero, suc, ◌+◌, ◌-◌, ◌*◌, ◌/◌, ◌%◌, ◌^◌, ◌<◌, Bool, true, false, cond, List, [], ◌∷◌, ◌++◌, map, length, replicate, mod-lt, arith}
use Rattle.std.specs.List.{range_with_len, flat_map}
use Rattle.std.proofs.lemmas.Nat.{pow_pos}
use Rattle.octets.specs.declared.endian.Endian.{Endian}
use Rattle.octets.specs.declared.endian.Endian.TheVariants.{Little, Big}
use Rattle.octets.specs.Digits.{packed, digit, byte_of, rank}
use Rattle.octets.specs.Numbers.{number_bytes}
use Rattle.octets.specs.Rows.{byte, Bits, chain, per_byte, padded, packed_row}
use Rattle.octets.proofs.Digits.{packed_below}
use Rattle.octets.proofs.Rows.{by_bits, padded_below}
use Rattle.links.specs.Links.{magic}
use Rattle.pages.specs.Geometry.{samples_of, rows_of, row_bytes}
use Rattle.stored.specs.Sane.{allowed_bits}
use Rattle.plans.specs.declared.outline.Outline.{Outline}
use Rattle.plans.specs.Outlines.{Proper, segments_in}
use Rattle.plans.specs.Directories.{Field, number_size, value_bytes, inline, last_bytes, entry_bytes, outer_bytes, outer_size, entries_bytes, directory_bytes}
use Rattle.plans.specs.Blocks.{pixel_of, sample_of, row_of, segment, fields_in, block, header, row_byte}

pub digit_below : (base n v t : ℕ) → 0 < base → digit base n v t < base
unfolding digit
digit_below base n v t z = mod-lt (v / base ^ (n - suc t)) z

abbrev pub Bytes : List ℕ → Type 0
Bytes xs = (i : ℕ) → byte xs i < 256

bytes_none : Bytes []
bytes_none i = omega arith

pub bytes_append : (xs ys : List ℕ) → Bytes xs → Bytes ys → Bytes (xs ++ ys)
bytes_append [] ys p q i = q i
bytes_append (x ∷ xs) ys p q zero = p 0
bytes_append (x ∷ xs) ys p q (suc i) = bytes_append xs ys (λ j. p (suc j)) q i

bytes_joined : {X : Type 0} (f : X → List ℕ) → ((x : X) → Bytes (f x)) → (xs : List X) → Bytes (flat_map f xs)
bytes_joined f h [] = bytes_none
bytes_joined f h (x ∷ xs) = bytes_append (f x) (flat_map f xs) (h x) (bytes_joined f h xs)

bytes_table : (f : ℕ → ℕ) → ((k : ℕ) → f k < 256) → (a n : ℕ) → Bytes (map f (range_with_len a n))
bytes_table f h a zero i = omega arith
bytes_table f h a (suc n) zero = h a
bytes_table f h a (suc n) (suc i) = bytes_table f h (a + 1) n i

bytes_cond : (b : Bool) (xs ys : List ℕ) → Bytes xs → Bytes ys → Bytes (cond b xs ys)
bytes_cond true xs ys p q = p
bytes_cond false xs ys p q = q

bytes_zeros : (n : ℕ) → Bytes (replicate n 0)
bytes_zeros zero i = omega arith
bytes_zeros (suc n) zero = omega arith
bytes_zeros (suc n) (suc i) = bytes_zeros n i

pub bytes_number : (o : Endian) (n v : ℕ) → Bytes (number_bytes o n v)
unfolding byte_of
bytes_number o n v = bytes_table (byte_of o n v) (λ k. digit_below 256 n v (rank o n k) (omega arith)) 0 n

bytes_values : (o : Endian) (f : Field) → Bytes (value_bytes o f)
bytes_values o f = bytes_joined (number_bytes o (number_size f.kind)) (bytes_number o (number_size f.kind)) f.numbers

bytes_last : (o : Endian) (out : ℕ) (f : Field) → Bytes (last_bytes o out f)
bytes_last o out f =
    bytes_cond (inline f) (value_bytes o f ++ replicate (4 - length (value_bytes o f)) 0) (number_bytes o 4 out)
    (bytes_append (value_bytes o f) (replicate (4 - length (value_bytes o f)) 0) (bytes_values o f) (bytes_zeros (4 - length (value_bytes o f))))
    (bytes_number o 4 out)

bytes_entry : (o : Endian) (out : ℕ) (f : Field) → Bytes (entry_bytes o out f)
bytes_entry o out f =
    bytes_append (number_bytes o 2 f.tag) (number_bytes o 2 f.kind ++ (number_bytes o 4 f.count ++ last_bytes o out f)) (bytes_number o 2 f.tag)
    (bytes_append (number_bytes o 2 f.kind) (number_bytes o 4 f.count ++ last_bytes o out f) (bytes_number o 2 f.kind)
    (bytes_append (number_bytes o 4 f.count) (last_bytes o out f) (bytes_number o 4 f.count) (bytes_last o out f)))

bytes_entries : (o : Endian) (out : ℕ) (fs : List Field) → Bytes (entries_bytes o out fs)
unfolding entries_bytes
bytes_entries o out [] = bytes_none
bytes_entries o out (f ∷ fs) = bytes_append (entry_bytes o out f) (entries_bytes o (out + outer_size f) fs) (bytes_entry o out f) (bytes_entries o (out + outer_size f) fs)

bytes_directory : (o : Endian) (place : ℕ) (fs : List Field) → Bytes (directory_bytes o place fs)
unfolding directory_bytes
bytes_directory o place fs =
    let out : ℕ = place + (6 + 12 * length fs) in
    bytes_append (number_bytes o 2 (length fs)) (entries_bytes o out fs ++ (number_bytes o 4 0 ++ flat_map (outer_bytes o) fs)) (bytes_number o 2 (length fs))
    (bytes_append (entries_bytes o out fs) (number_bytes o 4 0 ++ flat_map (outer_bytes o) fs) (bytes_entries o out fs)
    (bytes_append (number_bytes o 4 0) (flat_map (outer_bytes o) fs) (bytes_number o 4 0)
    (bytes_joined (outer_bytes o) (λ f. bytes_cond (inline f) [] (value_bytes o f) bytes_none (bytes_values o f)) fs)))

packed_byte : (b : ℕ) → Bits b → (f : ℕ → ℕ) → ((t : ℕ) → f t < 2 ^ b) → packed (2 ^ b) (per_byte b) f < 256
packed_byte = by_bits (λ b. (f : ℕ → ℕ) → ((t : ℕ) → f t < 2 ^ b) → packed (2 ^ b) (per_byte b) f < 256)
    (λ f h. packed_below 2 8 f (λ t _. h t)) (λ f h. packed_below 16 2 f (λ t _. h t)) (λ f h. packed_below 256 1 f (λ t _. h t))

module _ (q : Outline) (at : ℕ → ℕ → ℕ) (proper : Proper q) where
  sample_below : (k y s : ℕ) → sample_of q at k y s < 2 ^ q.kind.bits
  sample_below k y s = digit_below (2 ^ q.kind.bits) (samples_of q.kind) (pixel_of q at k (s / samples_of q.kind) y) (s % samples_of q.kind) (pow_pos q.kind.bits)

  pub row_byte_below : (k y i : ℕ) → row_byte q at k y i < 256
  row_byte_below k y i =
      packed_byte q.kind.bits (allowed_bits q.kind proper.kind) (λ t. padded (q.cut.wide * samples_of q.kind) (sample_of q at k y) (i * per_byte q.kind.bits + t))
      (λ t. padded_below (2 ^ q.kind.bits) (q.cut.wide * samples_of q.kind) (sample_of q at k y) (pow_pos q.kind.bits)
      (λ s _. sample_below k y s) (i * per_byte q.kind.bits + t))

  pub bytes_block : (place : ℕ) → Bytes (block q at place)
  unfolding block segment packed_row
  bytes_block place =
      bytes_append (directory_bytes q.endian place (fields_in q place)) (chain (segments_in q) (segment q at)) (bytes_directory q.endian place (fields_in q place))
      (bytes_joined (segment q at)
      (λ k. bytes_joined (row_of q at k) (λ y. bytes_table (row_byte q at k y) (row_byte_below k y) 0 (row_bytes q.cut q.kind)) (range_with_len 0 (rows_of q.cut q.width q.height k)))
      (range_with_len 0 (segments_in q)))

four : (a b c d : ℕ) → a < 256 → b < 256 → c < 256 → d < 256 → Bytes (a ∷ b ∷ c ∷ d ∷ [])
four a b c d ha hb hc hd zero = ha
four a b c d ha hb hc hd (suc zero) = hb
four a b c d ha hb hc hd (suc (suc zero)) = hc
four a b c d ha hb hc hd (suc (suc (suc zero))) = hd
four a b c d ha hb hc hd (suc (suc (suc (suc i)))) = omega arith

bytes_magic : (o : Endian) → Bytes (magic o)
bytes_magic Little = four 73 73 42 0 (omega arith) (omega arith) (omega arith) (omega arith)
bytes_magic Big = four 77 77 0 42 (omega arith) (omega arith) (omega arith) (omega arith)

pub bytes_header : (o : Endian) (place : ℕ) → Bytes (header o place)
bytes_header o place = bytes_append (magic o) (number_bytes o 4 place) (bytes_magic o) (bytes_number o 4 place)
