-- Numbers read back from the bytes that hold them.
use Rattle.std.proofs.Common.{◌≡◌, ℕ, zero, suc, ◌+◌, ◌*◌, ◌^◌, ◌<◌, List, [], ◌∷◌, length, get_or, ◌∙◌, suc-mul, arith}
use Rattle.std.specs.List.{flat_map}
use Rattle.std.proofs.lemmas.List.{length-append}
use Rattle.std.proofs.lemmas.List.FromFn.{length-map-range_with_len, get_or-map-range_with_len}
use Rattle.octets.specs.declared.endian.Endian.{Endian}
use Rattle.octets.specs.Digits.{number, byte_of}
use Rattle.octets.specs.Numbers.{number_bytes}
use Rattle.octets.specs.Rows.{byte, Holds}
use Rattle.octets.proofs.Digits.{number_byte_of, number_same}
use Rattle.octets.proofs.Rows.{holds_at, holds_front, holds_back}
use Rattle.reads.specs.Reads.{short_at, long_at}
use Rattle.reads.proofs.Parts.{short_inside, long_inside}
use Rattle.entries.specs.declared.fields.Form.TheVariants.{Short, Long}
use Rattle.entries.specs.Fields.{number_at}

pub length_number_bytes : (o : Endian) (w v : ℕ) → length (number_bytes o w v) ≡ w
length_number_bytes o w v = length-map-range_with_len (byte_of o w v) 0 w

pub number_held : (o : Endian) (bs : List ℕ) (p w v : ℕ) → v < 256 ^ w → Holds bs p (number_bytes o w v) → number o w (λ i. byte bs (p + i)) ≡ v
number_held o bs p w v b h =
    number_same o w (λ i. byte bs (p + i)) (byte_of o w v)
    (λ t l. h.same t (omega (arith, length_number_bytes o w v)) ∙ get_or-map-range_with_len (byte_of o w v) 0 w t t 0 l (omega arith))
    ∙ number_byte_of o w v b

pub length_numbers : (o : Endian) (w : ℕ) (ns : List ℕ) → length (flat_map (number_bytes o w) ns) ≡ length ns * w
length_numbers o w [] = omega arith
length_numbers o w (n ∷ ns) =
    omega (arith, length-append (number_bytes o w n) (flat_map (number_bytes o w) ns), length_number_bytes o w n, length_numbers o w ns, suc-mul (length ns) w)

-- number j of a list is held after those before it
pub number_here : (o : Endian) (bs : List ℕ) (p w : ℕ) (ns : List ℕ) → Holds bs p (flat_map (number_bytes o w) ns)
    → (j : ℕ) → j < length ns → Holds bs (p + j * w) (number_bytes o w (get_or ns j 0))
number_here o bs p w [] h j l = absurd (omega arith)
number_here o bs p w (n ∷ ns) h zero l =
    holds_at bs p (p + 0 * w) (number_bytes o w n) (omega arith) (holds_front bs p (number_bytes o w n) (flat_map (number_bytes o w) ns) h)
number_here o bs p w (n ∷ ns) h (suc j) l =
    holds_at bs (p + w + j * w) (p + suc j * w) (number_bytes o w (get_or ns j 0)) (omega (arith, suc-mul j w))
    (number_here o bs (p + w) w ns
    (holds_back bs p (p + w) (number_bytes o w n) (flat_map (number_bytes o w) ns) (omega (arith, length_number_bytes o w n)) h) j (omega arith))

-- a number that is held is read
pub short_read : (o : Endian) (bs : List ℕ) (p v : ℕ) → v < 65536 → Holds bs p (number_bytes o 2 v) → short_at o bs p ≡ v
short_read o bs p v b h = short_inside o bs p h.fits ∙ number_held o bs p 2 v b h

pub long_read : (o : Endian) (bs : List ℕ) (p v : ℕ) → v < 4294967296 → Holds bs p (number_bytes o 4 v) → long_at o bs p ≡ v
long_read o bs p v b h = long_inside o bs p h.fits ∙ number_held o bs p 4 v b h

-- number k of some that are held
module _ (o : Endian) (bs : List ℕ) (c p : ℕ) (ns : List ℕ) (k : ℕ) (within : k < length ns) where
  pub shorts_read : get_or ns k 0 < 65536 → Holds bs p (flat_map (number_bytes o 2) ns) → number_at o bs (record { form = Short; count = c; place = p }) k ≡ get_or ns k 0
  unfolding number_at
  shorts_read b h = short_read o bs (p + 2 * k) (get_or ns k 0) b (holds_at bs (p + k * 2) (p + 2 * k) (number_bytes o 2 (get_or ns k 0)) (omega arith) (number_here o bs p 2 ns h k within))

  pub longs_read : get_or ns k 0 < 4294967296 → Holds bs p (flat_map (number_bytes o 4) ns) → number_at o bs (record { form = Long; count = c; place = p }) k ≡ get_or ns k 0
  unfolding number_at
  longs_read b h = long_read o bs (p + 4 * k) (get_or ns k 0) b (holds_at bs (p + k * 4) (p + 4 * k) (number_bytes o 4 (get_or ns k 0)) (omega arith) (number_here o bs p 4 ns h k within))
