-- The library's numbers of bytes and bytes of numbers, as numbers and bytes in a byte order. Assumes nothing.
use Rattle.std.proofs.Common.{◌≡◌, ℕ, ◌+◌, ◌*◌, ◌/◌, ◌%◌, ◌^◌, ◌<◌, List, [], ◌∷◌, w16, w32, sym, ap, ◌∙◌, div-one, arith}
use Rattle.std.specs.Int.{from_le_bytes, from_be_bytes, to_le_bytes, to_be_bytes}
use Rattle.std.proofs.lemmas.List.FromFn.{get_or-map-range_with_len}
use Rattle.octets.specs.Digits.{packed, digit, number, byte_of}
use Rattle.octets.specs.Numbers.{number_bytes}
use Rattle.octets.specs.Rows.{byte}
use Rattle.octets.specs.declared.endian.Endian.{Endian}
use Rattle.octets.specs.declared.endian.Endian.TheVariants.{Little, Big}
use Rattle.octets.proofs.Digits.{number_same, number_byte_of}

pub short_little : (f : ℕ → ℕ) → f 0 + 256 * f 1 ≡ number Little 2 f
unfolding number packed
short_little f = omega arith

pub short_big : (f : ℕ → ℕ) → 256 * f 0 + f 1 ≡ number Big 2 f
unfolding number packed
short_big f = omega arith

pub long_little : (f : ℕ → ℕ) → f 0 + 256 * f 1 + 65536 * f 2 + 16777216 * f 3 ≡ number Little 4 f
unfolding number packed
long_little f = omega arith

pub long_big : (f : ℕ → ℕ) → 16777216 * f 0 + 65536 * f 1 + 256 * f 2 + f 3 ≡ number Big 4 f
unfolding number packed
long_big f = omega arith

pub from_little_short : (bs : List ℕ) → from_le_bytes w16 bs ≡ number Little 2 (byte bs)
unfolding number packed
from_little_short bs = omega arith

pub from_big_short : (bs : List ℕ) → from_be_bytes w16 bs ≡ number Big 2 (byte bs)
unfolding number packed
from_big_short bs = omega arith

pub from_little_long : (bs : List ℕ) → from_le_bytes w32 bs ≡ number Little 4 (byte bs)
unfolding number packed
from_little_long bs = omega arith

pub from_big_long : (bs : List ℕ) → from_be_bytes w32 bs ≡ number Big 4 (byte bs)
unfolding number packed
from_big_long bs = omega arith

pub little_short : (v : ℕ) → to_le_bytes w16 v ≡ number_bytes Little 2 v
unfolding byte_of digit
little_short v = ap (λ n. n % 256 ∷ v / 256 % 256 ∷ []) (sym (div-one v))

pub big_short : (v : ℕ) → to_be_bytes w16 v ≡ number_bytes Big 2 v
unfolding byte_of digit
big_short v = ap (λ n. v / 256 % 256 ∷ n % 256 ∷ []) (sym (div-one v))

pub little_long : (v : ℕ) → to_le_bytes w32 v ≡ number_bytes Little 4 v
unfolding byte_of digit
little_long v = ap (λ n. n % 256 ∷ v / 256 % 256 ∷ v / 256 ^ 2 % 256 ∷ v / 256 ^ 3 % 256 ∷ []) (sym (div-one v))

pub big_long : (v : ℕ) → to_be_bytes w32 v ≡ number_bytes Big 4 v
unfolding byte_of digit
big_long v = ap (λ n. v / 256 ^ 3 % 256 ∷ v / 256 ^ 2 % 256 ∷ v / 256 % 256 ∷ n % 256 ∷ []) (sym (div-one v))

-- a number's bytes give it back
pub number_bytes_back : (o : Endian) (n v : ℕ) → v < 256 ^ n → number o n (byte (number_bytes o n v)) ≡ v
number_bytes_back o n v h =
    number_same o n (byte (number_bytes o n v)) (byte_of o n v) (λ t l. get_or-map-range_with_len (byte_of o n v) 0 n t t 0 l (omega arith))
    ∙ number_byte_of o n v h
