-- The bytes of a number, one by one.
use Rattle.std.proofs.Common.{◌≡◌, ℕ, suc, ◌-◌, ◌*◌, ◌/◌, ◌%◌, ◌^◌, ◌<◌, sym, ap, ◌∙◌, arith}
use Rattle.std.proofs.lemmas.List.FromFn.{get_or-map-range_with_len}
use Rattle.octets.specs.declared.endian.Endian.{Endian}
use Rattle.octets.specs.declared.endian.Endian.TheVariants.{Little, Big}
use Rattle.octets.specs.Digits.{digit, byte_of}
use Rattle.octets.specs.Numbers.{number_bytes}
use Rattle.octets.specs.Rows.{byte}
use Rattle.octets.proofs.Digits.{digit_shift}
use Rattle.heads.specs.Contents.{lower_bytes}

pub number_byte : (o : Endian) (n v t : ℕ) → t < n → byte_of o n v t ≡ byte (number_bytes o n v) t
number_byte o n v t l = sym (get_or-map-range_with_len (byte_of o n v) 0 n t t 0 l (omega arith))

-- a byte, as code takes it: by a shift
shifted : (n v t : ℕ) → v / 2 ^ (8 * (n - suc t)) % 256 ≡ digit 256 n v t
shifted n v t = sym (digit_shift 8 n v t)

little_byte : (n v t : ℕ) → t < n → v / 2 ^ (8 * t) % 256 ≡ byte_of Little n v t
unfolding byte_of
little_byte n v t l =
    let e : t ≡ n - suc (n - suc t) = omega arith in
    ap (λ m. v / 2 ^ (8 * m) % 256) e ∙ shifted n v (n - suc t)

big_byte : (n v t : ℕ) → t < n → v / 2 ^ (8 * (n - 1 - t)) % 256 ≡ byte_of Big n v t
unfolding byte_of
big_byte n v t l =
    let e : n - 1 - t ≡ n - suc t = omega arith in
    ap (λ m. v / 2 ^ (8 * m) % 256) e ∙ shifted n v t

pub shifted_byte : (o : Endian) (n v t : ℕ) → t < n → v / 2 ^ (8 * lower_bytes o n t) % 256 ≡ byte_of o n v t
shifted_byte Little n v t l = little_byte n v t l
shifted_byte Big n v t l = big_byte n v t l
