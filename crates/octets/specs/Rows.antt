-- Rows of samples packed into bytes, and lists of bytes that stand in others. Assumes nothing.
use Rattle.std.specs.Prelude.{◌≡◌, ℕ, ◌+◌, ◌-◌, ◌*◌, ◌/◌, ◌%◌, ◌^◌, ◌<◌, ◌≤◌, cond, ◌⊎◌, List, map, length, nat_lt, slice_index}
use Rattle.std.specs.List.{range_with_len, flat_map}
use Rattle.octets.specs.Digits.{packed, digit}

-- the byte at a place
abbrev pub byte : List ℕ → ℕ → ℕ
byte bs i = slice_index bs i

-- the list xs stands in bs from a place on
pub record Holds (bs : List ℕ) (place : ℕ) (xs : List ℕ) : Type 0 where
  pub fits : place + length xs ≤ length bs
  pub same : (i : ℕ) → i < length xs → byte bs (place + i) ≡ byte xs i

-- f 0, f 1, .., n of them
abbrev pub tabulate : ℕ → (ℕ → ℕ) → List ℕ
tabulate n f = map f (range_with_len 0 n)

-- the lists f 0, f 1, .., n of them, one after another
abbrev pub chain : ℕ → (ℕ → List ℕ) → List ℕ
chain n f = flat_map f (range_with_len 0 n)

-- a / b, rounded up
abbrev pub ceil : ℕ → ℕ → ℕ
ceil a b = (a + (b - 1)) / b

-- the bits that a sample may have
abbrev pub Bits : ℕ → Type 0
Bits b = (b ≡ 1) ⊎ ((b ≡ 4) ⊎ (b ≡ 8))

-- the samples of some bits that a byte holds
abbrev pub per_byte : ℕ → ℕ
per_byte bits = 8 / bits

-- the bytes that n samples take
abbrev pub packed_size : ℕ → ℕ → ℕ
packed_size bits n = ceil (n * bits) 8

-- sample s of n, and 0 past them
abbrev pub padded : ℕ → (ℕ → ℕ) → ℕ → ℕ
padded n f s = cond (nat_lt s n) (f s) 0

-- n samples packed into whole bytes, the first in the highest bits, and 0 after the last
unfoldable pub packed_row : ℕ → ℕ → (ℕ → ℕ) → List ℕ
packed_row bits n f = tabulate (packed_size bits n) (λ i. packed (2 ^ bits) (per_byte bits) (λ t. padded n f (i * per_byte bits + t)))

-- sample s of a packed row whose byte i is `row i`
unfoldable pub sample_in : ℕ → (ℕ → ℕ) → ℕ → ℕ
sample_in bits row s = digit (2 ^ bits) (per_byte bits) (row (s / per_byte bits)) (s % per_byte bits)
