-- Numbers as digits to a base, and the numbers of a file in either byte order. Assumes nothing.
use Rattle.std.specs.Prelude.{ℕ, zero, suc, ◌+◌, ◌-◌, ◌*◌, ◌/◌, ◌%◌, ◌^◌}
use Rattle.octets.specs.declared.endian.Endian.{Endian}
use Rattle.octets.specs.declared.endian.Endian.TheVariants.{Little, Big}

-- the number whose n digits to a base are f 0, f 1, .., the first the highest
unfoldable pub packed : ℕ → ℕ → (ℕ → ℕ) → ℕ
packed base zero f = 0
packed base (suc n) f = packed base n f * base + f n

-- digit t of a number of n digits
unfoldable pub digit : ℕ → ℕ → ℕ → ℕ → ℕ
digit base n v t = v / base ^ (n - suc t) % base

-- which of n bytes is the t-th highest
abbrev pub rank : Endian → ℕ → ℕ → ℕ
rank Little n t = n - suc t
rank Big n t = t

-- the number in n bytes
unfoldable pub number : Endian → ℕ → (ℕ → ℕ) → ℕ
number o n f = packed 256 n (λ t. f (rank o n t))

-- byte t of the n bytes of a number
unfoldable pub byte_of : Endian → ℕ → ℕ → ℕ → ℕ
byte_of o n v t = digit 256 n v (rank o n t)
