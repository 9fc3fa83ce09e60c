-- The numbers that stand in a list of bytes. Assumes nothing.
use Rattle.std.specs.Prelude.{ℕ, ◌+◌, List}
use Rattle.octets.specs.Digits.{number, byte_of}
use Rattle.octets.specs.Rows.{byte, tabulate}
use Rattle.octets.specs.declared.endian.Endian.{Endian}

-- the number in the n bytes from a place on
abbrev pub word : Endian → List ℕ → ℕ → ℕ → ℕ
word o bs place n = number o n (λ i. byte bs (place + i))

-- the number in the two bytes from a place on
abbrev pub short : Endian → List ℕ → ℕ → ℕ
short o bs place = word o bs place 2

-- the number in the four bytes from a place on
abbrev pub long : Endian → List ℕ → ℕ → ℕ
long o bs place = word o bs place 4

-- a number as n bytes
abbrev pub number_bytes : Endian → ℕ → ℕ → List ℕ
number_bytes o n v = tabulate n (byte_of o n v)
