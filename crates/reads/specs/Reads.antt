-- What reads of bytes and numbers give, also past the end. Assumes nothing.
use Rattle.std.specs.Prelude.{ℕ, ◌+◌, Bool, cond, List, length, take, drop, replicate, nat_le}
use Rattle.octets.specs.Numbers.{word}
use Rattle.octets.specs.declared.endian.Endian.{Endian}

-- n bytes from a place on lie within the list
abbrev pub inside : List ℕ → ℕ → ℕ → Bool
inside bs place n = nat_le (place + n) (length bs)

abbrev pub zeros : ℕ → List ℕ
zeros n = replicate n 0

-- the n bytes from a place on, or the list `old` if they do not all lie within the list
unfoldable pub part_or : List ℕ → List ℕ → ℕ → ℕ → List ℕ
part_or old bs place n = cond (inside bs place n) (take n (drop place bs)) old

-- the n bytes from a place on, or n zeros if they do not all lie within the list
abbrev pub part : List ℕ → ℕ → ℕ → List ℕ
part bs place n = part_or (zeros n) bs place n

-- the number in the n bytes from a place on, or 0 if they do not all lie within the list
abbrev pub word_at : Endian → List ℕ → ℕ → ℕ → ℕ
word_at o bs place n = cond (inside bs place n) (word o bs place n) 0

-- the number in the two bytes from a place on
unfoldable pub short_at : Endian → List ℕ → ℕ → ℕ
short_at o bs place = word_at o bs place 2

-- the number in the four bytes from a place on
unfoldable pub long_at : Endian → List ℕ → ℕ → ℕ
long_at o bs place = word_at o bs place 4
