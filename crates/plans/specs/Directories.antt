-- The fields of a directory, and the bytes that they are written as. Assumes nothing.
use Rattle.std.specs.Prelude.{ℕ, ◌+◌, ◌-◌, Bool, cond, List, [], ◌∷◌, ◌++◌, length, replicate, ◌==◌, nat_le}
use Rattle.std.specs.List.{flat_map}
use Rattle.octets.specs.declared.endian.Endian.{Endian}
use Rattle.octets.specs.Numbers.{number_bytes}
use Rattle.entries.specs.Entries.{size_of}
use Rattle.plans.specs.Outlines.{directory_size}

-- a field: its tag, the number of its type, how many values it has, and the numbers that they consist of
pub record Field : Type 0 where
  pub tag : ℕ
  pub kind : ℕ
  pub count : ℕ
  pub numbers : List ℕ

-- SHORT is 3, LONG is 4, RATIONAL is 5
abbrev pub shorts : ℕ → List ℕ → Field
shorts tag ns = record { tag = tag; kind = 3; count = length ns; numbers = ns }

abbrev pub longs : ℕ → List ℕ → Field
longs tag ns = record { tag = tag; kind = 4; count = length ns; numbers = ns }

-- one RATIONAL, a / b
abbrev pub rational : ℕ → ℕ → ℕ → Field
rational tag a b = record { tag = tag; kind = 5; count = 1; numbers = a ∷ b ∷ [] }

-- the bytes of a number of a SHORT, of a LONG, or of a RATIONAL, which is two numbers
abbrev pub number_size : ℕ → ℕ
number_size kind = cond (kind == 3) 2 4

-- a field's values, as bytes
abbrev pub value_bytes : Endian → Field → List ℕ
value_bytes o f = flat_map (number_bytes o (number_size f.kind)) f.numbers

-- values of no more than 4 bytes stand in the entry
abbrev pub inline : Field → Bool
inline f = nat_le (size_of f.kind f.count) 4

-- the last 4 bytes of an entry: the values from the left, or their place
abbrev pub last_bytes : Endian → ℕ → Field → List ℕ
last_bytes o out f = cond (inline f) (value_bytes o f ++ replicate (4 - length (value_bytes o f)) 0) (number_bytes o 4 out)

-- a field's entry, with the place where its values go if they are longer than 4 bytes
abbrev pub entry_bytes : Endian → ℕ → Field → List ℕ
entry_bytes o out f = number_bytes o 2 f.tag ++ (number_bytes o 2 f.kind ++ (number_bytes o 4 f.count ++ last_bytes o out f))

-- the values that do not stand in the entry, and their size
abbrev pub outer_bytes : Endian → Field → List ℕ
outer_bytes o f = cond (inline f) [] (value_bytes o f)

abbrev pub outer_size : Field → ℕ
outer_size f = cond (inline f) 0 (size_of f.kind f.count)

-- the entries of fields whose longer values stand one after another from a place on
unfoldable pub entries_bytes : Endian → ℕ → List Field → List ℕ
entries_bytes o out [] = []
entries_bytes o out (f ∷ fs) = entry_bytes o out f ++ entries_bytes o (out + outer_size f) fs

-- a directory at a place, with link 0, and after it the values longer than 4 bytes
unfoldable pub directory_bytes : Endian → ℕ → List Field → List ℕ
directory_bytes o place fs =
    number_bytes o 2 (length fs)
    ++ (entries_bytes o (place + directory_size (length fs)) fs
    ++ (number_bytes o 4 0
    ++ flat_map (outer_bytes o) fs))
