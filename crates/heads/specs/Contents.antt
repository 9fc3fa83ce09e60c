-- The bytes of an entry. Assumes nothing.
use Rattle.std.specs.Prelude.{ℕ, ◌-◌, List, [], ◌∷◌, ◌++◌}
use Rattle.octets.specs.declared.endian.Endian.{Endian}
use Rattle.octets.specs.declared.endian.Endian.TheVariants.{Little, Big}
use Rattle.octets.specs.Numbers.{number_bytes}
use Rattle.entries.specs.declared.field_type.FieldType.{FieldType}
use Rattle.entries.specs.declared.field_type.FieldType.TheVariants.{Short as ShortType, Long as LongType}
use Rattle.entries.specs.Types.{number_of}
use Rattle.heads.specs.declared.contents.Content.{Content}
use Rattle.heads.specs.declared.contents.Content.TheVariants.{Short, Long, Placed}

-- how many of n bytes are lower than byte t
abbrev pub lower_bytes : Endian → ℕ → ℕ → ℕ
lower_bytes Little n t = t
lower_bytes Big n t = n - 1 - t

-- the type of the values
abbrev pub kind_of : Content → FieldType
kind_of (Short number) = ShortType
kind_of (Long number) = LongType
kind_of (Placed kind count place) = kind

-- how many values there are
abbrev pub count_of : Content → ℕ
count_of (Short number) = 1
count_of (Long number) = 1
count_of (Placed kind count place) = count

-- the last four bytes: a value from the left, or the place of the values
abbrev pub last_of : Endian → Content → List ℕ
last_of o (Short number) = number_bytes o 2 number ++ (0 ∷ 0 ∷ [])
last_of o (Long number) = number_bytes o 4 number
last_of o (Placed kind count place) = number_bytes o 4 place

-- the entry of a tag
unfoldable pub entry_of : Endian → ℕ → Content → List ℕ
entry_of o tag c = number_bytes o 2 tag ++ (number_bytes o 2 (number_of (kind_of c)) ++ (number_bytes o 4 (count_of c) ++ last_of o c))
