-- The types of an entry's values, and their numbers. Assumes nothing.
use Rattle.std.specs.Prelude.{ℕ, cond, Ok, Err, Result, ◌==◌}
use Rattle.entries.specs.declared.field_type.FieldType.{FieldType}
use Rattle.entries.specs.declared.field_type.FieldType.TheVariants.{Byte, Ascii, Short, Long, Rational, SignedByte, Undefined, SignedShort, SignedLong, SignedRational, Float, Double}
use Rattle.entries.specs.declared.field_type.UnknownType.{UnknownType}

-- the number of a type
abbrev pub number_of : FieldType → ℕ
number_of Byte = 1
number_of Ascii = 2
number_of Short = 3
number_of Long = 4
number_of Rational = 5
number_of SignedByte = 6
number_of Undefined = 7
number_of SignedShort = 8
number_of SignedLong = 9
number_of SignedRational = 10
number_of Float = 11
number_of Double = 12

-- the type that a number names
abbrev pub type_of : ℕ → Result FieldType UnknownType
type_of number =
    cond (number == 1) (Ok Byte)
    (cond (number == 2) (Ok Ascii)
    (cond (number == 3) (Ok Short)
    (cond (number == 4) (Ok Long)
    (cond (number == 5) (Ok Rational)
    (cond (number == 6) (Ok SignedByte)
    (cond (number == 7) (Ok Undefined)
    (cond (number == 8) (Ok SignedShort)
    (cond (number == 9) (Ok SignedLong)
    (cond (number == 10) (Ok SignedRational)
    (cond (number == 11) (Ok Float)
    (cond (number == 12) (Ok Double)
    (Err record { number = number }))))))))))))

-- the bytes that a value of a type takes
abbrev pub type_size : FieldType → ℕ
type_size Byte = 1
type_size Ascii = 1
type_size Short = 2
type_size Long = 4
type_size Rational = 8
type_size SignedByte = 1
type_size Undefined = 1
type_size SignedShort = 2
type_size SignedLong = 4
type_size SignedRational = 8
type_size Float = 4
type_size Double = 8

-- the bytes that a value takes, and 0 where no type is named
abbrev pub sized : Result FieldType UnknownType → ℕ
sized (Ok t) = type_size t
sized (Err u) = 0
