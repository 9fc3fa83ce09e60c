-- The numbers that words stand for. Assumes nothing.
use Rattle.std.specs.Prelude.{ℕ, ◌^◌, ◌<◌, List, [], ◌∷◌}
use Rattle.std.specs.Str.Parse.{IsNumeral, digits_value, without_leading_plus}
use Rattle.raster.specs.declared.grid.Area.{Area}

-- the decimal number that a word writes, with a plus before it or none
abbrev pub numeral : List ℕ → ℕ
numeral word = digits_value 10 (without_leading_plus word)

-- each word writes a number that fits 32 bits
abbrev pub Numbers : List (List ℕ) → Type 0
Numbers [] = Unit {0}
Numbers (w ∷ ws) = IsNumeral 10 (without_leading_plus w) × (numeral w < 2 ^ 32) × Numbers ws

-- the rectangle by the words of its first pixel and its sides
abbrev pub area_named : List ℕ → List ℕ → List ℕ → List ℕ → Area
area_named x y width height = record { x = numeral x; y = numeral y; width = numeral width; height = numeral height }
