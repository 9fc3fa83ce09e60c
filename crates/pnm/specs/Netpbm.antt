-- A picture as a Netpbm file: P4 for bilevel, P5 for grey, P6 for RGB. Assumes nothing.
use Rattle.std.specs.Prelude.{ℕ, ◌+◌, ◌-◌, ◌*◌, ◌/◌, ◌%◌, ◌^◌, Bool, cond, List, [], ◌∷◌, ◌++◌, decimal, ◌==◌, nat_lt}
use Rattle.octets.specs.Digits.{packed}
use Rattle.octets.specs.Rows.{tabulate, chain}
use Rattle.raster.specs.Picture.{Picture, number_of}
use Rattle.raster.specs.declared.grid.Kind.{Kind}

abbrev pub bilevel : Kind → Bool
bilevel k = k.bits == 1

abbrev pub colour : Kind → Bool
colour k = number_of k.photometric == 2

-- the largest value that is printed
abbrev pub largest : Kind → ℕ
largest k = 2 ^ k.bits - 1

-- the byte after the P: the digit 4, 5 or 6
abbrev pub format : Kind → ℕ
format k = cond (bilevel k) 52 (cond (colour k) 54 53)

-- a number in decimal, and the byte after it
abbrev pub numeral : ℕ → ℕ → List ℕ
numeral n end = decimal n ++ (end ∷ [])

-- the line of the largest value, which P4 lacks
abbrev pub depth : Kind → List ℕ
depth k = cond (bilevel k) [] (numeral (largest k) 10)

-- P and the format, a newline, the width, a space, the height, a newline, and the line of the largest value
abbrev pub head : ℕ → ℕ → Kind → List ℕ
head width height k =
    (80 ∷ format k ∷ 10 ∷ []) ++ (numeral width 32 ++ (numeral height 10 ++ depth k))

-- a sample counted from black: photometric 0 has 0 for white
abbrev pub grey : Kind → ℕ → ℕ
grey k v = cond (number_of k.photometric == 0) (largest k - v) v

-- the bytes of a grey pixel, or the red, the green and the blue of an RGB pixel
abbrev pub pixel_bytes : Kind → ℕ → List ℕ
pixel_bytes k v = cond (colour k) (v / 65536 ∷ v / 256 % 256 ∷ v % 256 ∷ []) (grey k v ∷ [])

-- a bilevel pixel, 1 for black, and 0 past the last column
abbrev pub black : Picture → ℕ → ℕ → ℕ
black p y x = cond (nat_lt x p.width) (1 - grey p.kind (p.at x y)) 0

-- eight bilevel pixels, the first in the highest bit
abbrev pub octet : Picture → ℕ → ℕ → ℕ
octet p y j = packed 2 8 (λ i. black p y (8 * j + i))

-- a row: eight bilevel pixels to a byte, padded with 0; else pixel by pixel
abbrev pub octet_row : Picture → ℕ → List ℕ
octet_row p y = tabulate ((p.width + 7) / 8) (octet p y)

abbrev pub pixel_row : Picture → ℕ → List ℕ
pixel_row p y = chain p.width (λ x. pixel_bytes p.kind (p.at x y))

abbrev pub row_bytes : Picture → ℕ → List ℕ
row_bytes p y = cond (bilevel p.kind) (octet_row p y) (pixel_row p y)

abbrev pub body : Picture → List ℕ
body p = chain p.height (row_bytes p)

unfoldable pub printed : Picture → List ℕ
printed p = head p.width p.height p.kind ++ body p

-- the bytes of a row w pixels wide
abbrev pub stride : Kind → ℕ → ℕ
stride k w = cond (bilevel k) ((w + 7) / 8) (cond (colour k) (3 * w) w)
