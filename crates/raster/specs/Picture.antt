-- What a grid means: its sides, its kind and its pixel numbers. Assumes nothing.
use Rattle.std.specs.Prelude.{◌≡◌, ℕ, ◌^◌, ◌<◌, ◌≤◌, Bool, true, false, cond, ◌&&◌, ◌||◌, ◌⊎◌, Ok, Err, Result, ◌==◌, nat_lt}
use Rattle.faults.specs.declared.fault.Fault.{Fault}
use Rattle.faults.specs.declared.fault.Check.TheVariants.{Outside}
use Rattle.faults.specs.Faults.{bare}
use Rattle.raster.specs.declared.grid.Kind.{Kind}
use Rattle.raster.specs.declared.grid.Photometric.{Photometric}
use Rattle.raster.specs.declared.grid.Photometric.TheVariants.{WhiteIsZero, BlackIsZero, Rgb}
use Rattle.raster.specs.declared.kind.UnknownPhotometric.{UnknownPhotometric}

-- `at x y` is the pixel number at column x, row y, and 0 where x or y is not below its side:
-- so two pictures are equal as soon as their sides, kinds and inner pixels are.
pub record Picture : Type 0 where
  pub width : ℕ
  pub height : ℕ
  pub kind : Kind
  pub at : ℕ → ℕ → ℕ

abbrev pub within : ℕ → ℕ → ℕ → ℕ → Bool
within width height x y = nat_lt x width && nat_lt y height

-- f inside the sides, and 0 elsewhere
abbrev pub framed : ℕ → ℕ → (ℕ → ℕ → ℕ) → ℕ → ℕ → ℕ
framed width height f x y = cond (within width height x y) (f x y) 0

-- a picture of other sides and pixels, and all else as it is in p
abbrev pub reshaped : Picture → ℕ → ℕ → (ℕ → ℕ → ℕ) → Picture
reshaped p width height f = record { width = width; height = height; kind = p.kind; at = framed width height f }

-- the number of each photometric interpretation
abbrev pub number_of : Photometric → ℕ
number_of WhiteIsZero = 0
number_of BlackIsZero = 1
number_of Rgb = 2

abbrev pub unknown : ℕ → UnknownPhotometric
unknown n = record { number = n }

-- the photometric interpretation of a number
abbrev pub numbered : ℕ → Result Photometric UnknownPhotometric
numbered n = cond (n == 0) (Ok WhiteIsZero) (cond (n == 1) (Ok BlackIsZero) (cond (n == 2) (Ok Rgb) (Err (unknown n))))

abbrev pub kind_of : Photometric → ℕ → Kind
kind_of p b = record { photometric = p; bits = b }

-- photometric 0 (0 is white) or 1 (0 is black) with a sample of 1, 4 or 8 bits; 2 (RGB) with three of 8
abbrev pub allowed : Kind → Bool
allowed k =
    (nat_lt (number_of k.photometric) 2 && (k.bits == 1 || (k.bits == 4 || k.bits == 8)))
    || (number_of k.photometric == 2 && k.bits == 8)

-- how many pixel numbers a kind has: for RGB 65536 * red + 256 * green + blue, else the sample
abbrev pub levels : Kind → ℕ
levels k = cond (number_of k.photometric == 2) (2 ^ 24) (2 ^ k.bits)

abbrev pub empty : Picture
empty = record { width = 0; height = 0; kind = kind_of BlackIsZero 1; at = λ x y. 0 }

-- what holds of every grid's picture
pub record Sound (p : Picture) : Type 0 where
  pub sides : (p ≡ empty) ⊎ ((0 < p.width) × (0 < p.height))
  pub wide : p.width ≤ 16384
  pub high : p.height ≤ 16384
  pub kinds : allowed p.kind ≡ true
  pub samples : (x y : ℕ) → p.at x y < levels p.kind
  pub outside : (x y : ℕ) → within p.width p.height x y ≡ false → p.at x y ≡ 0

-- what `pixel` answers
abbrev pub pixel_of : Picture → ℕ → ℕ → Result ℕ Fault
pixel_of p x y = cond (within p.width p.height x y) (Ok (p.at x y)) (Err (bare Outside))
