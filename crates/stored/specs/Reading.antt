-- A pixel by the place of its bytes alone. Assumes nothing.
use Rattle.std.specs.Prelude.{ℕ, ◌+◌, ◌/◌, ◌%◌, ◌^◌, cond, List}
use Rattle.octets.specs.Digits.{packed, digit}
use Rattle.octets.specs.Rows.{byte, per_byte}
use Rattle.reads.specs.Reads.{inside}
use Rattle.raster.specs.declared.grid.Photometric.{Photometric}
use Rattle.raster.specs.declared.grid.Photometric.TheVariants.{WhiteIsZero, BlackIsZero, Rgb}
use Rattle.pages.specs.declared.layout.Layout.{Layout}
use Rattle.stored.specs.Pixels.{row_start, first_sample}

-- how far into its segment the bytes of the pixel at column x, row y begin
abbrev pub start_of : Layout → ℕ → ℕ → ℕ
start_of l x y = row_start l y + first_sample l x / per_byte l.kind.bits

-- sample s of the byte at a place, and 0 past the end
unfoldable pub sample_at : List ℕ → ℕ → ℕ → ℕ → ℕ
sample_at bs bits place s = digit (2 ^ bits) (per_byte bits) (byte bs place) s

-- the three bytes from a place on as one number, and 0 where they do not all lie in the file
unfoldable pub rgb_at : List ℕ → ℕ → ℕ
rgb_at bs place = cond (inside bs place 3) (packed 256 3 (λ i. byte bs (place + i) % 256)) 0

-- the pixel whose bytes begin at a place, with sample s of the first
abbrev pub pixel_from : List ℕ → Photometric → ℕ → ℕ → ℕ → ℕ
pixel_from bs WhiteIsZero bits place s = sample_at bs bits place s
pixel_from bs BlackIsZero bits place s = sample_at bs bits place s
pixel_from bs Rgb bits place s = rgb_at bs place
