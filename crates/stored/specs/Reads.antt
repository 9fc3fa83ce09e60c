-- How pixels stand in the bytes of a file, case by case, and what the picture of a page depends on. Assumes nothing.
use Rattle.std.specs.Prelude.{◌≡◌, ℕ, ◌+◌, ◌-◌, ◌*◌, ◌/◌, ◌%◌, ◌^◌, ◌<◌, ◌≤◌, true, List, length, Ok}
use Rattle.octets.specs.Rows.{byte}
use Rattle.raster.specs.Picture.{Sound, number_of}
use Rattle.pages.specs.declared.layout.Layout.{Layout}
use Rattle.pages.specs.Geometry.{samples_of, across, row_bytes}
use Rattle.pages.specs.Segments.{offset_of}
use Rattle.pages.specs.Opening.{opened, HasPage}
use Rattle.pages.specs.Extents.{extents, AgreeOn}
use Rattle.stored.specs.Pixels.{segment_of, row_place, pixel_place, stored_pixel, stored, picture_of}
use Rattle.stored.specs.Sane.{sane}

-- one sample of so many bits, and three of 8
abbrev pub Grey : Layout → ℕ → Type 0
Grey l bits = (number_of l.kind.photometric < 2) × (l.kind.bits ≡ bits)

abbrev pub Colour : Layout → Type 0
Colour l = (number_of l.kind.photometric ≡ 2) × (l.kind.bits ≡ 8)

-- segments run left to right, then down; strips, which are as wide as the page, only down
pub record Runs (l : Layout) : Type 0 where
  pub first : segment_of l.cut l.width 0 0 ≡ 0
  pub right : (x y : ℕ) → segment_of l.cut l.width (x + l.cut.wide) y ≡ segment_of l.cut l.width x y + 1
  pub down : (x y : ℕ) → segment_of l.cut l.width x (y + l.cut.high) ≡ segment_of l.cut l.width x y + across l.cut l.width
  pub strips : l.cut.wide ≡ l.width → (x y : ℕ) → x < l.width → segment_of l.cut l.width x y ≡ y / l.cut.high

-- Rows follow one another in their segment, and each begins with a new byte: this many bytes a row.
pub record Rows (bs : List ℕ) (l : Layout) : Type 0 where
  pub top : (x y : ℕ) → y % l.cut.high ≡ 0 → row_place bs l x y ≡ offset_of bs l (segment_of l.cut l.width x y)
  pub next : (x y : ℕ) → y % l.cut.high + 1 < l.cut.high → row_place bs l x (y + 1) ≡ row_place bs l x y + row_bytes l.cut l.kind
  pub of_1 : Grey l 1 → row_bytes l.cut l.kind ≡ (l.cut.wide + 7) / 8
  pub of_4 : Grey l 4 → row_bytes l.cut l.kind ≡ (l.cut.wide + 1) / 2
  pub of_8 : Grey l 8 → row_bytes l.cut l.kind ≡ l.cut.wide
  pub of_rgb : Colour l → row_bytes l.cut l.kind ≡ 3 * l.cut.wide

-- The pixel that is number u of a row which begins at a place: a bit, counted from the highest; half a byte, the high half first; a byte;
-- or three bytes, red, green, blue.
pub record Reads (bs : List ℕ) (l : Layout) (pixel row u : ℕ) : Type 0 where
  pub of_1 : Grey l 1 → pixel ≡ byte bs (row + u / 8) / 2 ^ (7 - u % 8) % 2
  pub of_4 : Grey l 4 → pixel ≡ byte bs (row + u / 2) / 16 ^ (1 - u % 2) % 16
  pub of_8 : Grey l 8 → pixel ≡ byte bs (row + u)
  pub of_rgb : Colour l → row + 3 * u + 3 ≤ length bs →
      pixel ≡ 65536 * byte bs (row + 3 * u) + 256 * byte bs (row + 3 * u + 1) + byte bs (row + 3 * u + 2)

-- of every layout within the limits, in bytes below 256
pub record PixelsRead : Type 0 where
  pub runs : (l : Layout) → sane l ≡ true → Runs l
  pub rows : (bs : List ℕ) (l : Layout) → sane l ≡ true → Rows bs l
  pub reads : (bs : List ℕ) (l : Layout) → sane l ≡ true → ((i : ℕ) → byte bs i < 256) → (x y : ℕ) →
      Reads bs l (stored_pixel bs l x y) (row_place bs l x y) (x % l.cut.wide)
  -- on a page of strips of one byte a pixel, the pixel at column x, row y is byte x of row y % rows of strip y / rows
  pub strip : (bs : List ℕ) (l : Layout) → sane l ≡ true → ((i : ℕ) → byte bs i < 256) → Grey l 8 → l.cut.wide ≡ l.width → (x y : ℕ) → x < l.width →
      stored_pixel bs l x y ≡ byte bs (offset_of bs l (y / l.cut.high) + y % l.cut.high * l.width + x)

-- an accepted page is within the limits, its picture is sound, and the bytes of each of its pixels lie in the file
pub record PageWhole (bs : List ℕ) (l : Layout) : Type 0 where
  pub limits : sane l ≡ true
  pub sound : Sound (picture_of bs l)
  pub inside : (x y : ℕ) → x < l.width → y < l.height → pixel_place bs l x y + samples_of l.kind ≤ length bs

abbrev pub PagesWhole : Type 0
PagesWhole = (bs : List ℕ) (page : ℕ) (l : Layout) → opened bs page ≡ Ok l → PageWhole bs l

-- two files that are as long and agree on the extents of a page have the same picture there, whatever their headers
abbrev pub PixelsLocal : Type 0
PixelsLocal = (bs cs : List ℕ) (l : Layout) → HasPage bs l → length cs ≡ length bs → AgreeOn (extents bs l) bs cs →
    (stored bs l ≡ stored cs l) × (picture_of bs l ≡ picture_of cs l)
