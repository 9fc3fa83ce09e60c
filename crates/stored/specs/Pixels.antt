-- The pixels that a file's bytes have, and the picture of a page. Assumes nothing.
use Rattle.std.specs.Prelude.{ℕ, ◌+◌, ◌*◌, ◌/◌, ◌%◌, ◌^◌, cond, List, Ok, Result}
use Rattle.faults.specs.declared.fault.Fault.{Fault}
use Rattle.faults.specs.Faults.{then}
use Rattle.octets.specs.Digits.{packed}
use Rattle.octets.specs.Rows.{byte, per_byte, sample_in}
use Rattle.reads.specs.Reads.{inside}
use Rattle.raster.specs.Picture.{Picture, framed}
use Rattle.raster.specs.Views.{swaps, turn_by}
use Rattle.pages.specs.declared.layout.Cut.{Cut}
use Rattle.pages.specs.declared.layout.Layout.{Layout}
use Rattle.pages.specs.Geometry.{samples_of, across, row_bytes}
use Rattle.pages.specs.Segments.{offset_of}
use Rattle.pages.specs.Opening.{opened}

-- the segment in which the pixel at column x, row y lies: segments run left to right, then down
abbrev pub segment_of : Cut → ℕ → ℕ → ℕ → ℕ
segment_of c width x y = y / c.high * across c width + x / c.wide

-- where in its segment the row begins in which the pixel lies
abbrev pub row_start : Layout → ℕ → ℕ
row_start l y = y % l.cut.high * row_bytes l.cut l.kind

-- which sample of its row is the first of the pixel
abbrev pub first_sample : Layout → ℕ → ℕ
first_sample l x = x % l.cut.wide * samples_of l.kind

-- where in the file the row begins in which the pixel lies
abbrev pub row_place : List ℕ → Layout → ℕ → ℕ → ℕ
row_place bs l x y = offset_of bs l (segment_of l.cut l.width x y) + row_start l y

-- where in the file the bytes of the pixel begin: of an allowed kind it takes as many bytes as it has samples
abbrev pub pixel_place : List ℕ → Layout → ℕ → ℕ → ℕ
pixel_place bs l x y = row_place bs l x y + first_sample l x / per_byte l.kind.bits

-- the samples of the pixel put together to one number, the first the highest
unfoldable pub pixel_in : List ℕ → Layout → ℕ → ℕ → ℕ
pixel_in bs l x y =
    packed (2 ^ l.kind.bits) (samples_of l.kind)
    (λ j. sample_in l.kind.bits (λ i. byte bs (row_place bs l x y + i)) (first_sample l x + j))

-- the pixel number at column x, row y; 0 where its bytes do not all lie in the file, as on no accepted page
unfoldable pub stored_pixel : List ℕ → Layout → ℕ → ℕ → ℕ
stored_pixel bs l x y = cond (inside bs (pixel_place bs l x y) (samples_of l.kind)) (pixel_in bs l x y) 0

-- the picture of a page before its orientation
abbrev pub stored : List ℕ → Layout → Picture
stored bs l = record {
  width = l.width;
  height = l.height;
  kind = l.kind;
  at = framed l.width l.height (stored_pixel bs l);
}

-- the picture of a page
abbrev pub picture_of : List ℕ → Layout → Picture
picture_of bs l = turn_by l.orientation (stored bs l)

-- the sides of that picture: orientations 5 to 8 swap those of the stored grid
abbrev pub shown_width : Layout → ℕ
shown_width l = cond (swaps l.orientation) l.height l.width

abbrev pub shown_height : Layout → ℕ
shown_height l = cond (swaps l.orientation) l.width l.height

-- what is shown of a page
pub record Shown : Type 0 where
  pub picture : Picture
  pub orientation : ℕ

-- what is shown of a page of a file, or the first fault
abbrev pub shown : List ℕ → ℕ → Result Shown Fault
shown bs page = then (opened bs page) (λ l. Ok record { picture = picture_of bs l; orientation = l.orientation })
