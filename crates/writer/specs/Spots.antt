-- The bytes of the segments by their place in the picture. Assumes nothing.
use Rattle.std.specs.Prelude.{ℕ, ◌+◌, ◌*◌, ◌/◌, ◌%◌, ◌^◌}
use Rattle.octets.specs.Digits.{packed, digit}
use Rattle.octets.specs.Rows.{per_byte, padded}
use Rattle.raster.specs.Picture.{framed}
use Rattle.pages.specs.Geometry.{samples_of, first_column, first_row, row_bytes}
use Rattle.plans.specs.declared.outline.Outline.{Outline}
use Rattle.plans.specs.Outlines.{segment_size}
use Rattle.writer.specs.declared.spots.Spot.{Spot}

-- where byte j of the segments stands
abbrev pub spot_of : Outline → ℕ → Spot
spot_of q j = record {
  column = first_column q.cut q.width (j / segment_size q 0);
  row = first_row q.cut q.width (j / segment_size q 0) + j % segment_size q 0 / row_bytes q.cut q.kind;
  byte = j % segment_size q 0 % row_bytes q.cut q.kind;
}

-- the pixel x columns on from the segment's first; 0 beyond the edges
abbrev pub pixel_at : Outline → (ℕ → ℕ → ℕ) → Spot → ℕ → ℕ
pixel_at q at spot x = framed q.width q.height at (spot.column + x) spot.row

-- sample s of the spot's row
abbrev pub sample_at : Outline → (ℕ → ℕ → ℕ) → Spot → ℕ → ℕ
sample_at q at spot s = digit (2 ^ q.kind.bits) (samples_of q.kind) (pixel_at q at spot (s / samples_of q.kind)) (s % samples_of q.kind)

-- the same, and 0 past the row's end
abbrev pub padded_at : Outline → (ℕ → ℕ → ℕ) → Spot → ℕ → ℕ
padded_at q at spot s = padded (q.cut.wide * samples_of q.kind) (sample_at q at spot) s

-- the byte at a spot
abbrev pub byte_at : Outline → (ℕ → ℕ → ℕ) → Spot → ℕ
byte_at q at spot = packed (2 ^ q.kind.bits) (per_byte q.kind.bits) (λ t. padded_at q at spot (spot.byte * per_byte q.kind.bits + t))
