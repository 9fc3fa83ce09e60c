-- How a page is cut into strips or tiles. Assumes nothing.
use Rattle.std.specs.Prelude.{ℕ, ◌-◌, ◌*◌, ◌/◌, ◌%◌, min, cond, ◌==◌}
use Rattle.octets.specs.Rows.{ceil, packed_size}
use Rattle.raster.specs.declared.grid.Kind.{Kind}
use Rattle.raster.specs.Picture.{number_of}
use Rattle.pages.specs.declared.layout.Cut.{Cut}
use Rattle.pages.specs.declared.layout.Layout.{Layout}
use Rattle.pages.specs.Tags.{are_tiles}

-- the samples of a pixel: three for RGB, else one
abbrev pub samples_of : Kind → ℕ
samples_of k = cond (number_of k.photometric == 2) 3 1

-- how many segments stand side by side, and in all
abbrev pub across : Cut → ℕ → ℕ
across c width = ceil width c.wide

unfoldable pub segments : Cut → ℕ → ℕ → ℕ
segments c width height = ceil height c.high * across c width

-- the column and the row of the page at which segment k begins
abbrev pub first_column : Cut → ℕ → ℕ → ℕ
first_column c width k = k % across c width * c.wide

abbrev pub first_row : Cut → ℕ → ℕ → ℕ
first_row c width k = k / across c width * c.high

-- the rows of segment k
abbrev pub rows_of : Cut → ℕ → ℕ → ℕ → ℕ
rows_of c width height k = cond (are_tiles c.kind) c.high (min c.high (height - first_row c width k))

-- the bytes of a segment's row: each row begins with a new byte
abbrev pub row_bytes : Cut → Kind → ℕ
row_bytes c k = packed_size k.bits (c.wide * samples_of k)

-- the segments of a page
abbrev pub segments_of : Layout → ℕ
segments_of l = segments l.cut l.width l.height

-- the bytes that segment k needs: its rows times the bytes of a row
unfoldable pub needed : Layout → ℕ → ℕ
needed l k = rows_of l.cut l.width l.height k * row_bytes l.cut l.kind
