-- The checks of a whole page. Assumes nothing.
use Rattle.std.specs.Prelude.{ℕ, ◌%◌, min, Bool, cond, not, ◌&&◌, ◌||◌, List, is_some, Some, None, Ok, Err, Option, Result, ◌==◌, nat_le, nat_lt}
use Rattle.faults.specs.declared.fault.Check.{Check}
use Rattle.faults.specs.declared.fault.Check.TheVariants.{Missing, Kind as KindCheck, Size, Tally}
use Rattle.faults.specs.declared.fault.Fault.{Fault}
use Rattle.faults.specs.Faults.{fault, refused, then}
use Rattle.octets.specs.declared.endian.Endian.{Endian}
use Rattle.raster.specs.declared.grid.Kind.{Kind}
use Rattle.raster.specs.declared.grid.Photometric.{Photometric}
use Rattle.raster.specs.declared.grid.Photometric.TheVariants.{WhiteIsZero, BlackIsZero, Rgb}
use Rattle.raster.specs.Picture.{kind_of}
use Rattle.entries.specs.declared.entry.Directory.{Directory}
use Rattle.entries.specs.declared.fields.Fields.{Fields}
use Rattle.entries.specs.declared.fields.Numbers.{Numbers}
use Rattle.entries.specs.declared.fields.Table.{Table}
use Rattle.entries.specs.Fields.{nth_or, count_or}
use Rattle.pages.specs.declared.layout.Cut.{Cut}
use Rattle.pages.specs.declared.layout.Format.{Format}
use Rattle.pages.specs.declared.layout.Layout.{Layout}
use Rattle.pages.specs.declared.layout.Listing.{Listing}
use Rattle.pages.specs.declared.layout.Sampling.{Sampling}
use Rattle.pages.specs.declared.layout.SegmentKind.{SegmentKind}
use Rattle.pages.specs.declared.layout.SegmentKind.TheVariants.{Strip, Tile}
use Rattle.pages.specs.declared.layout.Sides.{Sides}
use Rattle.pages.specs.declared.layout.Values.{Values}
use Rattle.pages.specs.Tags.{are_tiles, offsets_tag, counts_tag}
use Rattle.pages.specs.Geometry.{segments_of}

-- a fault of a page names its directory's place
abbrev pub fault_in : Check → Directory → ℕ → Fault
fault_in check d tag = fault check d.page tag d.place

-- a page is tiled if it has any of the tags of tiles
abbrev pub tiled : Fields → Bool
tiled fs =
    is_some fs.across || (is_some fs.down || (is_some fs.tiles.offsets || is_some fs.tiles.counts))

abbrev pub segment_kind : Fields → SegmentKind
segment_kind fs = cond (tiled fs) Tile Strip

-- a tag that a page must have
abbrev pub found : Directory → ℕ → Option Numbers → Result Numbers Fault
found d tag None = Err (fault_in Missing d tag)
found d tag (Some v) = Ok v

-- the offsets and byte counts of strips or of tiles
unfoldable pub listing : Directory → SegmentKind → Table → Result Listing Fault
listing d kind table =
    then (found d (offsets_tag kind) table.offsets) (λ offsets.
    then (found d (counts_tag kind) table.counts) (λ counts.
    Ok record { offsets = offsets; counts = counts }))

unfoldable pub tile_listing : Directory → Fields → Result Listing Fault
tile_listing d fs =
    then (found d 322 fs.across) (λ _.
    then (found d 323 fs.down) (λ _.
    listing d Tile fs.tiles))

-- the offsets and byte counts of a page that lacks no tag
unfoldable pub complete : Directory → Fields → Result Listing Fault
complete d fs =
    then (found d 256 fs.width) (λ _.
    then (found d 257 fs.height) (λ _.
    then (found d 262 fs.photometric) (λ _.
    cond (tiled fs) (tile_listing d fs) (listing d Strip fs.strips))))

-- the values of a page's tags: all but the sides and 262 have defaults
unfoldable pub format_of : Endian → List ℕ → Fields → Format
format_of o bs fs = record {
  compression = nth_or o bs 1 0 fs.compression;
  fill = nth_or o bs 1 0 fs.fill;
  planes = nth_or o bs 1 0 fs.planes;
  orientation = nth_or o bs 1 0 fs.orientation;
}

-- where 258 is absent, bits are given for each sample
unfoldable pub sampling_of : Endian → List ℕ → Fields → Sampling
sampling_of o bs fs = record {
  photometric = nth_or o bs 0 0 fs.photometric;
  samples = nth_or o bs 1 0 fs.samples;
  given = count_or (nth_or o bs 1 0 fs.samples) fs.bits;
  first = nth_or o bs 1 0 fs.bits;
  second = nth_or o bs 1 1 fs.bits;
  third = nth_or o bs 1 2 fs.bits;
}

-- absent rows per strip count as the height
unfoldable pub sides_of : Endian → List ℕ → Fields → Sides
sides_of o bs fs = record {
  width = nth_or o bs 0 0 fs.width;
  height = nth_or o bs 0 0 fs.height;
  rows = nth_or o bs (nth_or o bs 0 0 fs.height) 0 fs.rows;
  across = nth_or o bs 0 0 fs.across;
  down = nth_or o bs 0 0 fs.down;
}

abbrev pub values_of : Endian → List ℕ → Fields → Values
values_of o bs fs = record { format = format_of o bs fs; sampling = sampling_of o bs fs; sides = sides_of o bs fs }

-- a number lies within limits
abbrev pub between : ℕ → ℕ → ℕ → Bool
between low high n = nat_le low n && nat_le n high

-- the orientation of a page whose bytes are laid out as they must be
unfoldable pub formatted : Directory → Format → Result ℕ Fault
formatted d f =
    refused (not (f.compression == 1)) (fault_in KindCheck d 259)
    (refused (not (f.fill == 1)) (fault_in KindCheck d 266)
    (refused (not (f.planes == 1)) (fault_in KindCheck d 284)
    (refused (not (between 1 8 f.orientation)) (fault_in KindCheck d 274)
    (Ok f.orientation))))

-- one sample of 1, 4 or 8 bits under photometric 0 or 1, and three of 8 under 2
abbrev pub grey : Sampling → Bool
grey s = nat_lt s.photometric 2 && (s.samples == 1 && (s.first == 1 || (s.first == 4 || s.first == 8)))

abbrev pub rgb : Sampling → Bool
rgb s = s.photometric == 2 && (s.samples == 3 && (s.first == 8 && (s.second == 8 && s.third == 8)))

-- the photometric interpretation of an allowed kind, by its number
abbrev pub interpreted : ℕ → Photometric
interpreted n = cond (n == 0) WhiteIsZero (cond (n == 1) BlackIsZero Rgb)

-- the kind of a page, if it is allowed
unfoldable pub sampled : Directory → Sampling → Result Kind Fault
sampled d s =
    refused (not (s.samples == 1 || s.samples == 3)) (fault_in KindCheck d 277)
    (refused (not (s.given == s.samples)) (fault_in KindCheck d 258)
    (refused (not (grey s || rgb s)) (fault_in KindCheck d 262)
    (Ok (kind_of (interpreted s.photometric) s.first))))

-- a side of a page, and of a tile
abbrev pub page_side : ℕ → Bool
page_side n = between 1 16384 n

abbrev pub tile_side : ℕ → Bool
tile_side n = between 16 16384 n && n % 16 == 0

-- the cut into tiles, or into strips as wide as the page; larger rows per strip count as the height
unfoldable pub tile_cut : Directory → Sides → Result Cut Fault
tile_cut d s =
    refused (not (tile_side s.across)) (fault_in Size d 322)
    (refused (not (tile_side s.down)) (fault_in Size d 323)
    (Ok record { kind = Tile; wide = s.across; high = s.down }))

unfoldable pub strip_cut : Directory → Sides → Result Cut Fault
strip_cut d s =
    refused (s.rows == 0) (fault_in Size d 278)
    (Ok record { kind = Strip; wide = s.width; high = min s.rows s.height })

-- how a page is cut whose sides are within limits
unfoldable pub cut_of : Directory → SegmentKind → Sides → Result Cut Fault
cut_of d kind s =
    refused (not (page_side s.width)) (fault_in Size d 256)
    (refused (not (page_side s.height)) (fault_in Size d 257)
    (cond (are_tiles kind) (tile_cut d s) (strip_cut d s)))

-- a page has one offset and one byte count a segment, and at most 1,024 segments
unfoldable pub tallied : Layout → Result Layout Fault
tallied l =
    refused (not (l.offsets.count == segments_of l)) (fault_in Tally l.directory (offsets_tag l.cut.kind))
    (refused (not (l.counts.count == segments_of l)) (fault_in Tally l.directory (counts_tag l.cut.kind))
    (refused (nat_lt 1024 (segments_of l)) (fault_in Tally l.directory (offsets_tag l.cut.kind))
    (Ok l)))

-- the layout that a page's tags and values give
abbrev pub layout_of : Directory → ℕ → Sides → Listing → ℕ → Kind → Cut → Layout
layout_of d directories s t orientation kind cut = record {
  directory = d;
  directories = directories;
  width = s.width;
  height = s.height;
  kind = kind;
  orientation = orientation;
  cut = cut;
  offsets = t.offsets;
  counts = t.counts;
}

-- the checks of a whole page, by its tags and their values
unfoldable pub laid_out : Directory → ℕ → Fields → Values → Result Layout Fault
laid_out d directories fs v =
    then (complete d fs) (λ t.
    then (formatted d v.format) (λ orientation.
    then (sampled d v.sampling) (λ kind.
    then (cut_of d (segment_kind fs) v.sides) (λ cut.
    tallied (layout_of d directories v.sides t orientation kind cut)))))
