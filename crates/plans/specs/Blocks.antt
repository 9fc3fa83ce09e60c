-- The block of a draft: every byte of it, from the pixels, the outline and the place. Assumes nothing.
use Rattle.std.specs.Prelude.{ℕ, ◌+◌, ◌-◌, ◌*◌, ◌/◌, ◌%◌, ◌^◌, cond, List, [], ◌∷◌, ◌++◌, nat_lt}
use Rattle.octets.specs.declared.endian.Endian.{Endian}
use Rattle.octets.specs.Digits.{packed, digit}
use Rattle.octets.specs.Numbers.{number_bytes}
use Rattle.octets.specs.Rows.{byte, chain, per_byte, padded, packed_row, tabulate}
use Rattle.raster.specs.Picture.{Picture, framed, number_of}
use Rattle.links.specs.Links.{magic}
use Rattle.pages.specs.declared.layout.SegmentKind.{SegmentKind}
use Rattle.pages.specs.declared.layout.SegmentKind.TheVariants.{Strip, Tile}
use Rattle.pages.specs.Geometry.{samples_of, first_column, first_row, rows_of, row_bytes}
use Rattle.plans.specs.declared.outline.Outline.{Outline}
use Rattle.plans.specs.declared.pieces.Pieces.{Pieces}
use Rattle.plans.specs.Outlines.{outline_of, segments_in, segment_size, head_size}
use Rattle.plans.specs.Directories.{Field, shorts, longs, rational, directory_bytes}

-- the pixel at column x, row y of segment k; 0 beyond the edges
abbrev pub pixel_of : Outline → (ℕ → ℕ → ℕ) → ℕ → ℕ → ℕ → ℕ
pixel_of q at k x y =
    framed q.width q.height at (first_column q.cut q.width k + x) (first_row q.cut q.width k + y)

-- sample s of row y of segment k
abbrev pub sample_of : Outline → (ℕ → ℕ → ℕ) → ℕ → ℕ → ℕ → ℕ
sample_of q at k y s =
    digit (2 ^ q.kind.bits) (samples_of q.kind) (pixel_of q at k (s / samples_of q.kind) y) (s % samples_of q.kind)

-- row y of segment k
abbrev pub row_of : Outline → (ℕ → ℕ → ℕ) → ℕ → ℕ → List ℕ
row_of q at k y = packed_row q.kind.bits (q.cut.wide * samples_of q.kind) (sample_of q at k y)

-- segment k: its rows, one after another
unfoldable pub segment : Outline → (ℕ → ℕ → ℕ) → ℕ → List ℕ
segment q at k = chain (rows_of q.cut q.width q.height k) (row_of q at k)

-- the offsets of the segments, which follow one another from `start` on, each but the last as long as the first
abbrev pub offsets_from : Outline → ℕ → List ℕ
offsets_from q start = tabulate (segments_in q) (λ k. start + k * segment_size q 0)

abbrev pub byte_counts : Outline → List ℕ
byte_counts q = tabulate (segments_in q) (segment_size q)

-- the bits of each sample
abbrev pub sample_bits : Outline → List ℕ
sample_bits q = tabulate (samples_of q.kind) (λ _. q.kind.bits)

-- the fields in tag order, of strips or of tiles the first of which begins at `start`
abbrev pub fields_by : SegmentKind → Outline → ℕ → List Field
fields_by Strip q start =
    longs 256 (q.width ∷ [])
    ∷ longs 257 (q.height ∷ [])
    ∷ shorts 258 (sample_bits q)
    ∷ shorts 259 (1 ∷ [])
    ∷ shorts 262 (number_of q.kind.photometric ∷ [])
    ∷ longs 273 (offsets_from q start)
    ∷ shorts 277 (samples_of q.kind ∷ [])
    ∷ longs 278 (q.cut.high ∷ [])
    ∷ longs 279 (byte_counts q)
    ∷ rational 282 1 1
    ∷ rational 283 1 1
    ∷ shorts 296 (1 ∷ [])
    ∷ []
fields_by Tile q start =
    longs 256 (q.width ∷ [])
    ∷ longs 257 (q.height ∷ [])
    ∷ shorts 258 (sample_bits q)
    ∷ shorts 259 (1 ∷ [])
    ∷ shorts 262 (number_of q.kind.photometric ∷ [])
    ∷ shorts 277 (samples_of q.kind ∷ [])
    ∷ rational 282 1 1
    ∷ rational 283 1 1
    ∷ shorts 296 (1 ∷ [])
    ∷ longs 322 (q.cut.wide ∷ [])
    ∷ longs 323 (q.cut.high ∷ [])
    ∷ longs 324 (offsets_from q start)
    ∷ longs 325 (byte_counts q)
    ∷ []

abbrev pub fields_in : Outline → ℕ → List Field
fields_in q place = fields_by q.cut.kind q (place + head_size q)

-- the block at a place: a directory, the values longer than 4 bytes, the segments
unfoldable pub block : Outline → (ℕ → ℕ → ℕ) → ℕ → List ℕ
block q at place = directory_bytes q.endian place (fields_in q place) ++ chain (segments_in q) (segment q at)

-- the block of a picture, cut into pieces
abbrev pub block_of : Endian → Pieces → Picture → ℕ → List ℕ
block_of o pieces p place = block (outline_of o pieces p) p.at place

-- the 8 header bytes of a file whose first directory stands at a place
abbrev pub header : Endian → ℕ → List ℕ
header o place = magic o ++ number_bytes o 4 place

-- byte i of row y of segment k
abbrev pub row_byte : Outline → (ℕ → ℕ → ℕ) → ℕ → ℕ → ℕ → ℕ
row_byte q at k y i =
    packed (2 ^ q.kind.bits) (per_byte q.kind.bits)
    (λ t. padded (q.cut.wide * samples_of q.kind) (sample_of q at k y) (i * per_byte q.kind.bits + t))

-- byte i of segment k
abbrev pub segment_byte : Outline → (ℕ → ℕ → ℕ) → ℕ → ℕ → ℕ
segment_byte q at k i = row_byte q at k (i / row_bytes q.cut q.kind) (i % row_bytes q.cut q.kind)

-- byte i of the segments, one after another
abbrev pub segments_byte : Outline → (ℕ → ℕ → ℕ) → ℕ → ℕ
segments_byte q at i = segment_byte q at (i / segment_size q 0) (i % segment_size q 0)

-- byte i of the block, as a writer of sectors makes it
unfoldable pub block_byte : Outline → (ℕ → ℕ → ℕ) → ℕ → ℕ → ℕ
block_byte q at place i =
    cond (nat_lt i (head_size q))
    (byte (directory_bytes q.endian place (fields_in q place)) i)
    (segments_byte q at (i - head_size q))
