-- What the entries of a draft say, and where the values after its directory stand. Assumes nothing.
use Rattle.std.specs.Prelude.{ℕ, ◌+◌, ◌*◌, cond, ◌==◌, nat_le}
use Rattle.raster.specs.Picture.{number_of}
use Rattle.entries.specs.declared.field_type.FieldType.TheVariants.{Short as ShortType, Long as LongType, Rational as RationalType}
use Rattle.pages.specs.Tags.{are_tiles}
use Rattle.pages.specs.Geometry.{samples_of}
use Rattle.plans.specs.declared.outline.Outline.{Outline}
use Rattle.plans.specs.Outlines.{segments_in, segment_size, directory_size, entries_in, bits_size, longs_size, head_size}
use Rattle.heads.specs.declared.contents.Content.{Content}
use Rattle.heads.specs.declared.contents.Content.TheVariants.{Short, Long, Placed}
use Rattle.heads.specs.declared.tags.Tag.{Tag}
use Rattle.heads.specs.declared.tags.Tag.TheVariants.{ImageWidth, ImageLength, BitsPerSample, Compression, Photometric, StripOffsets, SamplesPerPixel, RowsPerStrip, StripByteCounts, XResolution, YResolution, ResolutionUnit, TileWidth, TileLength, TileOffsets, TileByteCounts}

-- Where values stand, counted from the draft's first byte: after the directory the bits; then of strips the offsets, the
-- byte counts and the RATIONALs, and of tiles the RATIONALs, the offsets and the byte counts.
abbrev pub bits_at : Outline → ℕ
bits_at q = directory_size (entries_in q)

abbrev pub offsets_at : Outline → ℕ
offsets_at q = cond (are_tiles q.cut.kind) 178 150 + bits_size q.kind

abbrev pub counts_at : Outline → ℕ
counts_at q = offsets_at q + longs_size (segments_in q)

abbrev pub ratios_at : Outline → ℕ
ratios_at q = cond (are_tiles q.cut.kind) (162 + bits_size q.kind) (150 + bits_size q.kind + 2 * longs_size (segments_in q))

-- the offset of segment k of a draft at a place
abbrev pub offset_of : Outline → ℕ → ℕ → ℕ
offset_of q place k = place + head_size q + k * segment_size q 0

-- one number a segment: in the entry, if there is one
abbrev pub one_each : ℕ → ℕ → ℕ → Content
one_each n first place = cond (nat_le n 1) (Long first) (Placed LongType n place)

-- what the entry of a tag says in a draft at a place
abbrev pub content_of : Outline → ℕ → Tag → Content
content_of q place ImageWidth = Long q.width
content_of q place ImageLength = Long q.height
content_of q place BitsPerSample = cond (number_of q.kind.photometric == 2) (Placed ShortType 3 (place + bits_at q)) (Short q.kind.bits)
content_of q place Compression = Short 1
content_of q place Photometric = Short (number_of q.kind.photometric)
content_of q place StripOffsets = one_each (segments_in q) (offset_of q place 0) (place + offsets_at q)
content_of q place SamplesPerPixel = Short (samples_of q.kind)
content_of q place RowsPerStrip = Long q.cut.high
content_of q place StripByteCounts = one_each (segments_in q) (segment_size q 0) (place + counts_at q)
content_of q place XResolution = Placed RationalType 1 (place + ratios_at q)
content_of q place YResolution = Placed RationalType 1 (place + (ratios_at q + 8))
content_of q place ResolutionUnit = Short 1
content_of q place TileWidth = Long q.cut.wide
content_of q place TileLength = Long q.cut.high
content_of q place TileOffsets = one_each (segments_in q) (offset_of q place 0) (place + offsets_at q)
content_of q place TileByteCounts = one_each (segments_in q) (segment_size q 0) (place + counts_at q)
