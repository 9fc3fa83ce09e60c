-- The tags of a draft's directory. Assumes nothing.
use Rattle.std.specs.Prelude.{ℕ, cond, List, [], ◌∷◌, slice_index_or}
use Rattle.pages.specs.declared.layout.SegmentKind.{SegmentKind}
use Rattle.pages.specs.declared.layout.SegmentKind.TheVariants.{Strip, Tile}
use Rattle.pages.specs.Tags.{are_tiles}
use Rattle.heads.specs.declared.tags.Tag.{Tag}
use Rattle.heads.specs.declared.tags.Tag.TheVariants.{ImageWidth, ImageLength, BitsPerSample, Compression, Photometric, StripOffsets, SamplesPerPixel, RowsPerStrip, StripByteCounts, XResolution, YResolution, ResolutionUnit, TileWidth, TileLength, TileOffsets, TileByteCounts}

abbrev pub tag_number : Tag → ℕ
tag_number ImageWidth = 256
tag_number ImageLength = 257
tag_number BitsPerSample = 258
tag_number Compression = 259
tag_number Photometric = 262
tag_number StripOffsets = 273
tag_number SamplesPerPixel = 277
tag_number RowsPerStrip = 278
tag_number StripByteCounts = 279
tag_number XResolution = 282
tag_number YResolution = 283
tag_number ResolutionUnit = 296
tag_number TileWidth = 322
tag_number TileLength = 323
tag_number TileOffsets = 324
tag_number TileByteCounts = 325

-- the tags of strips or of tiles, in order
abbrev pub tags_of : SegmentKind → List Tag
tags_of Strip =
    ImageWidth ∷ ImageLength ∷ BitsPerSample ∷ Compression ∷ Photometric ∷ StripOffsets
    ∷ SamplesPerPixel ∷ RowsPerStrip ∷ StripByteCounts ∷ XResolution ∷ YResolution ∷ ResolutionUnit ∷ []
tags_of Tile =
    ImageWidth ∷ ImageLength ∷ BitsPerSample ∷ Compression ∷ Photometric ∷ SamplesPerPixel
    ∷ XResolution ∷ YResolution ∷ ResolutionUnit ∷ TileWidth ∷ TileLength ∷ TileOffsets ∷ TileByteCounts ∷ []

-- how many they are, and tag e of them
abbrev pub count : SegmentKind → ℕ
count kind = cond (are_tiles kind) 13 12

abbrev pub tag_at : SegmentKind → ℕ → Tag
tag_at kind e = slice_index_or (tags_of kind) e ImageWidth
