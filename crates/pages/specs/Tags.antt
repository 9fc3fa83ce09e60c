-- Strips and tiles, and the tags that list them. Assumes nothing.
use Rattle.std.specs.Prelude.{ℕ, Bool, true, false}
use Rattle.pages.specs.declared.layout.SegmentKind.{SegmentKind}
use Rattle.pages.specs.declared.layout.SegmentKind.TheVariants.{Strip, Tile}

-- segments are tiles
abbrev pub are_tiles : SegmentKind → Bool
are_tiles Strip = false
are_tiles Tile = true

-- the tags of the offsets and byte counts of segments
abbrev pub offsets_tag : SegmentKind → ℕ
offsets_tag Strip = 273
offsets_tag Tile = 324

abbrev pub counts_tag : SegmentKind → ℕ
counts_tag Strip = 279
counts_tag Tile = 325
