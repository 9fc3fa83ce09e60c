-- What a page of a file must be, in the words of the format and whatever the order of the checks. Assumes nothing.
use Rattle.std.specs.Prelude.{◌≡◌, ℕ, ◌+◌, ◌%◌, ◌<◌, ◌≤◌, min, true, cond, ◌⊎◌, List, [], ◌∷◌, length, is_some, Some, Ok, Option, slice_index}
use Rattle.std.specs.List.{AllByRecursion}
use Rattle.octets.specs.Rows.{Bits}
use Rattle.octets.specs.declared.endian.Endian.{Endian}
use Rattle.raster.specs.Picture.{kind_of}
use Rattle.links.specs.Chain.{WellLinked}
use Rattle.entries.specs.declared.entry.Directory.{Directory}
use Rattle.entries.specs.declared.entry.Entry.{Entry}
use Rattle.entries.specs.declared.entry.Shape.{Shape}
use Rattle.entries.specs.declared.entry.Shape.TheVariants.{One, OneShort, Bits as BitsShape, Many}
use Rattle.entries.specs.declared.fields.Fields.{Fields}
use Rattle.entries.specs.declared.fields.Numbers.{Numbers}
use Rattle.entries.specs.declared.fields.Table.{Table}
use Rattle.entries.specs.Entries.{entries_of, directory_at, shape_of, size}
use Rattle.entries.specs.Fields.{gathered}
use Rattle.pages.specs.declared.layout.Cut.{Cut}
use Rattle.pages.specs.declared.layout.Format.{Format}
use Rattle.pages.specs.declared.layout.Layout.{Layout}
use Rattle.pages.specs.declared.layout.Sampling.{Sampling}
use Rattle.pages.specs.declared.layout.SegmentKind.{SegmentKind}
use Rattle.pages.specs.declared.layout.SegmentKind.TheVariants.{Strip, Tile}
use Rattle.pages.specs.declared.layout.Sides.{Sides}
use Rattle.pages.specs.Tags.{are_tiles}
use Rattle.pages.specs.Geometry.{segments_of, needed}
use Rattle.pages.specs.Pages.{tiled, segment_kind, format_of, sampling_of, sides_of, interpreted, layout_of}
use Rattle.pages.specs.Segments.{offset_of, byte_count_of}
use Rattle.pages.specs.Opening.{opened}

-- the tags of entries ascend, and none is below `least`
abbrev pub Ascending : ℕ → List Entry → Type 0
Ascending least [] = Unit {0}
Ascending least (e ∷ es) = (least ≤ e.tag) × Ascending (e.tag + 1) es

-- a SHORT, and a SHORT or a LONG
abbrev pub IsShort : ℕ → Type 0
IsShort kind = kind ≡ 3

abbrev pub IsNumber : ℕ → Type 0
IsNumber kind = (kind ≡ 3) ⊎ (kind ≡ 4)

-- a listed field has the type and the count that its tag asks for
abbrev pub Typed : Shape → ℕ → ℕ → Type 0
Typed One kind count = IsNumber kind × (count ≡ 1)
Typed OneShort kind count = IsShort kind × (count ≡ 1)
Typed BitsShape kind count = IsShort kind × ((count ≡ 1) ⊎ (count ≡ 3))
Typed Many kind count = IsNumber kind × (1 ≤ count)

-- values that do not fit their entry stand at an even place, past the header and wholly within n bytes
pub record Stored (n : ℕ) (e : Entry) : Type 0 where
  pub even : e.values % 2 ≡ 0
  pub past : 8 ≤ e.values
  pub within : e.values + size e ≤ n

-- the field of an entry, if its tag is listed
pub record FieldRules (n : ℕ) (e : Entry) (s : Shape) : Type 0 where
  pub typed : Typed s e.kind e.count
  pub stored : 4 < size e → Stored n e

abbrev pub EntryRules : ℕ → Entry → Type 0
EntryRules n e = (s : Shape) → shape_of e.tag ≡ Some s → FieldRules n e s

-- a tag is there
abbrev pub Present : Option Numbers → Type 0
Present field = is_some field ≡ true

-- the offsets and byte counts that count: a tiled page's strips are ignored
abbrev pub table_in : Fields → Table
table_in fs = cond (tiled fs) fs.tiles fs.strips

-- a page has the tags that it needs, its offsets and byte counts among them
pub record NeededTags (fs : Fields) (offsets counts : Numbers) : Type 0 where
  pub width : Present fs.width
  pub height : Present fs.height
  pub photometric : Present fs.photometric
  pub sides : tiled fs ≡ true → Present fs.across × Present fs.down
  pub offsets_there : (table_in fs).offsets ≡ Some offsets
  pub counts_there : (table_in fs).counts ≡ Some counts

-- not compressed, the high bits first, the samples of a pixel side by side, and one of eight orientations
pub record FormatRules (f : Format) : Type 0 where
  pub compression : f.compression ≡ 1
  pub fill : f.fill ≡ 1
  pub planes : f.planes ≡ 1
  pub oriented : 1 ≤ f.orientation
  pub orientations : f.orientation ≤ 8

-- one sample of 1, 4 or 8 bits, where 0 is white or black
pub record Grey (s : Sampling) : Type 0 where
  pub photometric : s.photometric < 2
  pub samples : s.samples ≡ 1
  pub bits : Bits s.first

-- three samples of 8 bits
pub record Rgb (s : Sampling) : Type 0 where
  pub photometric : s.photometric ≡ 2
  pub samples : s.samples ≡ 3
  pub first : s.first ≡ 8
  pub second : s.second ≡ 8
  pub third : s.third ≡ 8

-- an allowed kind, with bits given for each sample
pub record KindRules (s : Sampling) : Type 0 where
  pub given : s.given ≡ s.samples
  pub allowed : Grey s ⊎ Rgb s

-- a side of a page, and of a tile
abbrev pub PageSide : ℕ → Type 0
PageSide n = (1 ≤ n) × (n ≤ 16384)

abbrev pub TileSide : ℕ → Type 0
TileSide n = (16 ≤ n) × (n ≤ 16384) × (n % 16 ≡ 0)

pub record SideRules (kind : SegmentKind) (s : Sides) : Type 0 where
  pub width : PageSide s.width
  pub height : PageSide s.height
  pub strips : kind ≡ Strip → 1 ≤ s.rows
  pub tiles : kind ≡ Tile → TileSide s.across × TileSide s.down

-- tiles of their sides, or strips as wide as the page and at most as high
abbrev pub cut_by : SegmentKind → Sides → Cut
cut_by kind s = record {
  kind = kind;
  wide = cond (are_tiles kind) s.across s.width;
  high = cond (are_tiles kind) s.down (min s.rows s.height);
}

-- one offset and one byte count a segment, and at most 1,024
pub record TallyRules (l : Layout) : Type 0 where
  pub offsets : l.offsets.count ≡ segments_of l
  pub counts : l.counts.count ≡ segments_of l
  pub few : segments_of l ≤ 1024

-- a segment stands past the header, and all that it needs is counted and lies within the file
pub record SegmentRules (bs : List ℕ) (l : Layout) (k : ℕ) : Type 0 where
  pub past : 8 ≤ offset_of bs l k
  pub counted : needed l k ≤ byte_count_of bs l k
  pub within : offset_of bs l k + needed l k ≤ length bs

-- the tags of a directory
abbrev pub fields_in : List ℕ → Directory → Fields
fields_in bs d = gathered (entries_of bs d)

abbrev pub format_in : List ℕ → Directory → Format
format_in bs d = format_of d.endian bs (fields_in bs d)

abbrev pub sampling_in : List ℕ → Directory → Sampling
sampling_in bs d = sampling_of d.endian bs (fields_in bs d)

abbrev pub sides_in : List ℕ → Directory → Sides
sides_in bs d = sides_of d.endian bs (fields_in bs d)

-- what a directory's tags say of its page, in a file with so many directories
abbrev pub layout_in : List ℕ → ℕ → Directory → Numbers → Numbers → Layout
layout_in bs directories d offsets counts =
    layout_of d directories (sides_in bs d) record { offsets = offsets; counts = counts } (format_in bs d).orientation
    (kind_of (interpreted (sampling_in bs d).photometric) (sampling_in bs d).first)
    (cut_by (segment_kind (fields_in bs d)) (sides_in bs d))

-- a directory is that of a page
pub record PageRules (bs : List ℕ) (directories : ℕ) (d : Directory) : Type 0 where
  -- entries in ascending order, those of listed tags with the right type and count and with values within the file
  pub ascending : Ascending 0 (entries_of bs d)
  pub fields : AllByRecursion (EntryRules (length bs)) (entries_of bs d)
  -- the needed tags are there
  pub offsets : Numbers
  pub counts : Numbers
  pub needs : NeededTags (fields_in bs d) offsets counts
  -- the format, the kind and the sides are allowed
  pub format : FormatRules (format_in bs d)
  pub kind : KindRules (sampling_in bs d)
  pub sides : SideRules (segment_kind (fields_in bs d)) (sides_in bs d)
  -- every segment is listed and lies within the file
  pub tally : TallyRules (layout_in bs directories d offsets counts)
  pub segments : (k : ℕ) → k < segments_of (layout_in bs directories d offsets counts) → SegmentRules bs (layout_in bs directories d offsets counts) k

-- a file has a page
pub record MeetsRules (bs : List ℕ) (page : ℕ) : Type 0 where
  -- the directories, in a byte order, and their chain ends
  pub order : Endian
  pub places : List ℕ
  pub linked : WellLinked bs order places
  -- the page's is one of them
  pub there : page < length places
  pub rules : PageRules bs (length places) (directory_at order bs page (slice_index places page))

-- what the rules make of a page
abbrev pub layout_by : (bs : List ℕ) (page : ℕ) → MeetsRules bs page → Layout
layout_by bs page m = layout_in bs (length m.places) (directory_at m.order bs page (slice_index m.places page)) m.rules.offsets m.rules.counts

-- a page is accepted exactly if it meets the rules, and known by what they make of it
pub record AcceptedExactly (bs : List ℕ) (page : ℕ) : Type 0 where
  pub sound : (l : Layout) → opened bs page ≡ Ok l → (m : MeetsRules bs page) × (layout_by bs page m ≡ l)
  pub complete : (m : MeetsRules bs page) → opened bs page ≡ Ok (layout_by bs page m)
