-- How large a draft is, and how its page will be laid out. Assumes nothing.
use Rattle.std.specs.Prelude.{◌≡◌, ℕ, ◌+◌, ◌-◌, ◌*◌, ◌≤◌, min, true, cond, ◌==◌, nat_le}
use Rattle.octets.specs.declared.endian.Endian.{Endian}
use Rattle.raster.specs.declared.grid.Kind.{Kind}
use Rattle.raster.specs.Picture.{Picture, allowed, number_of}
use Rattle.entries.specs.declared.fields.Form.TheVariants.{Long}
use Rattle.entries.specs.declared.fields.Numbers.{Numbers}
use Rattle.entries.specs.Entries.{home_of}
use Rattle.pages.specs.declared.layout.Cut.{Cut}
use Rattle.pages.specs.declared.layout.Layout.{Layout}
use Rattle.pages.specs.declared.layout.SegmentKind.{SegmentKind}
use Rattle.pages.specs.declared.layout.SegmentKind.TheVariants.{Strip, Tile}
use Rattle.pages.specs.Tags.{are_tiles}
use Rattle.pages.specs.Geometry.{segments, rows_of, row_bytes}
use Rattle.plans.specs.declared.outline.Outline.{Outline}
use Rattle.plans.specs.declared.pieces.Pieces.{Pieces}
use Rattle.plans.specs.declared.pieces.Pieces.TheVariants.{Strips, Tiles}
use Rattle.plans.specs.Limits.{limited}

-- how a picture of these sides is cut into pieces: a strip is as wide as the picture, and rows per strip are cut to its height
abbrev pub cut_by : Pieces → ℕ → ℕ → Cut
cut_by (Strips rows) width height = record { kind = Strip; wide = width; high = min rows height }
cut_by (Tiles wide high) width height = record { kind = Tile; wide = wide; high = high }

-- the pieces of a cut
abbrev pub pieces_by : SegmentKind → ℕ → ℕ → Pieces
pieces_by Strip wide high = Strips high
pieces_by Tile wide high = Tiles wide high

abbrev pub pieces_of : Cut → Pieces
pieces_of c = pieces_by c.kind c.wide c.high

-- the outline of the draft of a picture of these sides and this kind, cut into pieces
abbrev pub outlined : Endian → Pieces → ℕ → ℕ → Kind → Outline
outlined o pieces width height kind = record {
  endian = o;
  width = width;
  height = height;
  kind = kind;
  cut = cut_by pieces width height;
}

abbrev pub outline_of : Endian → Pieces → Picture → Outline
outline_of o pieces p = outlined o pieces p.width p.height p.kind

-- a strip is as wide as the picture and no higher
abbrev pub Spans : Cut → ℕ → ℕ → Type 0
Spans c width height = c.kind ≡ Strip → (c.wide ≡ width) × (c.high ≤ height)

-- what holds of the outline of the draft of every picture that is not empty
pub record Proper (q : Outline) : Type 0 where
  pub kind : allowed q.kind ≡ true
  pub some_wide : 1 ≤ q.width
  pub some_high : 1 ≤ q.height
  pub wide : q.width ≤ 16384
  pub high : q.height ≤ 16384
  pub limits : limited (pieces_of q.cut) ≡ true
  pub spanned : Spans q.cut q.width q.height

abbrev pub segments_in : Outline → ℕ
segments_in q = segments q.cut q.width q.height

-- the bytes of segment k: its rows times the bytes of a row
abbrev pub segment_size : Outline → ℕ → ℕ
segment_size q k = rows_of q.cut q.width q.height k * row_bytes q.cut q.kind

-- the entries of the directory, and its bytes: the number of entries, the entries, the link
abbrev pub entries_in : Outline → ℕ
entries_in q = cond (are_tiles q.cut.kind) 13 12

abbrev pub directory_size : ℕ → ℕ
directory_size n = 6 + 12 * n

-- the bytes after the directory of the bits of each sample: three SHORTs for RGB; one stands in its entry
abbrev pub bits_size : Kind → ℕ
bits_size k = cond (number_of k.photometric == 2) 6 0

-- the bytes after the directory of n LONGs: one stands in its entry
abbrev pub longs_size : ℕ → ℕ
longs_size n = cond (nat_le n 1) 0 (4 * n)

-- the bytes before the first segment: the directory, the bits, two RATIONALs, the offsets and the byte counts
abbrev pub head_size : Outline → ℕ
head_size q = directory_size (entries_in q) + (bits_size q.kind + (16 + 2 * longs_size (segments_in q)))

-- the bytes of a draft: what stands before the segments, and the segments, each but the last as long as the first
unfoldable pub block_size : Outline → ℕ
block_size q = head_size q + ((segments_in q - 1) * segment_size q 0 + segment_size q (segments_in q - 1))

-- n LONGs of the entry at a place, that stand in the entry or at `out`
abbrev pub longs_at : ℕ → ℕ → ℕ → Numbers
longs_at n entry out = record { form = Long; count = n; place = home_of entry (4 * n) out }

-- The bytes of a draft before the entries of the offsets and of the byte counts, and before the values of both but for
-- those of the bits. Among the 12 entries of strips they are 5 and 8, and stand after the bits; among the 13 of tiles they
-- are 11 and 12, and stand after the bits and the RATIONALs.
abbrev pub offsets_entry : SegmentKind → ℕ
offsets_entry Strip = 62
offsets_entry Tile = 134

abbrev pub counts_entry : SegmentKind → ℕ
counts_entry Strip = 98
counts_entry Tile = 146

abbrev pub values_after : SegmentKind → ℕ
values_after Strip = 150
values_after Tile = 178

-- the offsets and the byte counts of the strips or the tiles of a draft at a place
abbrev pub offsets_by : SegmentKind → Outline → ℕ → Numbers
offsets_by kind q place = longs_at (segments_in q) (place + offsets_entry kind) (place + (values_after kind + bits_size q.kind))

abbrev pub counts_by : SegmentKind → Outline → ℕ → Numbers
counts_by kind q place =
    longs_at (segments_in q) (place + counts_entry kind) (place + (values_after kind + bits_size q.kind + longs_size (segments_in q)))

-- the page of a draft at a place, as it opens: the only one, with orientation 1
unfoldable pub block_layout : Outline → ℕ → Layout
block_layout q place = record {
  directory = record { endian = q.endian; page = 0; place = place; entries = entries_in q };
  directories = 1;
  width = q.width;
  height = q.height;
  kind = q.kind;
  orientation = 1;
  cut = q.cut;
  offsets = offsets_by q.cut.kind q place;
  counts = counts_by q.cut.kind q place;
}
