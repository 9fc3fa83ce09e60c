-- Sheets worked out by hand. Assumes nothing.
use Rattle.std.specs.Prelude.{◌≡◌, ℕ, ◌+◌, ◌-◌, ◌*◌, ◌/◌, cond, List, [], ◌∷◌, length, take, drop, ◌==◌}
use Rattle.octets.specs.declared.endian.Endian.TheVariants.{Little, Big}
use Rattle.octets.specs.Rows.{ceil, packed_size, packed_row}
use Rattle.raster.specs.declared.grid.Photometric.TheVariants.{BlackIsZero, Rgb}
use Rattle.raster.specs.Picture.{Picture, framed, kind_of}
use Rattle.plans.specs.declared.pieces.Pieces.TheVariants.{Strips, Tiles}
use Rattle.plans.specs.Outlines.{cut_by, outline_of, head_size, block_size}
use Rattle.plans.specs.Directories.{shorts, last_bytes}
use Rattle.plans.specs.Blocks.{segment, block_of, header}

-- grey, 3 by 2, 8 bits, samples 1 to 6 row by row
abbrev pub grey : Picture
grey = record { width = 3; height = 2; kind = kind_of BlackIsZero 8; at = framed 3 2 (λ x y. 3 * y + x + 1) }

-- one RGB pixel: red 1, green 2, blue 3
abbrev pub dot : Picture
dot = record { width = 1; height = 1; kind = kind_of Rgb 8; at = framed 1 1 (λ x y. 0x010203) }

-- grey, 17 by 17, 8 bits: the sample tells the tile of 16 by 16 in which it lies, from 1 on, left to right, then down
abbrev pub quarters : Picture
quarters = record { width = 17; height = 17; kind = kind_of BlackIsZero 8; at = framed 17 17 (λ x y. 1 + x / 16 + 2 * (y / 16)) }

-- RGB, 20 by 20, black
abbrev pub black : Picture
black = record { width = 20; height = 20; kind = kind_of Rgb 8; at = λ x y. 0 }

-- the block of the first in one strip, II, at place 512: the number of entries, the entries a line each, the link,
-- the two resolutions and the strip
unfoldable pub grey_block : List ℕ
grey_block =
    12 ∷ 0 ∷
    0 ∷ 1 ∷ 4 ∷ 0 ∷ 1 ∷ 0 ∷ 0 ∷ 0 ∷ 3 ∷ 0 ∷ 0 ∷ 0 ∷
    1 ∷ 1 ∷ 4 ∷ 0 ∷ 1 ∷ 0 ∷ 0 ∷ 0 ∷ 2 ∷ 0 ∷ 0 ∷ 0 ∷
    2 ∷ 1 ∷ 3 ∷ 0 ∷ 1 ∷ 0 ∷ 0 ∷ 0 ∷ 8 ∷ 0 ∷ 0 ∷ 0 ∷
    3 ∷ 1 ∷ 3 ∷ 0 ∷ 1 ∷ 0 ∷ 0 ∷ 0 ∷ 1 ∷ 0 ∷ 0 ∷ 0 ∷
    6 ∷ 1 ∷ 3 ∷ 0 ∷ 1 ∷ 0 ∷ 0 ∷ 0 ∷ 1 ∷ 0 ∷ 0 ∷ 0 ∷
    17 ∷ 1 ∷ 4 ∷ 0 ∷ 1 ∷ 0 ∷ 0 ∷ 0 ∷ 166 ∷ 2 ∷ 0 ∷ 0 ∷
    21 ∷ 1 ∷ 3 ∷ 0 ∷ 1 ∷ 0 ∷ 0 ∷ 0 ∷ 1 ∷ 0 ∷ 0 ∷ 0 ∷
    22 ∷ 1 ∷ 4 ∷ 0 ∷ 1 ∷ 0 ∷ 0 ∷ 0 ∷ 2 ∷ 0 ∷ 0 ∷ 0 ∷
    23 ∷ 1 ∷ 4 ∷ 0 ∷ 1 ∷ 0 ∷ 0 ∷ 0 ∷ 6 ∷ 0 ∷ 0 ∷ 0 ∷
    26 ∷ 1 ∷ 5 ∷ 0 ∷ 1 ∷ 0 ∷ 0 ∷ 0 ∷ 150 ∷ 2 ∷ 0 ∷ 0 ∷
    27 ∷ 1 ∷ 5 ∷ 0 ∷ 1 ∷ 0 ∷ 0 ∷ 0 ∷ 158 ∷ 2 ∷ 0 ∷ 0 ∷
    40 ∷ 1 ∷ 3 ∷ 0 ∷ 1 ∷ 0 ∷ 0 ∷ 0 ∷ 1 ∷ 0 ∷ 0 ∷ 0 ∷
    0 ∷ 0 ∷ 0 ∷ 0 ∷
    1 ∷ 0 ∷ 0 ∷ 0 ∷ 1 ∷ 0 ∷ 0 ∷ 0 ∷
    1 ∷ 0 ∷ 0 ∷ 0 ∷ 1 ∷ 0 ∷ 0 ∷ 0 ∷
    1 ∷ 2 ∷ 3 ∷ 4 ∷ 5 ∷ 6 ∷
    []

pub record KnownSheets : Type 0 where
  pub ten_bilevel : packed_size 1 10 ≡ 2
  -- ten pixels, the first 1: it is the highest bit, and the row is padded with 0
  pub row_padded : packed_row 1 10 (λ s. cond (s == 0) 1 0) ≡ 0x80 ∷ 0x00 ∷ []
  -- two 4-bit samples, the first in the high half
  pub halves : packed_row 4 2 (λ s. s + 1) ≡ 0x12 ∷ []
  -- one SHORT, 5, stands in its entry from the left
  pub short_big : last_bytes Big 0 (shorts 259 (5 ∷ [])) ≡ 0 ∷ 5 ∷ 0 ∷ 0 ∷ []
  pub short_little : last_bytes Little 0 (shorts 259 (5 ∷ [])) ≡ 5 ∷ 0 ∷ 0 ∷ 0 ∷ []
  pub header_little : header Little 512 ≡ 0x49 ∷ 0x49 ∷ 42 ∷ 0 ∷ 0 ∷ 2 ∷ 0 ∷ 0 ∷ []
  pub header_big : header Big 512 ≡ 0x4D ∷ 0x4D ∷ 0 ∷ 42 ∷ 0 ∷ 0 ∷ 2 ∷ 0 ∷ []
  pub grey_block_lem : block_of Little (Strips 2) grey 512 ≡ grey_block
  pub grey_size : length grey_block ≡ 172
  -- the strip begins after the directory of 150 bytes and two RATIONALs
  pub grey_start : 512 + head_size (outline_of Little (Strips 2) grey) ≡ 678
  -- more rows than there are count as the height
  pub rows_cut : (cut_by (Strips 5) 3 2).high ≡ 2
  -- the red byte first
  pub dot_strip : segment (outline_of Little (Strips 1) dot) dot.at 0 ≡ 1 ∷ 2 ∷ 3 ∷ []
  -- tile 1 stands to the right of tile 0, tile 2 below it, and the edges are padded with 0
  pub tile_right : take 3 (segment (outline_of Little (Tiles 16 16) quarters) quarters.at 1) ≡ 2 ∷ 0 ∷ 0 ∷ []
  pub tile_below : take 3 (segment (outline_of Little (Tiles 16 16) quarters) quarters.at 2) ≡ 3 ∷ 3 ∷ 3 ∷ []
  -- 17 rows in strips of 16: the last strip has one
  pub short_strip : length (segment (outline_of Little (Strips 16) quarters) quarters.at 1) ≡ 17
  -- after the directory the bits, then the resolutions
  pub rgb_values : take 14 (drop 162 (block_of Big (Tiles 16 16) black 512)) ≡ 0 ∷ 8 ∷ 0 ∷ 8 ∷ 0 ∷ 8 ∷ 0 ∷ 0 ∷ 0 ∷ 1 ∷ 0 ∷ 0 ∷ 0 ∷ 1 ∷ []
  pub rgb_size : length (block_of Big (Tiles 16 16) black 512) ≡ 3288
  pub rgb_sectors : ceil (block_size (outline_of Big (Tiles 16 16) black)) 512 ≡ 7
  pub rgb_last : block_size (outline_of Big (Tiles 16 16) black) - 6 * 512 ≡ 216
