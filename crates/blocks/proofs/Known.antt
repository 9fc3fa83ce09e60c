-- The known sheets, and what holds of every block.
use Rattle.std.proofs.Common.{◌-◌, ◌*◌, min, refl}
use Rattle.octets.specs.Digits.{packed, digit, byte_of}
use Rattle.octets.specs.Rows.{packed_row}
use Rattle.pages.specs.Geometry.{segments}
use Rattle.plans.specs.Outlines.{block_size}
use Rattle.plans.specs.Directories.{entries_bytes, directory_bytes}
use Rattle.plans.specs.Blocks.{segment, block}
use Rattle.plans.proofs.Outlines.{block_bounded}
use Rattle.blocks.specs.Known.{grey_block, KnownSheets}
use Rattle.blocks.specs.Laws.{BlocksKnown}
use Rattle.blocks.proofs.Bytes.{bytes_block}
use Rattle.blocks.proofs.Places.{length_block, block_byte_lem, sector_bytes}

pub known_sheets : KnownSheets
unfolding grey_block block block_size directory_bytes entries_bytes segment segments packed_row packed digit byte_of
known_sheets = record {
  ten_bilevel = refl;
  row_padded = refl;
  halves = refl;
  short_big = refl;
  short_little = refl;
  header_little = refl;
  header_big = refl;
  grey_block_lem = refl;
  grey_size = refl;
  grey_start = refl;
  rows_cut = refl;
  dot_strip = refl;
  tile_right = refl;
  tile_below = refl;
  short_strip = refl;
  rgb_values = refl;
  rgb_size = refl;
  rgb_sectors = refl;
  rgb_last = refl;
}

pub blocks_known : BlocksKnown
blocks_known = record {
  every = λ q at place proper. record {
    size = length_block q at proper place;
    bytes = bytes_block q at proper place;
    each = block_byte_lem q at proper place;
    sectors = λ s within. sector_bytes q at proper place s (min 512 (block_size q - 512 * s)) within refl;
  };
  most = block_bounded;
}
