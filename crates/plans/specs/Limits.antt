-- The limits of a plan. Assumes nothing.
use Rattle.std.specs.Prelude.{Bool, ◌&&◌, nat_le}
use Rattle.pages.specs.Pages.{tile_side}
use Rattle.plans.specs.declared.pieces.Pieces.{Pieces}
use Rattle.plans.specs.declared.pieces.Pieces.TheVariants.{Strips, Tiles}

-- pieces are within their limits: strips of one row or more, or tiles whose two sides a tile may have
abbrev pub limited : Pieces → Bool
limited (Strips rows) = nat_le 1 rows
limited (Tiles width length) = tile_side width && tile_side length
