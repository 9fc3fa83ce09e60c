use Rattle.raster.proofs.Places.{eight}
use Rattle.raster.proofs.turn.Turn.new.Goals as goal

pub returns-clause-eight : goal.returns-clause-eight
returns-clause-eight g c = eight
