use Rattle.raster.proofs.Frames.{unchanged}
use Rattle.raster.proofs.crop.Crop.new.Goals as goal

pub returns-clause-unchanged : goal.returns-clause-unchanged
returns-clause-unchanged g c = unchanged
