use Rattle.stored.proofs.Local.{stored_local, picture_local}
use Rattle.stored.proofs.laws.pixels_are_local.Goals as goal

pub returns : goal.returns
returns c = λ bs cs l has long agree. (stored_local bs cs l has long agree, picture_local bs cs l has long agree)
