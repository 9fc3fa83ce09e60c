use Rattle.hold.proofs.Kept.{one_in_eight}
use Rattle.hold.proofs.Hold.keeps.Goals as goal

pub returns : goal.returns
returns g c = record { is = c.keeps.ensures; eight = one_in_eight _ }
