use Rattle.std.proofs.Common.{refl}
use Rattle.hold.proofs.Kept.{kept_none}
use Rattle.hold.proofs.slots.Table.new.Goals as goal

pub returns : goal.returns
returns c = kept_none _ (refl, (refl, (refl, (refl, (refl, (refl, (refl, (refl, tt))))))))
