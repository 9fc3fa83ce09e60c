use Rattle.std.proofs.Common.{refl, arith}
use Rattle.octets.proofs.Patches.{overwritten}
use Rattle.hold.proofs.slots.Sector.patch.Goals as goal

pub returns : goal.returns
returns c = record { len = omega arith; tag = refl; bytes = overwritten c.args.self.now.bytes c.args.bytes.now _ c.args.offset c.copy_from_slice.ensures.after }
