use Rattle.std.proofs.Common.{rules}
use Rattle.hold.specs.Kept.{kept, slot_of}
use Rattle.hold.proofs.Kept.{tagged_by}
use Rattle.hold.proofs.slots.Table.keeps.Goals as goal

pub returns : goal.returns
unfolding kept slot_of
returns c = tagged_by _ c.args.sector _ (search rules)
