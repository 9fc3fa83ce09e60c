use Rattle.std.proofs.Common.{arith}
use Rattle.holder.proofs.cards.sectors_of.Goals as goal

pub returns : goal.returns
returns c = omega (arith, c.div_ceil.ensures)
