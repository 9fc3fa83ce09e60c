use Rattle.blocks.proofs.Known.{blocks_known}
use Rattle.blocks.proofs.blocks_are_known.Goals as goal

pub returns : goal.returns
returns c = blocks_known
