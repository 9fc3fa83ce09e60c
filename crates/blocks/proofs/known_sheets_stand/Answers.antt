use Rattle.blocks.proofs.Known.{known_sheets}
use Rattle.blocks.proofs.known_sheets_stand.Goals as goal

pub returns : goal.returns
returns c = known_sheets
