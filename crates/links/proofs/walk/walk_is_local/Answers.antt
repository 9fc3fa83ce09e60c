use Rattle.links.proofs.Local.{chain_local}
use Rattle.links.proofs.walk.walk_is_local.Goals as goal

pub returns : goal.returns
returns c = chain_local
