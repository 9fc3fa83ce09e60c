use Rattle.links.proofs.Found.{chain_found}
use Rattle.links.proofs.walk.walk_finds_the_chain.Goals as goal

pub returns : goal.returns
returns c = chain_found
