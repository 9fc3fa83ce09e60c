use Rattle.stored.proofs.Local.{pages_whole}
use Rattle.stored.proofs.laws.accepted_pages_are_whole.Goals as goal

pub returns : goal.returns
returns c = pages_whole
