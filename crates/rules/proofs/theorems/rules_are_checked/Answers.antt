use Rattle.rules.proofs.Meeting.{accepted_exactly}
use Rattle.rules.proofs.theorems.rules_are_checked.Goals as goal

pub returns : goal.returns
returns c = accepted_exactly
