use Rattle.std.proofs.Common.{◌-◌, length}
use Rattle.hold.proofs.Kept.{Progress}
use Rattle.hold.proofs.HoldCard.write.Given as goal

abbrev pub invariant-loop-done : goal.invariant-loop-done
invariant-loop-done g l = Progress g.C.Store l.initial.self l.self l.place l.done l.bytes

abbrev pub decreases-loop-done : goal.decreases-loop-done
decreases-loop-done g l = length l.bytes - l.done
