use Rattle.std.proofs.Common.{◌≡◌, ℕ, ◌%◌, ◌<◌, false}
use Rattle.hold.specs.Kept.{kept}
use Rattle.hold.specs.Changes.{Quiet}
use Rattle.hold.proofs.HoldStore.settle.Given as goal

-- what is seen is as it was, and the slots so far are free
abbrev pub invariant-loop-i : goal.invariant-loop-i
invariant-loop-i g l = Quiet g.C.Store l.initial.self l.self × ((s : ℕ) → s % 8 < l.i → kept l.self.table.slots s ≡ false)
