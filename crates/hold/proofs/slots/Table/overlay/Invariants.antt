use Rattle.std.proofs.Common.{◌≡◌, ℕ, ◌+◌, ◌/◌, ◌%◌, ◌<◌, ◌≤◌, length, get_or}
use Rattle.hold.specs.Kept.{over}
use Rattle.hold.proofs.slots.Table.overlay.Given as goal

-- the bytes of the slots so far are laid over, and the others are as they were
abbrev pub invariant-loop-i : goal.invariant-loop-i
invariant-loop-i l =
    (k : ℕ) → k < length l.initial.buffer
    → ((l.place + k) / 512 % 8 < l.i → get_or l.buffer k 0 ≡ over l.self.slots (l.place + k) (get_or l.initial.buffer k 0))
    × (l.i ≤ (l.place + k) / 512 % 8 → get_or l.buffer k 0 ≡ get_or l.initial.buffer k 0)
