use Rattle.std.proofs.Common.{take}
use Rattle.drafts.specs.Mem.{mem_of}
use Rattle.law.proofs.Runs.{HeldTo}
use Rattle.holder.specs.Worlds.{world_of}
use Rattle.holder.specs.Lines.{lines_of}
use Rattle.holder.proofs.Lines.{Replayed}
use Rattle.holder.proofs.replay.replay.Given as goal

abbrev pub invariant-loop-line : goal.invariant-loop-line
invariant-loop-line g l =
    Replayed l.line-index l.initial.lines l.lines
    × HeldTo (mem_of g.C.Store l.initial.holder.store) (lines_of (take l.line-index l.initial.lines) (take l.line-index l.lines))
    (world_of g.C.Store l.holder)
