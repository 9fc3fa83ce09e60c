use Rattle.std.proofs.Common.{◌≡◌, ◌-◌}
use Rattle.store.specs.Looking.{Looked}
use Rattle.pages.specs.Segments.{filled}
use Rattle.opening.proofs.Filling.{filled_from}
use Rattle.opening.proofs.page.check_segments.Given as goal

-- the segments from here on give what all of them give
abbrev pub invariant-loop-k : goal.invariant-loop-k
invariant-loop-k g l =
    (filled_from (g.S.Store.seen l.initial.store) l.layout (l.layout.offsets.count - l.k) l.k ≡ filled (g.S.Store.seen l.initial.store) l.layout)
    × Looked g.S.Store.seen g.S.Store.may g.S.Store.trail l.initial.store l.store
