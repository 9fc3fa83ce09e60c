use Rattle.std.proofs.Common.{◌+◌, ◌-◌}
use Rattle.store.specs.Looking.{Looked}
use Rattle.pages.specs.Extents.{extents}
use Rattle.places.proofs.Passing.{Tried}
use Rattle.places.proofs.search.find_place.Given as goal

-- no lower place is clear of the extents
abbrev pub invariant-loop-block : goal.invariant-loop-block
invariant-loop-block g l = record {
  tried : Tried (extents (g.S.Store.seen l.initial.store) l.fn.page.layout) l.len l.place;
  looked : Looked g.S.Store.seen g.S.Store.may g.S.Store.trail l.initial.store l.store;
}

abbrev pub decreases-loop-block : goal.decreases-loop-block
decreases-loop-block g l = l.n + 1 - l.place
