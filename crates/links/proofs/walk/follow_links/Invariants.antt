use Rattle.std.proofs.Common.{◌≡◌, ◌+◌, ◌-◌, ◌≤◌, length}
use Rattle.store.specs.Looking.{Looked}
use Rattle.links.specs.Links.{walk_from, chained}
use Rattle.links.proofs.walk.follow_links.Given as goal

-- the walk from here gives what the whole walk gives
abbrev pub invariant-loop-places : goal.invariant-loop-places
invariant-loop-places g l =
    (walk_from (33 - length l.places.items) l.endian (g.S.Store.seen l.initial.store) l.places.items l.field ≡ chained l.endian (g.S.Store.seen l.initial.store))
    × Looked g.S.Store.seen g.S.Store.may g.S.Store.trail l.initial.store l.store
    × (l.field + 4 ≤ length (g.S.Store.seen l.initial.store))
    × (length l.places.items ≤ 32)

abbrev pub decreases-loop-places : goal.decreases-loop-places
decreases-loop-places g l = 33 - length l.places.items
