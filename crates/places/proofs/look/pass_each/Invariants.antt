use Rattle.std.proofs.Common.{◌≡◌, ◌-◌, ◌<◌, ◌^◌}
use Rattle.store.specs.Looking.{Looked}
use Rattle.places.specs.Search.{passed_each}
use Rattle.places.proofs.look.pass_each.Given as goal

-- the extents from here on give what all of them give
abbrev pub invariant-loop-k : goal.invariant-loop-k
invariant-loop-k g l = record {
  place : passed_each (g.E.Extents.span_at l.list (g.S.Store.seen l.initial.store)) l.fn.block.len l.next.place l.k (g.E.Extents.many l.list - l.k)
      ≡ passed_each (g.E.Extents.span_at l.list (g.S.Store.seen l.initial.store)) l.fn.block.len l.fn.block.place 0 (g.E.Extents.many l.list);
  len : l.next.len ≡ l.fn.block.len;
  near : l.fn.block.place < 2 ^ 39 → l.next.place < 2 ^ 39;
  looked : Looked g.S.Store.seen g.S.Store.may g.S.Store.trail l.initial.store l.store;
}
