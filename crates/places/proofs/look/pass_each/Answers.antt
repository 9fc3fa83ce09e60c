use Rattle.std.proofs.Common.{◌≡◌, ◌+◌, ◌-◌, ◌<◌, ◌≤◌, sym, refl, ap, ◌∙◌, subst}
use native.Mathlib.Nat.{sub-zero}
use Rattle.store.proofs.Looks.{looked_none, looked_on}
use Rattle.places.specs.Search.{passed, passed_each}
use Rattle.places.proofs.Looping.{each_turn, each_end}
use Rattle.places.proofs.look.pass_each.Goals as goal

pub loop-k-init : goal.loop-k-init
loop-k-init g c =
    let f = g.E.Extents.span_at c.args.list.now (g.S.Store.seen c.args.store.now) in
    record {
      place = ap (passed_each f c.args.block.len c.args.block.place 0) (sub-zero (g.E.Extents.many c.args.list.now));
      len = refl;
      near = λ h. h;
      looked = looked_none g.S.Store.seen g.S.Store.may g.S.Store.trail c.args.store.now;
    }

pub loop-k-preserved : goal.loop-k-preserved
loop-k-preserved g c =
    let list = c.args.list.now in
    let f = g.E.Extents.span_at list (g.S.Store.seen c.args.store.now) in
    let n = g.E.Extents.many list in
    let len = c.args.block.len in
    let i = c.loop-k.invariant in
    let next = c.loop-k.next in
    let k = c.loop-k.k in
    let h : k < n = subst (λ m. k < m) c.count-k-end.ensures c.loop-k-test.true in
    let s = c.read.ensures.value ∙ ap (λ bs. g.E.Extents.span_at list bs k) i.looked.same in
    let v : c.pass-next.result.place ≡ passed len next.place (f k) = c.pass-next.ensures.place ∙ (λ j. passed (i.len j) next.place (s j)) in
    record {
      place = ap (λ q. passed_each f len q (k + 1) (n - (k + 1))) v ∙ sym (each_turn f len next.place k n h) ∙ i.place;
      len = c.pass-next.ensures.len ∙ i.len;
      near = λ low. c.pass-next.ensures.near (i.near low);
      looked = looked_on _ _ _ _ _ _ i.looked c.read.ensures.looked;
    }

pub returns : goal.returns
returns g c =
    let list = c.args.list.now in
    let f = g.E.Extents.span_at list (g.S.Store.seen c.args.store.now) in
    let n = g.E.Extents.many list in
    let i = c.loop-k.invariant in
    let h : n ≤ c.loop-k.k = subst (λ m. m ≤ c.loop-k.k) c.count-k-end.ensures c.loop-k-test.false in
    record {
      place = sym (each_end f c.args.block.len c.loop-k.next.place c.loop-k.k n h) ∙ i.place;
      len = i.len;
      near = i.near;
      looked = i.looked;
    }
