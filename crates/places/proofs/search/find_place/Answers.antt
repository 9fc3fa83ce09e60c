use Rattle.std.proofs.Common.{◌≡◌, ◌+◌, ◌<◌, ◌≤◌, length, sym, ◌∙◌, subst, arith}
use Rattle.store.proofs.Looks.{looked_none, looked_on}
use Rattle.pages.specs.Extents.{extents}
use Rattle.stored.specs.Sane.{Sane, sane_parts}
use Rattle.places.specs.Search.{passed_all}
use Rattle.places.specs.Lowest.{Placed}
use Rattle.places.proofs.Finding.{place_placed}
use Rattle.places.proofs.Passing.{Tried, all_grows}
use Rattle.places.proofs.Ending.{tried_none, tried_more, ends_at, ends_none}
use Rattle.places.proofs.search.find_place.Goals as goal

pub loop-block-init : goal.loop-block-init
loop-block-init g c =
    let all = extents (g.S.Store.seen c.args.store.now) c.args.page.layout in
    record {
      tried = subst (Tried all c.args.len) (sym c.first_place-place.ensures) (tried_none all c.args.len);
      looked = looked_none g.S.Store.seen g.S.Store.may g.S.Store.trail c.args.store.now;
    }

pub pass_extents-next-requires : goal.pass_extents-next-requires
pass_extents-next-requires g c = subst Sane (sym c.layout-layout.ensures) (sane_parts c.args.page.layout c.args.page.limits)

pub returns-then-next-place : goal.returns-then-next-place
returns-then-next-place g c =
    let bs = g.S.Store.seen c.args.store.now in
    let l = c.args.page.layout in
    let len = c.args.len in
    let place = c.loop-block.place in
    let i = c.loop-block.invariant in
    let b = c.in-Some.ensures.some in
    let r = c.pass_extents-next.ensures in
    let v : c.pass_extents-next.result.place ≡ passed_all len place (extents bs l) = r.place ∙ (λ j. passed_all (b.1 j) (b.0 j) (extents (i.looked.same j) (c.layout-layout.ensures j))) in
    let e = sym v ∙ c.if-next-place.true in
    let k : place + len ≤ length bs = subst (λ m. place + len ≤ m) c.length-n.ensures b.2 in
    let found = ends_at bs l len place i.tried e k in
    record {
      value = found;
      lowest = subst (Placed bs l len) (sym found) (place_placed bs l len);
      looked = looked_on _ _ _ _ _ _ i.looked r.looked;
    }

pub loop-block-smaller : goal.loop-block-smaller
loop-block-smaller g c =
    let b = c.in-Some.ensures.some in
    let grown : c.in-Some.block.place ≤ c.pass_extents-next.result.place =
    subst (λ q. c.in-Some.block.place ≤ q) (sym c.pass_extents-next.ensures.place) (all_grows c.in-Some.block.len c.in-Some.block.place (extents (g.S.Store.seen c.loop-block.store) c.layout-layout.result)) in
    omega (arith, b.0, b.2, grown, c.if-next-place.false)

pub loop-block-preserved : goal.loop-block-preserved
loop-block-preserved g c =
    let bs = g.S.Store.seen c.args.store.now in
    let l = c.args.page.layout in
    let i = c.loop-block.invariant in
    let b = c.in-Some.ensures.some in
    let r = c.pass_extents-next.ensures in
    let v = r.place ∙ (λ j. passed_all (b.1 j) (b.0 j) (extents (i.looked.same j) (c.layout-layout.ensures j))) in
    record {
      tried = tried_more (extents bs l) c.args.len c.loop-block.place c.pass_extents-next.result.place v i.tried;
      looked = looked_on _ _ _ _ _ _ i.looked r.looked;
    }

pub returns : goal.returns
returns g c =
    let bs = g.S.Store.seen c.args.store.now in
    let l = c.args.page.layout in
    let len = c.args.len in
    let place = c.loop-block.place in
    let i = c.loop-block.invariant in
    let k : length bs < place + len = subst (λ m. m < place + len) c.length-n.ensures c.in_default.ensures.none in
    let v = ends_none bs l len place i.tried k in
    record {
      value = v;
      lowest = subst (Placed bs l len) (sym v) (place_placed bs l len);
      looked = i.looked;
    }
