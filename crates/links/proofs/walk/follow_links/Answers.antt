use Rattle.std.proofs.Common.{◌≡◌, ◌-◌, true, false, [], ◌∷◌, ◌++◌, length, Ok, Err, sym, ap, ◌∙◌, arith}
use Rattle.std.proofs.lemmas.Bool.Decides.{nat_tests}
use Rattle.std.proofs.lemmas.Result.{err_from_is_err_and}
use Rattle.octets.specs.Numbers.{long}
use Rattle.faults.specs.Faults.{then}
use Rattle.store.proofs.Looks.{looked_none, looked_on}
use Rattle.reads.proofs.Parts.{long_is}
use Rattle.links.specs.Links.{ended, listed, walk_from}
use Rattle.links.proofs.Following.{followed_ok, link_is, follow_tells, turns_left, turn_ends, turn_fails, walk_turns}
use Rattle.links.proofs.walk.follow_links.Goals as goal

pub loop-places-init : goal.loop-places-init
loop-places-init g c =
    let o = c.args.endian in
    let bs = g.S.Store.seen c.args.store.now in
    (ap (λ ds. walk_from (33 - length ds) o bs ds 4) c.new-places.ensures, looked_none g.S.Store.seen g.S.Store.may g.S.Store.trail c.args.store.now, omega arith, omega (arith, ap length c.new-places.ensures))

pub push-requires : goal.push-requires
push-requires g c =
    let o = c.args.endian in
    let bs = g.S.Store.seen c.args.store.now in
    let l = c.loop-places in
    let same = c.read-link.ensures.looked.same ∙ l.invariant.1.same in
    let link : c.read-link.result ≡ long o bs l.field = link_is o bs _ l.field _ l.invariant.2 l.invariant.1.same (c.read-link.ensures.value ∙ long_is o _ l.field) in
    let q = follow_tells o bs _ l.places.items l.field _ _ same link c.follow.ensures.value ∙ c.in_ok-field.was in
    (omega arith, (followed_ok o bs l.places.items l.field _ _ q).0)

pub loop-places-preserved : goal.loop-places-preserved
loop-places-preserved g c =
    let o = c.args.endian in
    let bs = g.S.Store.seen c.args.store.now in
    let l = c.loop-places in
    let met = l.places.items in
    let same = c.read-link.ensures.looked.same ∙ l.invariant.1.same in
    let link : c.read-link.result ≡ long o bs l.field = link_is o bs _ l.field _ l.invariant.2 l.invariant.1.same (c.read-link.ensures.value ∙ long_is o _ l.field) in
    let q = follow_tells o bs _ met l.field _ _ same link c.follow.ensures.value ∙ c.in_ok-field.was in
    let e : ended met (long o bs l.field) ≡ false = grind (arith, nat_tests) in
    let ok = followed_ok o bs met l.field _ _ q in
    let pushed = c.push.ensures.items ∙ ap (λ x. met ++ x ∷ []) link in (
      ap (λ ds. walk_from (33 - length ds) o bs ds c.in_ok-field.field) pushed ∙ walk_turns o bs met l.field _ l.invariant.3 e q ∙ l.invariant.0,
      looked_on _ _ _ _ _ _ l.invariant.1 (looked_on _ _ _ _ _ _ c.read-link.ensures.looked c.follow.ensures.looked),
      ok.1,
      omega (arith, ok.0, c.push.ensures.len),
    )

pub loop-places-smaller : goal.loop-places-smaller
loop-places-smaller g c = omega (arith, c.push.ensures.len, c.loop-places.invariant.3)

pub returns-then-not-is_empty : goal.returns-then-not-is_empty
returns-then-not-is_empty g c =
    let o = c.args.endian in
    let bs = g.S.Store.seen c.args.store.now in
    let l = c.loop-places in
    let met = l.places.items in
    let link : c.read-link.result ≡ long o bs l.field = link_is o bs _ l.field _ l.invariant.2 l.invariant.1.same (c.read-link.ensures.value ∙ long_is o _ l.field) in
    let e : ended met (long o bs l.field) ≡ true = grind (arith, nat_tests) in
    let d = sym (turns_left o bs met l.field (length met) l.invariant.3 ∙ turn_ends o bs met l.field (32 - length met) e) ∙ l.invariant.0 in
    record {
      value = ap Ok c.list_places.ensures ∙ ap (λ r. then r (λ ds. Ok (listed o ds))) d;
      looked = looked_on _ _ _ _ _ _ l.invariant.1 c.read-link.ensures.looked;
    }

pub returns-in_err-field : goal.returns-in_err-field
returns-in_err-field g c =
    let o = c.args.endian in
    let bs = g.S.Store.seen c.args.store.now in
    let l = c.loop-places in
    let met = l.places.items in
    let same = c.read-link.ensures.looked.same ∙ l.invariant.1.same in
    let link : c.read-link.result ≡ long o bs l.field = link_is o bs _ l.field _ l.invariant.2 l.invariant.1.same (c.read-link.ensures.value ∙ long_is o _ l.field) in
    let q = follow_tells o bs _ met l.field _ _ same link c.follow.ensures.value ∙ c.in_err-field.was in
    let e : ended met (long o bs l.field) ≡ false = grind (arith, nat_tests) in
    let f = err_from_is_err_and c.from_residual.result c.from_residual.ensures.1 in
    let d = sym (turns_left o bs met l.field (length met) l.invariant.3 ∙ turn_fails o bs met l.field (32 - length met) _ e q) ∙ l.invariant.0 in
    record {
      value = f.1 ∙ ap Err f.2 ∙ ap (λ r. then r (λ ds. Ok (listed o ds))) d;
      looked = looked_on _ _ _ _ _ _ l.invariant.1 (looked_on _ _ _ _ _ _ c.read-link.ensures.looked c.follow.ensures.looked);
    }
