use Rattle.std.proofs.Common.{Err, sym, ap, ◌∙◌}
use Rattle.std.proofs.lemmas.Result.{err_from_is_err_and}
use Rattle.store.proofs.Looks.{looked_none, looked_on}
use Rattle.links.proofs.Chaining.{then_err, then_ok}
use Rattle.opening.proofs.Filling.{fill_start, fill_turn, fill_end}
use Rattle.opening.proofs.page.check_segments.Goals as goal

pub loop-k-init : goal.loop-k-init
loop-k-init g c = (
  fill_start (g.S.Store.seen c.args.store.now) c.args.layout _ c.requires.tally,
  looked_none g.S.Store.seen g.S.Store.may g.S.Store.trail c.args.store.now,
)

pub returns-in_err-check_segment : goal.returns-in_err-check_segment
returns-in_err-check_segment g c =
    let t = fill_turn (g.S.Store.seen c.args.store.now) _ c.args.layout c.args.layout.offsets.count c.loop-k.k _ c.loop-k-test.true c.loop-k.invariant.1.same c.check_segment.ensures.value in
    let p = err_from_is_err_and c.from_residual.result c.from_residual.ensures.1 in
    record {
      value = p.1 ∙ ap Err p.2 ∙ sym (t ∙ then_err _ _ _ c.in_err-check_segment.was) ∙ c.loop-k.invariant.0;
      looked = looked_on _ _ _ _ _ _ c.loop-k.invariant.1 c.check_segment.ensures.looked;
    }

pub loop-k-preserved : goal.loop-k-preserved
loop-k-preserved g c =
    let t = fill_turn (g.S.Store.seen c.args.store.now) _ c.args.layout c.args.layout.offsets.count c.loop-k.k _ c.loop-k-test.true c.loop-k.invariant.1.same c.check_segment.ensures.value in
    (sym (t ∙ then_ok _ _ _ c.in_ok-check_segment.was) ∙ c.loop-k.invariant.0, looked_on _ _ _ _ _ _ c.loop-k.invariant.1 c.check_segment.ensures.looked)

pub returns : goal.returns
returns g c = record {
  value = sym (fill_end (g.S.Store.seen c.args.store.now) c.args.layout c.args.layout.offsets.count c.loop-k.k c.loop-k-test.false) ∙ c.loop-k.invariant.0;
  looked = c.loop-k.invariant.1;
}
