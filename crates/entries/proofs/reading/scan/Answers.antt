use Rattle.std.proofs.Common.{◌+◌, ◌-◌, ◌*◌, ◌≤◌, length, Err, sym, ap, ◌∙◌, subst, arith}
use Rattle.std.proofs.lemmas.Result.{err_from_is_err_and}
use Rattle.store.proofs.Looks.{looked_none, looked_on}
use Rattle.entries.specs.Entries.{accepted, entries_from}
use Rattle.links.proofs.Chaining.{then_err, then_ok}
use Rattle.entries.proofs.Scanning.{collected, collect_start, collect_turn, collect_end}
use Rattle.entries.proofs.reading.scan.Goals as goal

pub loop-i-init : goal.loop-i-init
loop-i-init g c =
    let bs = g.S.Store.seen c.args.store.now in
    let d = c.args.directory in (
      ap (λ f. collected (length bs) d.page 0 f (entries_from (d.entries - 0) d.endian bs (d.place + 2 + 12 * 0))) c.none-fields.ensures ∙ collect_start bs d,
      looked_none g.S.Store.seen g.S.Store.may g.S.Store.trail c.args.store.now,
    )

pub read_entry-entry-requires : goal.read_entry-entry-requires
read_entry-entry-requires g c =
    let d = c.args.directory in
    let p = d.place + 2 + 12 * c.loop-i.i + 12 in
    let h : p ≤ length (g.S.Store.seen c.args.store.now) = omega (arith, c.requires.inside, c.loop-i-test.true) in
    record { within = subst (λ xs. p ≤ length xs) (sym c.loop-i.invariant.1.same) h }

pub returns-in_err-least : goal.returns-in_err-least
returns-in_err-least g c =
    let d = c.args.directory in
    let bs = g.S.Store.seen c.args.store.now in
    let q = c.accept.ensures ∙ ap (λ m. accepted m d.page c.loop-i.least c.read_entry-entry.result) c.length-n.ensures in
    let t = collect_turn d.endian bs _ d.entries c.loop-i.i (d.place + 2) c.loop-i-test.true c.loop-i.invariant.1.same _ c.read_entry-entry.ensures.value (length bs) d.page c.loop-i.least c.loop-i.fields _ q in
    let p = err_from_is_err_and c.from_residual.result c.from_residual.ensures.1 in
    record {
      value = p.1 ∙ ap Err p.2 ∙ sym (t ∙ then_err _ _ _ c.in_err-least.was) ∙ c.loop-i.invariant.0;
      looked = looked_on _ _ _ _ _ _ c.loop-i.invariant.1 c.read_entry-entry.ensures.looked;
    }

pub loop-i-preserved : goal.loop-i-preserved
loop-i-preserved g c =
    let d = c.args.directory in
    let bs = g.S.Store.seen c.args.store.now in
    let q = c.accept.ensures ∙ ap (λ m. accepted m d.page c.loop-i.least c.read_entry-entry.result) c.length-n.ensures in
    let t = collect_turn d.endian bs _ d.entries c.loop-i.i (d.place + 2) c.loop-i-test.true c.loop-i.invariant.1.same _ c.read_entry-entry.ensures.value (length bs) d.page c.loop-i.least c.loop-i.fields _ q in
    let rest = entries_from (d.entries - (c.loop-i.i + 1)) d.endian bs (d.place + 2 + 12 * (c.loop-i.i + 1)) in (
      ap (λ f. collected (length bs) d.page c.in_ok-least.least f rest) c.with-fields.ensures ∙ sym (t ∙ then_ok _ _ _ c.in_ok-least.was) ∙ c.loop-i.invariant.0,
      looked_on _ _ _ _ _ _ c.loop-i.invariant.1 c.read_entry-entry.ensures.looked,
    )

pub returns : goal.returns
returns g c =
    let d = c.args.directory in
    let bs = g.S.Store.seen c.args.store.now in
    record {
      value = sym (collect_end bs d.endian (length bs) d.page c.loop-i.least d.entries c.loop-i.i _ c.loop-i.fields c.loop-i-test.false) ∙ c.loop-i.invariant.0;
      looked = c.loop-i.invariant.1;
    }
