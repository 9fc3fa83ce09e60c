use Rattle.std.proofs.Common.{sym, ◌∙◌, arith}
use Rattle.std.proofs.lemmas.Bool.{leb-true, leb-false}
use Rattle.octets.proofs.Patches.{overwritten}
use Rattle.store.proofs.Lent.{length_counted}
use Rattle.store.proofs.slices.write_bytes.Goals as goal

pub returns-then-not-within-clause-answer : goal.returns-then-not-within-clause-answer
returns-then-not-within-clause-answer c =
    let n = length_counted c.args.target.now in
    let h = leb-false _ _ (sym c.within.ensures ∙ c.if-not-within.true) in
    (omega arith, c.fault.ensures)

pub returns-clause-answer : goal.returns-clause-answer
returns-clause-answer c =
    let n = length_counted c.args.target.now in
    let h = leb-true _ _ (sym c.within.ensures ∙ c.if-not-within.false) in
    omega arith

pub returns-clause-put : goal.returns-clause-put
returns-clause-put c = overwritten c.args.target.now c.args.bytes.now _ c.args.place c.copy_from_slice.ensures.after
