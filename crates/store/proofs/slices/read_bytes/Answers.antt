use Rattle.std.proofs.Common.{sym, ◌∙◌, arith}
use Rattle.std.proofs.lemmas.Bool.{leb-true, leb-false}
use Rattle.store.proofs.Lent.{length_counted, counted_part}
use Rattle.store.proofs.slices.read_bytes.Goals as goal

pub returns-then-not-within-clause-answer : goal.returns-then-not-within-clause-answer
returns-then-not-within-clause-answer c =
    let n = length_counted c.args.bytes.now in
    let h = leb-false _ _ (sym c.within.ensures ∙ c.if-not-within.true) in
    (omega arith, c.fault.ensures)

pub returns-clause-answer : goal.returns-clause-answer
returns-clause-answer c =
    let n = length_counted c.args.bytes.now in
    let h = leb-true _ _ (sym c.within.ensures ∙ c.if-not-within.false) in
    omega arith

pub returns-clause-got : goal.returns-clause-got
returns-clause-got c =
    let n = length_counted c.args.bytes.now in
    let h = leb-true _ _ (sym c.within.ensures ∙ c.if-not-within.false) in
    c.copy_from_slice.ensures.after ∙ counted_part c.args.bytes.now c.args.place _ (omega arith)
