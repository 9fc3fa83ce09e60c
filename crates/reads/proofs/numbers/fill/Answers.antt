use Rattle.std.proofs.Common.{◌∙◌}
use Rattle.reads.proofs.Parts.{part_read}
use Rattle.reads.proofs.numbers.fill.Goals as goal

pub returns-clause-got : goal.returns-clause-got
returns-clause-got g c =
    let r = c.read.ensures in
    r.got ∙ part_read c.read.result c.args.buffer.now (g.S.Store.seen c.args.store.now) c.args.place r.answer
