use Rattle.std.proofs.Common.{◌∙◌}
use Rattle.reads.proofs.Parts.{short_is}
use Rattle.reads.proofs.numbers.read_short.Goals as goal

pub returns-clause-value : goal.returns-clause-value
returns-clause-value g c = c.read.ensures.value ∙ short_is c.args.endian (g.S.Store.seen c.args.store.now) c.args.place
