use Rattle.std.proofs.Common.{◌∙◌}
use Rattle.reads.proofs.Parts.{long_is}
use Rattle.reads.proofs.numbers.read_long.Goals as goal

pub returns-clause-value : goal.returns-clause-value
returns-clause-value g c = c.read.ensures.value ∙ long_is c.args.endian (g.S.Store.seen c.args.store.now) c.args.place
