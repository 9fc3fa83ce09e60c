use Rattle.std.proofs.Common.{ap, ◌∙◌}
use Rattle.octets.specs.Rows.{byte}
use Rattle.reads.proofs.Parts.{byte_part}
use Rattle.reads.proofs.numbers.read_byte.Goals as goal

pub returns-clause-value : goal.returns-clause-value
returns-clause-value g c = ap (λ xs. byte xs 0) c.read_array.ensures.bytes ∙ byte_part (g.S.Store.seen c.args.store.now) c.args.place
