use Rattle.std.proofs.Common.{ap, ◌∙◌}
use Rattle.octets.specs.Digits.{number}
use Rattle.octets.specs.Rows.{byte}
use Rattle.reads.proofs.Parts.{word_part}
use Rattle.reads.proofs.numbers.read.Goals as goal

pub returns-clause-value : goal.returns-clause-value
returns-clause-value g c =
    c.from_bytes.ensures ∙ ap (λ xs. number c.args.endian g.row.N (byte xs)) c.read_array.ensures.bytes
    ∙ word_part c.args.endian (g.S.Store.seen c.args.store.now) c.args.place g.row.N
