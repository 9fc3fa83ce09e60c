use Rattle.std.proofs.Common.{◌∙◌}
use Rattle.octets.proofs.Decoded.{little_long, big_long}
use Rattle.octets.proofs.word.U32Word4.to_bytes.Goals as goal

pub returns-in-Little-clause-bytes : goal.returns-in-Little-clause-bytes
returns-in-Little-clause-bytes c = rw c.in-Little.is (c.to_le_bytes.ensures ∙ little_long c.args.self)

pub returns-in-Big-clause-bytes : goal.returns-in-Big-clause-bytes
returns-in-Big-clause-bytes c = rw c.in-Big.is (c.to_be_bytes.ensures ∙ big_long c.args.self)
