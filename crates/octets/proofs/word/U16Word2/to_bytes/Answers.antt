use Rattle.std.proofs.Common.{◌∙◌}
use Rattle.octets.proofs.Decoded.{little_short, big_short}
use Rattle.octets.proofs.word.U16Word2.to_bytes.Goals as goal

pub returns-in-Little-clause-bytes : goal.returns-in-Little-clause-bytes
returns-in-Little-clause-bytes c = rw c.in-Little.is (c.to_le_bytes.ensures ∙ little_short c.args.self)

pub returns-in-Big-clause-bytes : goal.returns-in-Big-clause-bytes
returns-in-Big-clause-bytes c = rw c.in-Big.is (c.to_be_bytes.ensures ∙ big_short c.args.self)
