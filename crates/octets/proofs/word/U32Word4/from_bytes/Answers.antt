use Rattle.std.proofs.Common.{◌∙◌}
use Rattle.octets.proofs.Decoded.{from_little_long, from_big_long}
use Rattle.octets.proofs.word.U32Word4.from_bytes.Goals as goal

pub returns-in-Little : goal.returns-in-Little
returns-in-Little c = rw c.in-Little.is (c.from_le_bytes.ensures ∙ from_little_long c.args.bytes)

pub returns-in-Big : goal.returns-in-Big
returns-in-Big c = rw c.in-Big.is (c.from_be_bytes.ensures ∙ from_big_long c.args.bytes)
