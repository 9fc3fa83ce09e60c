use Rattle.std.proofs.Common.{decimal, arith}
use Rattle.std.proofs.lemmas.List.{length_push}
use Rattle.pnm.proofs.Cursors.{wrote_then, wrote_length}
use Rattle.pnm.proofs.cursor.Cursor.put_number.Goals as goal

pub put_decimal-requires : goal.put_decimal-requires
put_decimal-requires c = omega (arith, length_push (decimal c.args.n) c.args.end)

pub put_byte-requires : goal.put_byte-requires
put_byte-requires c = omega (arith, length_push (decimal c.args.n) c.args.end, wrote_length c.put_decimal.ensures)

pub returns : goal.returns
returns c = wrote_then c.put_decimal.ensures c.put_byte.ensures
