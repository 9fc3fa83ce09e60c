use Rattle.std.proofs.Common.{refl, arith}
use Rattle.octets.proofs.Puts.{put_one}
use Rattle.pnm.proofs.cursor.Cursor.put_byte.Goals as goal

pub returns : goal.returns
returns c = record { put = put_one c.args.self.now.buffer.now c.args.self.now.place c.args.b (omega arith); same_buffer = refl }
