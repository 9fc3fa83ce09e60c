use Rattle.std.proofs.Common.{length, ap, arith}
use Rattle.store.proofs.Lent.{length_counted}
use Rattle.store.proofs.slices.LentStore.length.Goals as goal

pub returns : goal.returns
returns g c = omega (arith, length_counted (g.B.AsSlice.items c.args.self.now.0), ap length c.as_slice.ensures)
