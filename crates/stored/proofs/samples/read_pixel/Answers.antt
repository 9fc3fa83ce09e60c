use Rattle.std.proofs.Common.{◌^◌, ◌<◌, ◌≤◌, ◌%◌, length, sym, arith}
use Rattle.octets.specs.Rows.{per_byte}
use Rattle.stored.proofs.Pixel.{pixel_past}
use Rattle.stored.proofs.samples.read_pixel.Goals as goal

pub returns-in_default-try_from-clause-value : goal.returns-in_default-try_from-clause-value
returns-in_default-try_from-clause-value g c = λ bits.
    let store = c.args.store.now in
    let bs = g.S.Store.seen store in
    let n : length bs < 2 ^ 31 = g.S.Store.laws.short store in
    let h : length bs ≤ c.args.place = omega (arith, n, c.in_default-try_from.ensures) in
    sym (pixel_past bs c.args.kind.photometric c.args.kind.bits c.args.place (c.args.s % per_byte c.args.kind.bits) h)
