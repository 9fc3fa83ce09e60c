use Rattle.std.proofs.Common.{arith}
use Rattle.stored.specs.Sane.{sane_parts}
use Rattle.places.proofs.Limits.{needed_whole}
use Rattle.places.proofs.look.SegmentsExtents.read.Goals as goal

pub invariant_of-result : goal.invariant_of-result
invariant_of-result g c =
    let s = c.args.self.now in
    let h = needed_whole s.layout c.args.k c.needed.result (sane_parts s.layout s.limits) c.needed.ensures in
    record { near = omega (arith, h.1, c.read_number-offset.type_inv) }
