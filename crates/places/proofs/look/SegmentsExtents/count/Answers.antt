use Rattle.std.proofs.Common.{◌^◌, ◌<◌, arith}
use Rattle.pages.specs.Geometry.{segments_of}
use Rattle.stored.specs.Sane.{sane_parts}
use Rattle.places.proofs.Limits.{segments_few}
use Rattle.places.proofs.look.SegmentsExtents.count.Goals as goal

pub overflow_cast-result : goal.overflow_cast-result
overflow_cast-result c =
    let s = c.args.self.now in
    let h : segments_of s.layout < 2 ^ 32 = segments_few s.layout (sane_parts s.layout s.limits) in
    omega (arith, h, c.segments.ensures)
