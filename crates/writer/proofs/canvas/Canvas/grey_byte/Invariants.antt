use Rattle.std.proofs.Common.{◌≡◌, ◌+◌, ◌*◌, ◌^◌}
use Rattle.octets.specs.Digits.{packed}
use Rattle.octets.specs.Rows.{per_byte}
use Rattle.plans.specs.Views.{viewed}
use Rattle.writer.specs.Spots.{padded_at}
use Rattle.writer.specs.Painting.{Asked}
use Rattle.writer.proofs.canvas.Canvas.grey_byte.Given as goal

abbrev pub invariant-loop-t : goal.invariant-loop-t
invariant-loop-t g l =
    let p = g.G.Grid.picture in
    let q = l.self.head.draft.outline in
    Asked p g.G.Grid.keeps l.initial.grid l.grid
    × (l.sum ≡ packed (2 ^ q.kind.bits) l.t (λ t. padded_at q (viewed (p l.initial.grid) l.self.view).at l.spot (l.spot.byte * per_byte q.kind.bits + t)))
