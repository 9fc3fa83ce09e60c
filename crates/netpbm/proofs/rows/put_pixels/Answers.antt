use Rattle.std.proofs.Common.{ℕ, ◌<◌, List, ap, ◌∙◌, ap₂, arith}
use Rattle.raster.specs.Picture.{Picture}
use Rattle.pnm.specs.Netpbm.{pixel_bytes}
use Rattle.pnm.proofs.Cursors.{wrote_none, wrote_more, room_more}
use Rattle.netpbm.specs.Asked.{asked_none, asked_then}
use Rattle.netpbm.proofs.rows.put_pixels.Goals as goal

-- the bytes of column x
abbrev bytes : Picture → ℕ → ℕ → List ℕ
bytes p y x = pixel_bytes p.kind (p.at x y)

pub loop-column-init : goal.loop-column-init
loop-column-init g c = record { asked = asked_none _; wrote = wrote_none _ (omega (arith, c.requires.room)) }

pub put_pixel-requires-clause-room : goal.put_pixel-requires-clause-room
put_pixel-requires-clause-room g c =
    let p = g.G.Grid.picture c.args.grid.now in
    let less : c.loop-column.column < p.width = omega (arith, c.loop-column-test.true, c.size-column-end.ensures.width) in
    let value = c.sample-v.ensures.value ∙ ap (λ (q : Picture). q.at c.loop-column.column c.args.row) c.loop-column.invariant.asked.kept in
    room_more (bytes p c.args.row) p.width c.loop-column.column _ less c.requires.room c.loop-column.invariant.wrote
    (ap₂ pixel_bytes c.format_of-format.ensures value)

pub loop-column-preserved : goal.loop-column-preserved
loop-column-preserved g c =
    let p = g.G.Grid.picture c.args.grid.now in
    let value = c.sample-v.ensures.value ∙ ap (λ (q : Picture). q.at c.loop-column.column c.args.row) c.loop-column.invariant.asked.kept in
    record {
      asked = asked_then c.loop-column.invariant.asked c.sample-v.ensures.asked;
      wrote = wrote_more (bytes p c.args.row) c.loop-column.column c.loop-column.invariant.wrote
          (ap₂ pixel_bytes c.format_of-format.ensures value) c.put_pixel.ensures;
    }
