use Rattle.std.proofs.Common.{◌<◌, ap, arith}
use Rattle.raster.specs.Picture.{Picture}
use Rattle.pnm.specs.Netpbm.{row_bytes}
use Rattle.pnm.proofs.Cursors.{wrote_none, wrote_more, room_more}
use Rattle.netpbm.specs.Asked.{asked_none, asked_then}
use Rattle.netpbm.proofs.rows.put_body.Goals as goal

pub loop-row-init : goal.loop-row-init
loop-row-init g c = record { asked = asked_none _; wrote = wrote_none _ (omega (arith, c.requires)) }

pub put_row-requires-clause-room : goal.put_row-requires-clause-room
put_row-requires-clause-room g c =
    let p = g.G.Grid.picture c.args.grid.now in
    let less : c.loop-row.row < p.height = omega (arith, c.loop-row-test.true, c.size-row-end.ensures.height) in
    let same = ap (λ (q : Picture). row_bytes q c.loop-row.row) c.loop-row.invariant.asked.kept in
    room_more (row_bytes p) p.height c.loop-row.row _ less c.requires c.loop-row.invariant.wrote same

pub loop-row-preserved : goal.loop-row-preserved
loop-row-preserved g c =
    let same = ap (λ (q : Picture). row_bytes q c.loop-row.row) c.loop-row.invariant.asked.kept in
    record {
      asked = asked_then c.loop-row.invariant.asked c.put_row.ensures.asked;
      wrote = wrote_more (row_bytes (g.G.Grid.picture c.args.grid.now)) c.loop-row.row c.loop-row.invariant.wrote same c.put_row.ensures.wrote;
    }
