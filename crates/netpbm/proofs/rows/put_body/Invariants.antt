use Rattle.std.specs.List.{range_with_len, flat_map}
use Rattle.pnm.specs.Cursors.{Wrote}
use Rattle.pnm.specs.Netpbm.{row_bytes}
use Rattle.netpbm.specs.Asked.{Asked}
use Rattle.netpbm.proofs.rows.put_body.Given as goal

abbrev pub invariant-loop-row : goal.invariant-loop-row
invariant-loop-row g l = record {
  asked : Asked g.G.Grid.picture g.G.Grid.keeps l.initial.grid l.grid;
  wrote : Wrote l.initial.out (flat_map (row_bytes (g.G.Grid.picture l.initial.grid)) (range_with_len 0 l.row)) l.out;
}
