use Rattle.std.specs.List.{range_with_len, flat_map}
use Rattle.pnm.specs.Cursors.{Wrote}
use Rattle.pnm.specs.Netpbm.{pixel_bytes}
use Rattle.netpbm.specs.Asked.{Asked}
use Rattle.netpbm.proofs.rows.put_pixels.Given as goal

abbrev pub invariant-loop-column : goal.invariant-loop-column
invariant-loop-column g l =
    let p = g.G.Grid.picture l.initial.grid in
    record {
      asked : Asked g.G.Grid.picture g.G.Grid.keeps l.initial.grid l.grid;
      wrote : Wrote l.initial.out (flat_map (λ x. pixel_bytes p.kind (p.at x l.row)) (range_with_len 0 l.column)) l.out;
    }
