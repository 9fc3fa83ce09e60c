use Rattle.std.proofs.Common.{map}
use Rattle.std.specs.List.{range_with_len}
use Rattle.pnm.specs.Cursors.{Wrote}
use Rattle.pnm.specs.Netpbm.{octet}
use Rattle.netpbm.specs.Asked.{Asked}
use Rattle.netpbm.proofs.rows.put_octets.Given as goal

abbrev pub invariant-loop-place : goal.invariant-loop-place
invariant-loop-place g l = record {
  asked : Asked g.G.Grid.picture g.G.Grid.keeps l.initial.grid l.grid;
  wrote : Wrote l.initial.out (map (octet (g.G.Grid.picture l.initial.grid) l.row) (range_with_len 0 l.place)) l.out;
}
