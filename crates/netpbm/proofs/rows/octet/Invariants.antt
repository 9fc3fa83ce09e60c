use Rattle.std.proofs.Common.{◌≡◌, ◌+◌, ◌*◌}
use Rattle.pnm.specs.Netpbm.{black}
use Rattle.octets.specs.Digits.{packed}
use Rattle.netpbm.specs.Asked.{Asked}
use Rattle.netpbm.proofs.rows.octet.Given as goal

abbrev pub invariant-loop-i : goal.invariant-loop-i
invariant-loop-i g l = record {
  asked : Asked g.G.Grid.picture g.G.Grid.keeps l.initial.grid l.grid;
  value : l.value ≡ packed 2 l.i (λ i. black (g.G.Grid.picture l.initial.grid) l.row (8 * l.place + i));
}
