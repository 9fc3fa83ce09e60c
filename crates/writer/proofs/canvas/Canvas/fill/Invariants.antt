use Rattle.std.proofs.Common.{◌≡◌, ◌+◌, ◌-◌, take}
use Rattle.octets.specs.Rows.{tabulate}
use Rattle.plans.specs.Outlines.{head_size}
use Rattle.plans.specs.Views.{viewed}
use Rattle.plans.specs.Blocks.{block_byte}
use Rattle.writer.specs.Painting.{Known, Asked}
use Rattle.writer.proofs.canvas.Canvas.fill.Given as goal

abbrev pub invariant-loop-t : goal.invariant-loop-t
invariant-loop-t g l =
    let p = g.G.Grid.picture in
    let q = l.self.head.draft.outline in
    let at = (viewed (p l.initial.grid) l.self.view).at in
    record {
      asked : Asked p g.G.Grid.keeps l.initial.grid l.grid;
      known : Known q at l.last (l.first + l.t - head_size q);
      filled : take l.t l.buffer ≡ tabulate l.t (λ i. block_byte q at l.self.head.place (l.first + i));
    }
