use Rattle.std.proofs.Common.{◌∙◌}
use Rattle.writer.proofs.Samples.{asked_sample}
use Rattle.writer.proofs.canvas.Canvas.grey_sample.Goals as goal

pub returns-then-s-self : goal.returns-then-s-self
returns-then-s-self g c = record {
  value =
      c.seen_pixel.ensures.value
      ∙ asked_sample c.args.self (g.G.Grid.picture c.args.grid.now) c.requires.shown c.args.spot (g.G.Grid.sound c.args.grid.now) c.requires.single
      c.args.s c.if-s-self.true;
  asked = c.seen_pixel.ensures.asked;
}
