use Rattle.std.proofs.Common.{◌/◌, ◌%◌, sym, ap, ◌∙◌, subst, mod-lt, arith}
use Rattle.octets.specs.Digits.{digit}
use Rattle.plans.specs.Views.{viewed}
use Rattle.plans.proofs.Outlines.{row_positive}
use Rattle.writer.specs.declared.spots.Spot.{Spot}
use Rattle.writer.specs.Spots.{spot_of, pixel_at, byte_at}
use Rattle.writer.specs.Painting.{Shared}
use Rattle.writer.proofs.Samples.{three_samples, rgb_byte, rgb_row, channel_digit}
use Rattle.writer.proofs.Colours.{known_shared, known_next}
use Rattle.writer.proofs.canvas.Canvas.paint.Goals as goal

pub colour-pixel-requires : goal.colour-pixel-requires
colour-pixel-requires g c =
    let q = c.args.self.head.draft.outline in
    let at = (viewed (g.G.Grid.picture c.args.grid.now) c.args.self.view).at in
    record {
      shown = c.requires.shown;
      column = c.locate-spot.ensures.column;
      byte = c.locate-spot.ensures.byte;
      shared = subst (λ (s : Spot). Shared q at c.args.last.now s) (sym c.locate-spot.ensures.value) (known_shared q at c.args.self.head.draft.proper c.args.last.now c.args.j c.requires.known);
    }

pub returns-then-samples_of-eq1 : goal.returns-then-samples_of-eq1
returns-then-samples_of-eq1 g c =
    let q = c.args.self.head.draft.outline in
    let at = (viewed (g.G.Grid.picture c.args.grid.now) c.args.self.view).at in
    record {
      byte = c.grey_byte.ensures.value ∙ ap (byte_at q at) c.locate-spot.ensures.value;
      known = tt;
      asked = c.grey_byte.ensures.asked;
    }

pub returns-else-samples_of-eq1 : goal.returns-else-samples_of-eq1
returns-else-samples_of-eq1 g c =
    let q = c.args.self.head.draft.outline in
    let at = (viewed (g.G.Grid.picture c.args.grid.now) c.args.self.view).at in
    let j = c.args.j in
    let spot = c.locate-spot.result in
    let value = c.locate-spot.ensures.value in
    let n = spot.byte % 3 in
    let kinds = three_samples q.kind c.args.self.head.draft.proper.kind (λ e. c.if-samples_of-eq1.false (c.samples_of.ensures ∙ e)) in
    let row = rgb_row q.cut.wide (spot_of q j).byte _ _ kinds.1 kinds.0 (mod-lt _ (row_positive q c.args.self.head.draft.proper)) in
    let pixel = c.colour-pixel.ensures.value ∙ ap (λ (s : Spot). pixel_at q at s (s.byte / 3)) value in
    record {
      byte =
          channel_digit c.colour-pixel.result n c.channel.result (mod-lt spot.byte (omega arith)) c.channel.ensures.red c.channel.ensures.green c.channel.ensures.blue
          ∙ ap (λ v. digit 256 3 v n) pixel
          ∙ ap (λ (s : Spot). digit 256 3 (pixel_at q at (spot_of q j) ((spot_of q j).byte / 3)) (s.byte % 3)) value
          ∙ sym (rgb_byte q at (spot_of q j) kinds.0 kinds.1 row);
      known = known_next q at c.colour-pixel.result j pixel;
      asked = c.colour-pixel.ensures.asked;
    }
