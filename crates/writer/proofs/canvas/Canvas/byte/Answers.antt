use Rattle.std.proofs.Common.{◌≡◌, ◌+◌, ◌-◌, ◌/◌, ◌<◌, ◌≤◌, sym, ap, ◌∙◌, subst, arith}
use Rattle.plans.specs.Outlines.{segment_size, head_size}
use Rattle.plans.specs.Views.{viewed}
use Rattle.plans.specs.Blocks.{segments_byte}
use Rattle.writer.specs.Painting.{Known}
use Rattle.writer.proofs.Drafted.{byte_of_head, byte_of_segments, segment_few}
use Rattle.writer.proofs.Asking.{asked_none}
use Rattle.writer.proofs.canvas.Canvas.byte.Goals as goal

pub paint-requires : goal.paint-requires
paint-requires g c =
    let q = c.args.self.head.draft.outline in
    let at = (viewed (g.G.Grid.picture c.args.grid.now) c.args.self.view).at in
    let e = c.head_size-head.ensures in
    let l : head_size c.args.self.head.draft.outline ≤ c.args.i = omega (arith, c.if-i-head.false, e) in
    record {
      shown = c.requires.shown;
      segment = subst (λ h. (c.args.i - h) / segment_size q 0 < 1024) (sym e) (segment_few q c.args.self.head.draft.proper c.args.self.head.draft.few c.args.i l c.requires.within);
      known = subst (λ h. Known q at c.args.last.now (c.args.i - h)) (sym e) c.requires.known;
    }

pub returns-then-i-head : goal.returns-then-i-head
returns-then-i-head g c =
    let q = c.args.self.head.draft.outline in
    let at = (viewed (g.G.Grid.picture c.args.grid.now) c.args.self.view).at in
    record {
      byte = c.byte.ensures ∙ byte_of_head q at c.args.self.head.place c.args.i (omega (arith, c.if-i-head.true, c.head_size-head.ensures));
      known = tt;
      asked = asked_none g.G.Grid.picture g.G.Grid.keeps _;
    }

pub returns-else-i-head : goal.returns-else-i-head
returns-else-i-head g c =
    let q = c.args.self.head.draft.outline in
    let at = (viewed (g.G.Grid.picture c.args.grid.now) c.args.self.view).at in
    let e = c.head_size-head.ensures in
    let l : head_size c.args.self.head.draft.outline ≤ c.args.i = omega (arith, c.if-i-head.false, e) in
    let next : c.args.i - c.head_size-head.result + 1 ≡ c.args.i + 1 - head_size c.args.self.head.draft.outline = omega (arith, e, l) in
    record {
      byte = c.paint.ensures.byte ∙ ap (λ h. segments_byte q at (c.args.i - h)) e ∙ byte_of_segments q at c.args.self.head.place c.args.i l;
      known = subst (λ m. Known q at c.paint.new.last m) next c.paint.ensures.known;
      asked = c.paint.ensures.asked;
    }
