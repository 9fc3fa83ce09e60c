use Rattle.std.proofs.Common.{◌+◌, ◌∙◌}
use Rattle.plans.specs.Outlines.{longs_size, longs_at, block_layout}
use Rattle.plans.proofs.outline.Outline.layout.Goals as goal

pub returns : goal.returns
unfolding block_layout
returns c =
    let p = c.args.place in
    let n = c.segments-n.ensures in
    let h = c.homes-homes.ensures in
    let b = c.bits_size.ensures.value in
    let offsets = c.longs_at.ensures ∙ (λ i. longs_at (n i) (p + h.offsets i) (p + (h.values i + b i))) in
    let counts = c.longs_at-2.ensures ∙ (λ i. longs_at (n i) (p + h.counts i) (p + (h.values i + b i + (c.longs_size.ensures ∙ (λ j. longs_size (n j))) i))) in
    λ i. record {
      directory = record { endian = c.args.self.endian; page = 0; place = p; entries = c.entries.ensures i };
      directories = 1;
      width = c.args.self.width;
      height = c.args.self.height;
      kind = c.args.self.kind;
      orientation = 1;
      cut = c.args.self.cut;
      offsets = offsets i;
      counts = counts i;
    }
