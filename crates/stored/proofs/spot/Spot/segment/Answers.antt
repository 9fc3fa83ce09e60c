use Rattle.stored.specs.Sane.{sane_parts}
use Rattle.stored.proofs.spot.Spot.segment.Goals as goal

pub segment_of-requires-clause-sane : goal.segment_of-requires-clause-sane
segment_of-requires-clause-sane c = let page = c.args.self.now.page.now in sane_parts page.layout page.limits
