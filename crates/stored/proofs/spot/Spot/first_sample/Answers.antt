use Rattle.stored.specs.Sane.{sane_parts}
use Rattle.stored.proofs.spot.Spot.first_sample.Goals as goal

pub first_sample-requires : goal.first_sample-requires
first_sample-requires c = let page = c.args.self.now.page.now in sane_parts page.layout page.limits
