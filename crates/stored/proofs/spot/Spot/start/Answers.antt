use Rattle.stored.specs.Sane.{sane_parts}
use Rattle.stored.proofs.spot.Spot.start.Goals as goal

pub start_of-requires : goal.start_of-requires
start_of-requires c = let page = c.args.self.now.page.now in sane_parts page.layout page.limits
