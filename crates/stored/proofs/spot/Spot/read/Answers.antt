use Rattle.stored.specs.Sane.{sane_parts}
use Rattle.stored.proofs.spot.Spot.read.Goals as goal

pub read_stored-requires-clause-sane : goal.read_stored-requires-clause-sane
read_stored-requires-clause-sane g c = let page = c.args.self.now.page.now in sane_parts page.layout page.limits
