use Rattle.store.proofs.Power.{alone_found}
use Rattle.store.proofs.promises.settle_to_one.Goals as goal

pub returns-clause-one : goal.returns-clause-one
returns-clause-one g c = alone_found _ _ (g.S.Store.laws.held _) c.settle.ensures.lists
