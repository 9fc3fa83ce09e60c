use Rattle.std.proofs.Common.{ap, ◌∙◌}
use Rattle.links.specs.Links.{has}
use Rattle.links.proofs.Following.{has_is}
use Rattle.links.proofs.walk.is_met.Goals as goal

pub returns : goal.returns
returns c = has_is _ c.args.link c.contains.result c.contains.ensures.cases ∙ ap (λ xs. has xs c.args.link) c.deref.ensures.0
