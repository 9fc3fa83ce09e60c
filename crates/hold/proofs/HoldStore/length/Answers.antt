use Rattle.std.proofs.Common.{sym, ◌∙◌}
use Rattle.hold.specs.KeptLaws.{length_overlaid}
use Rattle.hold.proofs.HoldStore.length.Goals as goal

pub returns : goal.returns
returns g c = c.length.ensures ∙ sym (length_overlaid _ _)
