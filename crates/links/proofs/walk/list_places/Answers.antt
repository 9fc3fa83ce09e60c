use Rattle.std.proofs.Common.{◌∙◌}
use Rattle.links.proofs.Listing.{listed_over}
use Rattle.links.proofs.walk.list_places.Goals as goal

pub returns : goal.returns
returns c = listed_over c.args.endian _ _ _ _ (c.copy_from_slice.ensures.after ∙ c.deref.ensures.0) c.len.ensures.value c.len-2.ensures.value
