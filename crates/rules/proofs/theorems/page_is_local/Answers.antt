use Rattle.rules.proofs.Locality.{page_local, page_stands, opening_local}
use Rattle.rules.proofs.theorems.page_is_local.Goals as goal

pub returns : goal.returns
returns c = record { apart = page_local; stands = page_stands; opening = opening_local }
