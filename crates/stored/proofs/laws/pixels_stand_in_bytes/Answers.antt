use Rattle.stored.proofs.Cases.{pixels_read}
use Rattle.stored.proofs.laws.pixels_stand_in_bytes.Goals as goal

pub returns : goal.returns
returns c = pixels_read
