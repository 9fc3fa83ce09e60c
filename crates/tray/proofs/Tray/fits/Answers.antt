use Rattle.std.proofs.Common.{arith}
use Rattle.std.proofs.lemmas.Bool.Decides.{nat_tests}
use Rattle.tray.specs.Parts.{fits}
use Rattle.tray.proofs.Tray.fits.Goals as goal

pub returns-then-self-eq0 : goal.returns-then-self-eq0
unfolding fits
returns-then-self-eq0 g c = grind (arith, nat_tests)

pub returns-else-self-eq0 : goal.returns-else-self-eq0
unfolding fits
returns-else-self-eq0 g c = grind (arith, nat_tests)
