use Rattle.std.proofs.Common.{length, sym, ap}
use Rattle.tray.specs.PartLaws.{length_cut, cut_none}
use Rattle.tray.proofs.TrayStore.length.Goals as goal

pub returns-then-fits : goal.returns-then-fits
returns-then-fits g c = sym (length_cut _ _ _ (sym c.if-fits.ensures))

pub returns-else-fits : goal.returns-else-fits
returns-else-fits g c = sym (ap length (cut_none _ _ _ (sym c.if-fits.ensures)))
