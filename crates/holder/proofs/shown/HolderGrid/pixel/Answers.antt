use Rattle.std.proofs.Common.{refl, rules}
use Rattle.holder.proofs.Opens.{pixel_in}
use Rattle.holder.proofs.shown.HolderGrid.pixel.Goals as goal

-- The page's answer is found and not named, so that a body that asks no page is refused for its own answer.
pub returns : goal.returns
returns g c =
    record {
      answer = pixel_in _ _ _ _ _ _ c.in-Some.is (search rules);
      kept = search rules;
      keeps = record { state = refl; quiet = search rules };
    }
