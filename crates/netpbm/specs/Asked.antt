-- What questions to a grid leave as it was. Assumes nothing.
use Rattle.std.specs.Prelude.{◌≡◌, refl}
use Rattle.std.specs.Borrow.{MutBor}
use Rattle.std.proofs.Common.{◌∙◌}
use Rattle.raster.specs.Picture.{Picture}
use Rattle.raster.specs.Kept.{Kept}

-- the grid h is g after questions: its picture is the same, and what the questions keep is kept
pub record Asked {G : Type 0} (picture : G → Picture) (k : Kept G) (g h : G) : Type 0 where
  pub kept : picture h ≡ picture g
  pub keeps : k.across g h

pub asked_none : {G : Type 0} {picture : G → Picture} {k : Kept G} (g : G) → Asked picture k g g
asked_none {k = k} g = record { kept = refl; keeps = k.none g }

pub asked_then : {G : Type 0} {picture : G → Picture} {k : Kept G} {f g h : G} → Asked picture k f g → Asked picture k g h → Asked picture k f h
asked_then {k = k} p q = record { kept = q.kept ∙ p.kept; keeps = k.both p.keeps q.keeps }

-- a layer over a lent grid keeps which grid that is, and leaves it as questions do
abbrev pub lent : {L G : Type 0} → (L → MutBor G) → (G → Picture) → Kept G → Kept L
lent grid picture k = record {
  across = λ l m. ((grid m).ghost_name ≡ (grid l).ghost_name) × Asked picture k (grid l).now (grid m).now;
  none = λ l. (refl, asked_none (grid l).now);
  both = λ p q. (q.0 ∙ p.0, asked_then p.1 q.1);
}
