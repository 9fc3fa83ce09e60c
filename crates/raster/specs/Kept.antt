-- What the questions to a grid keep besides its picture. Assumes nothing.
use Rattle.std.specs.Prelude.{◌≡◌, refl}
use Rattle.std.proofs.Common.{◌∙◌}
use Rattle.raster.specs.Picture.{Picture}

-- `across g h` says what is kept where g becomes h; no change keeps it, and two changes keep it if each does
pub record Kept (G : Type 0) : Type 1 where
  pub across : G → G → Type 0
  pub none : (g : G) → across g g
  pub both : {f g h : G} → across f g → across g h → across f h

-- nothing else is kept
abbrev pub nothing : {G : Type 0} → Kept G
nothing = record { across = λ _ _. Unit {0}; none = λ _. tt; both = λ _ _. tt }

-- a layer keeps the picture of the grid below, and what that grid keeps
abbrev pub through : {L G : Type 0} → (L → G) → (G → Picture) → Kept G → Kept L
through below picture k = record {
  across = λ l m. (picture (below m) ≡ picture (below l)) × k.across (below l) (below m);
  none = λ l. (refl, k.none (below l));
  both = λ p q. (q.0 ∙ p.0, k.both p.1 q.1);
}
