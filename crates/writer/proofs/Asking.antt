-- What several questions of a grid keep.
use Rattle.std.proofs.Common.{refl, ◌∙◌}
use Rattle.raster.specs.Picture.{Picture}
use Rattle.raster.specs.Kept.{Kept}
use Rattle.writer.specs.Painting.{Asked}

module _ {G : Type 0} (picture : G → Picture) (keeps : Kept G) where
  pub asked_none : (g : G) → Asked picture keeps g g
  asked_none g = record { kept = refl; keeps = keeps.none g }

  pub asked_both : {f g h : G} → Asked picture keeps f g → Asked picture keeps g h → Asked picture keeps f h
  asked_both a b = record { kept = b.kept ∙ a.kept; keeps = keeps.both a.keeps b.keeps }
