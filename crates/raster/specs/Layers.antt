-- What a layer shows, by what the grid below shows. Assumes nothing.
use Rattle.raster.specs.Picture.{Picture}
use Rattle.raster.specs.Views.{crop_of, turn_by}
use Rattle.raster.specs.declared.crop.Crop.{Crop}
use Rattle.raster.specs.declared.turn.Turn.{Turn}

module _ {G : Type 0} (picture : G → Picture) where
  abbrev pub cropped : Crop G → Picture
  cropped c = crop_of (picture c.below) c.area

  abbrev pub turned : Turn G → Picture
  turned t = turn_by t.turn (picture t.below)
