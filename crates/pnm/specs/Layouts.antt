-- Which kinds of pixels have each layout. Assumes nothing.
use Rattle.std.specs.Prelude.{◌≡◌, true, false}
use Rattle.raster.specs.declared.grid.Kind.{Kind}
use Rattle.pnm.specs.Netpbm.{bilevel, colour}
use Rattle.pnm.specs.declared.layout.Layout.{Layout}
use Rattle.pnm.specs.declared.layout.Layout.TheVariants.{Bitmap, Greymap, Pixmap}

abbrev pub LaysOut : Layout → Kind → Type 0
LaysOut Bitmap k = bilevel k ≡ true
LaysOut Greymap k = (bilevel k ≡ false) × (colour k ≡ false)
LaysOut Pixmap k = (bilevel k ≡ false) × (colour k ≡ true)
