-- What the bytes of a draft are painted from. Assumes nothing.
use Rattle.std.specs.Prelude.{◌≡◌, ℕ, ◌-◌, ◌/◌, ◌%◌, ◌<◌, true, Some, None, Option}
use Rattle.raster.specs.Picture.{Picture}
use Rattle.raster.specs.Kept.{Kept}
use Rattle.plans.specs.declared.outline.Outline.{Outline}
use Rattle.plans.specs.Views.{shows, view_width, view_height}
use Rattle.writer.specs.declared.canvas.Canvas.{Canvas}
use Rattle.writer.specs.declared.spots.Spot.{Spot}
use Rattle.writer.specs.Spots.{spot_of, pixel_at}

-- a canvas is that of what its view shows of p
pub record Shows (c : Canvas) (p : Picture) : Type 0 where
  pub seen : shows p c.view ≡ true
  pub wide : c.head.draft.outline.width ≡ view_width c.view
  pub high : c.head.draft.outline.height ≡ view_height c.view
  pub kind : c.head.draft.outline.kind ≡ p.kind

-- a question of a grid: it changes no picture, and keeps what else the grid keeps
pub record Asked {G : Type 0} (picture : G → Picture) (keep : Kept G) (old new : G) : Type 0 where
  pub kept : picture new ≡ picture old
  pub keeps : keep.across old new

-- the RGB pixel of which byte j of the segments is a part
abbrev pub colour_at : Outline → (ℕ → ℕ → ℕ) → ℕ → ℕ
colour_at q at j = pixel_at q at (spot_of q j) ((spot_of q j).byte / 3)

-- the pixel that was asked last, if one was, is that of a spot which is not the first byte of its pixel
abbrev pub Shared : Outline → (ℕ → ℕ → ℕ) → Option ℕ → Spot → Type 0
Shared q at None spot = Unit {0}
Shared q at (Some pixel) spot = 0 < spot.byte % 3 → pixel ≡ pixel_at q at spot (spot.byte / 3)

-- the pixel that was asked last, if one was, is that of the byte before byte j
abbrev pub Known : Outline → (ℕ → ℕ → ℕ) → Option ℕ → ℕ → Type 0
Known q at None j = Unit {0}
Known q at (Some pixel) j = (0 < j) × (pixel ≡ colour_at q at (j - 1))
