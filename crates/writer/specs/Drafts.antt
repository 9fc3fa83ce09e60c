-- The sectors of a draft. Assumes nothing.
use Rattle.std.specs.Prelude.{ℕ, Bool, cond, ◌&&◌, List, [], nat_le}
use Rattle.octets.specs.Sectors.{sector}
use Rattle.raster.specs.Picture.{Picture}
use Rattle.plans.specs.declared.outline.Outline.{Outline}
use Rattle.plans.specs.declared.plan.Plan.{Plan}
use Rattle.plans.specs.declared.view.View.{View}
use Rattle.plans.specs.Outlines.{segments_in}
use Rattle.plans.specs.Plans.{plan_outline, plan_block}
use Rattle.plans.specs.Views.{viewed, shows}

-- the outline of the draft of what a view shows
abbrev pub draft_outline : Plan → Picture → View → Outline
draft_outline plan p v = plan_outline plan (viewed p v).width (viewed p v).height (viewed p v).kind

-- a draft can be made: the view is one of the picture, and there are at most 1,024 segments
abbrev pub drafts : Plan → Picture → View → Bool
drafts plan p v = shows p v && nat_le (segments_in (draft_outline plan p v)) 1024

-- sector s of the draft, at a place, of what a view shows; none past the last, nor where no draft can be made
unfoldable pub draft_sector : Plan → Picture → View → ℕ → ℕ → List ℕ
draft_sector plan p v place s = cond (drafts plan p v) (sector (plan_block plan (viewed p v) place) s) []
