-- What the making of a plan answers, and what a plan makes of a picture. Assumes nothing.
use Rattle.std.specs.Prelude.{◌≡◌, ℕ, ◌<◌, true, false, List, Some, None, Ok, Err, Option, Result}
use Rattle.faults.specs.declared.fault.Check.TheVariants.{Plan as PlanCheck}
use Rattle.faults.specs.declared.fault.Fault.{Fault}
use Rattle.faults.specs.Faults.{bare}
use Rattle.octets.specs.declared.endian.Endian.{Endian}
use Rattle.raster.specs.declared.grid.Kind.{Kind}
use Rattle.raster.specs.Picture.{Picture}
use Rattle.plans.specs.declared.draft.DraftOutline.{DraftOutline}
use Rattle.plans.specs.declared.outline.Outline.{Outline}
use Rattle.plans.specs.declared.pieces.Pieces.{Pieces}
use Rattle.plans.specs.declared.plan.Plan.{Plan}
use Rattle.plans.specs.Limits.{limited}
use Rattle.plans.specs.Outlines.{outlined, Proper, segments_in}
use Rattle.plans.specs.Blocks.{block_of}

-- what a plan says
pub record Planned (p : Plan) (o : Endian) (ps : Pieces) : Type 0 where
  pub endian : p.endian ≡ o
  pub pieces : p.pieces ≡ ps

-- a plan of pieces is made if they are within the limits, and else refused
abbrev pub Made : Result Plan Fault → Endian → Pieces → Type 0
Made (Ok p) o ps = (limited ps ≡ true) × Planned p o ps
Made (Err f) o ps = (limited ps ≡ false) × (f ≡ bare PlanCheck)

-- the outline of a draft is that of a plan; there is none only if it is not proper or has more than 1,024 segments
abbrev pub Drafts : Option DraftOutline → Outline → Type 0
Drafts (Some d) q = d.outline ≡ q
Drafts None q = Proper q → 1024 < segments_in q

-- the outline of the draft of a picture of these sides and this kind
abbrev pub plan_outline : Plan → ℕ → ℕ → Kind → Outline
plan_outline p width height kind = outlined p.endian p.pieces width height kind

-- the block of a picture at a place
abbrev pub plan_block : Plan → Picture → ℕ → List ℕ
plan_block plan p place = block_of plan.endian plan.pieces p place
