-- A holder, by what it keeps in mind and what its store means. Assumes nothing.
use Rattle.std.specs.Prelude.{◌≡◌, ℕ, List, Some, None, Ok, Err, Option, Result}
use Rattle.faults.specs.declared.fault.Fault.{Fault}
use Rattle.faults.specs.declared.fault.Check.TheVariants.{Closed}
use Rattle.faults.specs.Faults.{bare}
use Rattle.store.specs.declared.traits.Store.{Ghosts}
use Rattle.raster.specs.Picture.{Picture}
use Rattle.pages.specs.declared.layout.Layout.{Layout}
use Rattle.stored.specs.declared.page.Page.{Page}
use Rattle.plans.specs.declared.plan.Plan.{Plan}
use Rattle.plans.specs.declared.view.View.{View}
use Rattle.drafts.specs.declared.state.State.{State}
use Rattle.drafts.specs.Mem.{mem_of, Quiet}
use Rattle.drafts.specs.Steps.{Held, World, world, held, picture_in, Answer, sized, sized_for}
use Rattle.holder.specs.declared.holder.Holder.{Holder}

-- the layout of a page
abbrev pub layout_in : Option Page → Option Layout
layout_in None = None
layout_in (Some p) = Some p.layout

abbrev pub held_by : State → Held
held_by s = held (layout_in s.page) s.arrow s.draft

module _ {S : Type 0} (seen : S → List ℕ) where
  -- the picture that a holder shows
  abbrev pub picture_by : Holder S → Picture
  picture_by h = picture_in (held_by h.state) (seen h.store)

module _ {S : Type 0} (s : Ghosts S) where
  abbrev pub world_of : Holder S → World
  world_of h = world (held_by h.state) (mem_of s h.store)

  -- what a question to a holder keeps: what it has in mind, and all that its store means but for lists that have lost something
  pub record KeptBy (g h : Holder S) : Type 0 where
    pub state : h.state ≡ g.state
    pub quiet : Quiet (mem_of s g.store) (mem_of s h.store)

-- an answer of `open`, with the picture shown after it
abbrev pub told_open : Picture → Result (Unit {0}) Fault → Answer
told_open p (Ok _) = Ok (sized p)
told_open p (Err f) = Err f

-- the bytes that a draft would take
abbrev pub asked_size : Option Layout → View → Plan → Result ℕ Fault
asked_size None v plan = Err (bare Closed)
asked_size (Some l) v plan = sized_for l v plan
