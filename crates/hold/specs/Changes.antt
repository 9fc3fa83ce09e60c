-- What a call changes of a hold over any card. Assumes nothing.
use Rattle.std.specs.Prelude.{◌≡◌, ℕ, List}
use Rattle.octets.specs.Sectors.{patched, Lists}
use Rattle.store.specs.declared.traits.Store.{Ghosts}
use Rattle.store.specs.Rules.{NoGain, Grown}
use Rattle.hold.specs.declared.Hold.{Hold}
use Rattle.hold.specs.Kept.{overlaid, with_kept}

module _ {C : Type 0} (c : Ghosts C) where
  -- what is seen through a hold, what each sector may be found with, and its trail
  abbrev pub seen_by : Hold C → List ℕ
  seen_by h = overlaid h.table.slots (c.seen h.below)

  abbrev pub may_by : Hold C → Lists
  may_by h = with_kept h.table.slots (c.seen h.below) (c.may h.below)

  abbrev pub trail_by : Hold C → Lists
  trail_by h = with_kept h.table.slots (c.seen h.below) (c.trail h.below)

  -- What is seen is as it was, and no list and no trail has gained.
  pub record Quiet (g h : Hold C) : Type 0 where
    pub same : seen_by h ≡ seen_by g
    pub lists : NoGain (may_by g) (may_by h)
    pub trails : NoGain (trail_by g) (trail_by h)

  -- The bytes from `place` on are replaced by `given`, and no list and no trail has gained more than what is seen now.
  pub record Put (g h : Hold C) (place : ℕ) (given : List ℕ) : Type 0 where
    pub put : seen_by h ≡ patched (seen_by g) place given
    pub lists : Grown (seen_by h) (may_by g) (may_by h)
    pub trails : Grown (seen_by h) (trail_by g) (trail_by h)
