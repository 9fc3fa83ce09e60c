-- What a store means: the bytes seen, what each sector may be found with, and its trail. Assumes nothing.
use Rattle.std.specs.Prelude.{◌≡◌, ℕ, ◌^◌, ◌<◌, List, length}
use Rattle.octets.specs.Sectors.{sector, In, Lists}
use Rattle.store.specs.declared.traits.Store.{Ghosts}
use Rattle.store.specs.Rules.{NoGain, Alone}

pub record Mem : Type 0 where
  pub seen : List ℕ
  pub may : Lists
  pub trail : Lists

abbrev pub mem_of : {S : Type 0} → Ghosts S → S → Mem
mem_of s x = record { seen = s.seen x; may = s.may x; trail = s.trail x }

-- the law of every store
pub record Lawful (m : Mem) : Type 0 where
  pub short : length m.seen < 2 ^ 31
  pub held : (s : ℕ) → In (sector m.seen s) (m.may s)
  pub trailed : (s : ℕ) (c : List ℕ) → In c (m.may s) → In c (m.trail s)

-- nothing seen has changed and no list has gained
pub record Quiet (m n : Mem) : Type 0 where
  pub seen : n.seen ≡ m.seen
  pub may : NoGain m.may n.may
  pub trail : NoGain m.trail n.trail

-- nothing seen has changed, each sector may be found with what is seen alone, and no trail has gained
pub record Settled (m n : Mem) : Type 0 where
  pub seen : n.seen ≡ m.seen
  pub may : Alone n.seen n.may
  pub trail : NoGain m.trail n.trail
