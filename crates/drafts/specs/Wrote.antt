-- What one write makes of a store. Assumes nothing.
use Rattle.std.specs.Prelude.{◌≡◌, ℕ, List, length}
use Rattle.octets.specs.Sectors.{patched}
use Rattle.store.specs.Rules.{Gain}
use Rattle.drafts.specs.Mem.{Mem}

pub record Wrote (m : Mem) (place : ℕ) (given : List ℕ) (n : Mem) : Type 0 where
  pub seen : n.seen ≡ patched m.seen place given
  pub may : Gain n.seen place (length given) m.may n.may
  pub trail : Gain n.seen place (length given) m.trail n.trail
