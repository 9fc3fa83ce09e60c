-- What a call that only reads a store leaves of it. Assumes nothing.
use Rattle.std.specs.Prelude.{◌≡◌, ℕ, List}
use Rattle.octets.specs.Sectors.{Lists}
use Rattle.store.specs.Rules.{NoGain}

-- the seen bytes are the same, and no list has gained a content
pub record Looked {S : Type 0} (seen : S → List ℕ) (may trail : S → Lists) (old new : S) : Type 0 where
  pub same : seen new ≡ seen old
  pub lists : NoGain (may old) (may new)
  pub trails : NoGain (trail old) (trail new)
