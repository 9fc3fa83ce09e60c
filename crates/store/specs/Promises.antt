-- What the rules of every store and card come to. Assumes nothing.
use Rattle.std.specs.Prelude.{◌≡◌, ℕ, ◌+◌, ◌<◌, ◌≤◌, ◌⊎◌, List, length, take, drop, Ok, Err, Result, slice_index}
use Rattle.faults.specs.declared.fault.Fault.{Fault}
use Rattle.faults.specs.declared.fault.Check.{Check}
use Rattle.faults.specs.Faults.{bare}
use Rattle.octets.specs.Sectors.{Lists}
use Rattle.store.specs.Power.{Cut, Found, write_lays}

-- what was given is read back, and no other byte has moved
pub record KeptWord (seen seen' : List ℕ) (place : ℕ) (given got : List ℕ) : Type 0 where
  pub back : got ≡ given
  pub here : take (length given) (drop place seen') ≡ given
  pub elsewhere : (i : ℕ) → (i < place) ⊎ (place + length given ≤ i) → slice_index seen' i ≡ slice_index seen i
  pub long : length seen' ≡ length seen

-- a write, then a read of the same place into a buffer that was `buffer` and is `got`: refused, it changes nothing
abbrev pub Echoed : Result (Unit {0}) Fault → List ℕ → List ℕ → ℕ → List ℕ → List ℕ → List ℕ → Type 0
Echoed (Ok _) seen seen' place given buffer got = KeptWord seen seen' place given got
Echoed (Err _) seen seen' place given buffer got = (seen' ≡ seen) × (got ≡ buffer)

-- refused by this check, with no byte and no buffer changed
abbrev pub LeftAsWas : Result (Unit {0}) Fault → Check → List ℕ → List ℕ → List ℕ → List ℕ → Type 0
LeftAsWas r check seen seen' buffer got = (r ≡ Err (bare check)) × (seen' ≡ seen) × (got ≡ buffer)

-- what may be found after a write might also be found if power had ended inside it
abbrev pub FoundOfWrite : List ℕ → List ℕ → Lists → Lists → ℕ → List ℕ → Type 0
FoundOfWrite seen seen' may may' place given = (found : List ℕ) → Found seen' may' found → Cut seen may (write_lays seen place given) found

-- there is exactly one thing to be found: what is seen
pub record OneFound (seen : List ℕ) (may : Lists) : Type 0 where
  pub seen_is : Found seen may seen
  pub no_other : (found : List ℕ) → Found seen may found → found ≡ seen
