-- What the calls of a store or card do to its bytes and to the lists of its sectors.
use Rattle.std.specs.Prelude.{◌≡◌, ℕ, ◌+◌, ◌^◌, ◌<◌, ◌≤◌, List, ◌∷◌, length, take, drop, Ok, Err, Result}
use Rattle.faults.specs.declared.fault.Fault.{Fault}
use Rattle.faults.specs.declared.fault.Check.TheVariants.{Past}
use Rattle.faults.specs.Faults.{bare}
use Rattle.octets.specs.Sectors.{sector, patched, Touched, In, Lists}

-- What holds of every store, by its seen bytes, the contents that each sector may be found with, and its trails:
-- it is short, each sector's seen content stands in its list, and its trail includes that list.
pub record Laws {S : Type 0} (seen : S → List ℕ) (may trail : S → Lists) : Type 0 where
  pub short : (x : S) → length (seen x) < 2 ^ 31
  pub held : (x : S) (s : ℕ) → In (sector (seen x) s) (may x s)
  pub trailed : (x : S) (s : ℕ) (c : List ℕ) → In c (may x s) → In c (trail x s)

-- `count` bytes from `place` on are refused as Past exactly if they do not lie within `bytes`
abbrev pub Answered : Result (Unit {0}) Fault → List ℕ → ℕ → ℕ → Type 0
Answered (Ok _) bytes place count = place + count ≤ length bytes
Answered (Err e) bytes place count = (length bytes < place + count) × (e ≡ bare Past)

-- what a buffer holds after a read of `bytes` from `place` on
abbrev pub filled : Result (Unit {0}) Fault → List ℕ → ℕ → List ℕ → List ℕ
filled (Ok _) bytes place buffer = take (length buffer) (drop place bytes)
filled (Err _) bytes place buffer = buffer

-- what the seen bytes are after a write of `given` from `place` on
abbrev pub written : Result (Unit {0}) Fault → List ℕ → ℕ → List ℕ → List ℕ
written (Ok _) bytes place given = patched bytes place given
written (Err _) bytes place given = bytes

-- no list has gained a content
pub record NoGain (old new : Lists) : Type 0 where
  pub none : (s : ℕ) (c : List ℕ) → In c (new s) → In c (old s)

-- each list holds the seen content of its sector and no other
pub record Alone (bytes : List ℕ) (lists : Lists) : Type 0 where
  pub only : (s : ℕ) (c : List ℕ) → In c (lists s) → c ≡ sector bytes s

-- no list has gained more than its sector's content in `bytes`
pub record Grown (bytes : List ℕ) (old new : Lists) : Type 0 where
  pub most : (s : ℕ) (c : List ℕ) → In c (new s) → In c (sector bytes s ∷ old s)

-- of the `count` bytes from `place` on, a touched sector's list has gained at most its content in
-- `bytes`, and no other list has gained
pub record Gain (bytes : List ℕ) (place count : ℕ) (old new : Lists) : Type 0 where
  pub touched : (s : ℕ) → Touched place count s → (c : List ℕ) → In c (new s) → In c (sector bytes s ∷ old s)
  pub others : (s : ℕ) → (Touched place count s → ⊥) → (c : List ℕ) → In c (new s) → In c (old s)

-- the gain of a write, of which none is left where it is refused
abbrev pub Gained : Result (Unit {0}) Fault → List ℕ → ℕ → ℕ → Lists → Lists → Type 0
Gained (Ok _) bytes place count old new = Gain bytes place count old new
Gained (Err _) bytes place count old new = NoGain old new
