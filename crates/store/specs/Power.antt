-- What may be found on a store after power has ended. Assumes nothing.
use Rattle.std.specs.Prelude.{◌≡◌, ℕ, ◌+◌, ◌*◌, Bool, cond, ◌&&◌, ◌⊎◌, List, [], ◌∷◌, length, nat_lt}
use Rattle.octets.specs.Sectors.{sector, patched, In, Lists}

-- Power ends inside a call: as many bytes are found as were seen, and each sector by itself has a content
-- of its may list before the call, or one that the call is laid down to write there.
pub record Cut (seen : List ℕ) (may writes : Lists) (found : List ℕ) : Type 0 where
  pub long : length found ≡ length seen
  pub each : (s : ℕ) → In (sector found s) (may s) ⊎ In (sector found s) (writes s)

-- what a call that writes nothing is laid down to write
abbrev pub nothing : Lists
nothing s = []

-- power ends between two calls
abbrev pub Found : List ℕ → Lists → List ℕ → Type 0
Found seen may found = Cut seen may nothing found

-- whether some of the `count` bytes from `place` on lies in sector s
abbrev pub touches : ℕ → ℕ → ℕ → Bool
touches place count s = nat_lt 0 count && (nat_lt (512 * s) (place + count) && nat_lt place (512 * s + 512))

-- what a write is laid down to write: into each touched sector its content with the new bytes put in
unfoldable pub write_lays : List ℕ → ℕ → List ℕ → Lists
write_lays seen place given s = cond (touches place (length given) s) (sector (patched seen place given) s ∷ []) []
