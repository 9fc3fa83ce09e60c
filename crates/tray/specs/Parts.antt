-- A part of a store, by its sectors.
use Rattle.std.specs.Prelude.{ℕ, ◌+◌, ◌-◌, ◌*◌, ◌/◌, ◌%◌, Bool, cond, ◌&&◌, List, [], ◌∷◌, map, length, take, drop, ◌==◌, nat_le}
use Rattle.octets.specs.Sectors.{Lists}

-- whether `len` bytes from `from` on start at a sector and lie within n bytes
unfoldable pub fits : ℕ → ℕ → ℕ → Bool
fits n from len = from % 512 == 0 && nat_le (from + len) n

-- those bytes, or none
unfoldable pub cut : List ℕ → ℕ → ℕ → List ℕ
cut bytes from len = cond (fits (length bytes) from len) (take len (drop from bytes)) []

-- the lists of their sectors: those below, of which the last sector's contents end with the part
unfoldable pub cut_lists : ℕ → Lists → ℕ → ℕ → Lists
cut_lists n lists from len s = cond (fits n from len) (map (take (len - 512 * s)) (lists (from / 512 + s))) ([] ∷ [])
