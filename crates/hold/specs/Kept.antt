-- A store seen through a table of kept sectors: sector s only in slot s % 8, with the tag s / 8.
use Rattle.std.specs.Prelude.{◌≡◌, ℕ, ◌/◌, ◌%◌, Bool, true, false, cond, List, [], ◌∷◌, map, length, Some, None, Option, ◌==◌, slice_index, slice_index_or}
use Rattle.std.specs.List.{range_with_len}
use Rattle.hold.specs.declared.slots.Sector.{Sector}
use Rattle.octets.specs.Sectors.{sector, Lists}

-- room for one sector
abbrev pub Slot : Type 0
Slot = Option Sector

-- the slot keeps a sector with the tag of sector s
abbrev pub tagged : Slot → ℕ → Bool
tagged (Some k) s = k.tag == s / 8
tagged None s = false

-- the bytes that the slot keeps
abbrev pub content : Slot → List ℕ
content (Some k) = k.bytes
content None = []

-- the slot that sector s may be in
unfoldable pub slot_of : List Slot → ℕ → Slot
slot_of slots s = slice_index_or slots (s % 8) None

-- whether sector s is kept
unfoldable pub kept : List Slot → ℕ → Bool
kept slots s = tagged (slot_of slots s) s

-- of the sectors that leave the same rest by 8 at most one is kept, so that no more than 8 are
abbrev pub OneInEight : List Slot → Type 0
OneInEight slots = (s t : ℕ) → kept slots s ≡ true → kept slots t ≡ true → s % 8 ≡ t % 8 → s ≡ t

-- byte i, from its sector where that is kept, else b
unfoldable pub over : List Slot → ℕ → ℕ → ℕ
over slots i b = cond (kept slots (i / 512)) (slice_index (content (slot_of slots (i / 512))) (i % 512)) b

-- byte i, from its sector where that is kept, else from below
abbrev pub byte : List Slot → List ℕ → ℕ → ℕ
byte slots below i = over slots i (slice_index below i)

-- what is seen: a kept sector as it is kept, any other as below
unfoldable pub overlaid : List Slot → List ℕ → List ℕ
overlaid slots below = map (byte slots below) (range_with_len 0 (length below))

-- the lists below, with the content of each kept sector added to its list
unfoldable pub with_kept : List Slot → List ℕ → Lists → Lists
with_kept slots below lists s = cond (kept slots s) (sector (overlaid slots below) s ∷ lists s) (lists s)
