-- Bytes by sectors of 512, and lists of the contents of a sector.
use Rattle.std.specs.Prelude.{◌≡◌, ℕ, ◌+◌, ◌-◌, ◌*◌, ◌<◌, ◌⊎◌, List, [], ◌∷◌, ◌++◌, length, take, drop}

-- sector s of the bytes: 512 of them from 512 × s on, or as many as there are
unfoldable pub sector : List ℕ → ℕ → List ℕ
sector bytes s = take 512 (drop (512 * s) bytes)

-- the bytes with those from `place` on replaced by `given`
unfoldable pub patched : List ℕ → ℕ → List ℕ → List ℕ
patched bytes place given = take place bytes ++ (given ++ drop (place + length given) bytes)

-- the bytes with those from `place` on replaced by as many of `given` as there is room for
unfoldable pub laid : List ℕ → ℕ → List ℕ → List ℕ
laid bytes place given = patched bytes place (take (length bytes - place) given)

-- some of the `count` bytes from `place` on lies in sector s
abbrev pub Touched : ℕ → ℕ → ℕ → Type 0
Touched place count s = (0 < count) × (512 * s < place + count) × (place < 512 * s + 512)

-- the content stands in the list
abbrev pub In : List ℕ → List (List ℕ) → Type 0
In c [] = ⊥
In c (d ∷ ds) = (c ≡ d) ⊎ In c ds

-- for each sector a list of contents
abbrev pub Lists : Type 0
Lists = ℕ → List (List ℕ)
