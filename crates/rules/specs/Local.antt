-- An accepted page depends on its extents alone. Assumes nothing.
use Rattle.std.specs.Prelude.{◌≡◌, ℕ, List, length, Ok}
use Rattle.reads.specs.Agree.{Agree}
use Rattle.pages.specs.declared.layout.Layout.{Layout}
use Rattle.pages.specs.Opening.{HasPage, opened}
use Rattle.pages.specs.Extents.{extents, AgreeOn}

-- the header apart: bytes as long that agree on the extents have the same page, with the same extents
abbrev pub PageLocal : Type 0
PageLocal = (bs cs : List ℕ) (l : Layout)
    → HasPage bs l → length cs ≡ length bs → AgreeOn (extents bs l) bs cs
    → HasPage cs l × (extents cs l ≡ extents bs l)

-- an opened page stands at its directory, whatever the header says
abbrev pub PageStands : Type 0
PageStands = (bs : List ℕ) (page : ℕ) (l : Layout) → opened bs page ≡ Ok l → HasPage bs l

-- page 0 of a file of one directory opens alike in bytes as long that agree on the header and on the extents
abbrev pub OpeningLocal : Type 0
OpeningLocal = (bs cs : List ℕ) (l : Layout)
    → opened bs 0 ≡ Ok l → l.directories ≡ 1 → length cs ≡ length bs → Agree bs cs 0 8 → AgreeOn (extents bs l) bs cs
    → opened cs 0 ≡ Ok l
