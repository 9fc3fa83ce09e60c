-- Lists of bytes that agree in places. Assumes nothing.
use Rattle.std.specs.Prelude.{◌≡◌, ℕ, ◌+◌, ◌<◌, List}
use Rattle.octets.specs.Rows.{byte}

-- two lists agree on n bytes from a place on
abbrev pub Agree : List ℕ → List ℕ → ℕ → ℕ → Type 0
Agree bs cs place n = (i : ℕ) → i < n → byte bs (place + i) ≡ byte cs (place + i)
