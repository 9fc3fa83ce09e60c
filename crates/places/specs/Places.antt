-- Where the block of a draft goes. Assumes nothing.
use Rattle.std.specs.Prelude.{ℕ, zero, suc, ◌+◌, ◌*◌, ◌/◌, Bool, true, cond, not, ◌&&◌, List, [], ◌∷◌, length, Some, None, Option, nat_le, nat_lt}
use Rattle.octets.specs.Rows.{ceil}
use Rattle.pages.specs.declared.layout.Layout.{Layout}
use Rattle.pages.specs.Extents.{Span, extents}

-- the first sector behind so many bytes from a place on; a sector is 512 bytes
abbrev pub behind : ℕ → ℕ → ℕ
behind place count = ceil (place + count) 512

-- `len` bytes from a place on share a sector with a span: both have bytes, and each begins before the sectors behind the other
abbrev pub shares : ℕ → ℕ → Span → Bool
shares place len s =
    (nat_lt 0 len && nat_lt 0 s.count)
    && (nat_lt (place / 512) (behind s.place s.count) && nat_lt (s.place / 512) (behind place len))

-- `len` bytes from a place on share no sector with any of some spans
unfoldable pub clears : List Span → ℕ → ℕ → Bool
clears [] place len = true
clears (s ∷ ss) place len = not (shares place len s) && clears ss place len

-- a block of `len` bytes at a place ends within the bytes and shares no sector with an extent of the page
unfoldable pub free : List ℕ → Layout → ℕ → ℕ → Bool
free bs l len place = nat_le (place + len) (length bs) && clears (extents bs l) place len

-- the first of `left` sectors, from sector s on, at which a block may begin
unfoldable pub place_from : ℕ → List ℕ → Layout → ℕ → ℕ → Option ℕ
place_from zero bs l len s = None
place_from (suc left) bs l len s = cond (free bs l len (512 * s)) (Some (512 * s)) (place_from left bs l len (s + 1))

-- the place of a block of `len` bytes: the search goes over the sectors from 1 on
unfoldable pub place_of : List ℕ → Layout → ℕ → Option ℕ
place_of bs l len = place_from (length bs / 512) bs l len 1
