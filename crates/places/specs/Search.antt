-- How the search goes: the place moves behind each extent with which the block would share a sector. Assumes nothing.
use Rattle.std.specs.Prelude.{ℕ, ◌+◌, ◌*◌, cond, ◌&&◌, List, [], ◌∷◌, map, length, nat_le, nat_lt}
use Rattle.std.specs.List.{range_with_len}
use Rattle.octets.specs.Numbers.{short, long}
use Rattle.octets.specs.declared.endian.Endian.{Endian}
use Rattle.entries.specs.Entries.{size_of}
use Rattle.pages.specs.Extents.{Span, span}
use Rattle.places.specs.declared.extent.Extent.{Extent}
use Rattle.places.specs.Places.{behind, shares}

-- an extent of the code as a span
abbrev pub span_of : Extent → Span
span_of x = span x.place x.count

-- the place of a block of `len` bytes once a span is looked at
abbrev pub passed : ℕ → ℕ → Span → ℕ
passed len place s = cond (shares place len s) (512 * behind s.place s.count) place

-- once each of some spans is looked at, in order
unfoldable pub passed_all : ℕ → ℕ → List Span → ℕ
passed_all len place [] = place
passed_all len place (s ∷ ss) = passed_all len (passed len place s) ss

-- so many values of a type, from a place on: no byte if they are not longer than 4 bytes or do not lie within n bytes
abbrev pub outer_span : ℕ → ℕ → ℕ → ℕ → Span
outer_span n kind count place = span place (cond (nat_lt 4 (size_of kind count) && nat_le (place + size_of kind count) n) (size_of kind count) 0)

-- the values of the entry at a place, by the numbers in it
abbrev pub entry_span : Endian → List ℕ → ℕ → Span
entry_span o bs at = outer_span (length bs) (short o bs (at + 2)) (long o bs (at + 4)) (long o bs (at + 8))

-- once each of so many spans is looked at, from span k on
unfoldable pub passed_each : (ℕ → Span) → ℕ → ℕ → ℕ → ℕ → ℕ
passed_each f len place k count = passed_all len place (map f (range_with_len k count))
