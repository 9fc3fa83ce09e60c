-- The segments of a page, and the check of each. Assumes nothing.
use Rattle.std.specs.Prelude.{ℕ, zero, suc, ◌+◌, Bool, ◌||◌, List, length, Ok, Result, nat_lt}
use Rattle.faults.specs.declared.fault.Check.TheVariants.{Segment}
use Rattle.faults.specs.declared.fault.Fault.{Fault}
use Rattle.faults.specs.Faults.{fault, refused, then}
use Rattle.entries.specs.Fields.{number_at}
use Rattle.pages.specs.declared.layout.Layout.{Layout}
use Rattle.pages.specs.Geometry.{segments_of, needed}
use Rattle.pages.specs.Tags.{offsets_tag}

-- the offset and the byte count of segment k
abbrev pub offset_of : List ℕ → Layout → ℕ → ℕ
offset_of bs l k = number_at l.directory.endian bs l.offsets k

abbrev pub byte_count_of : List ℕ → Layout → ℕ → ℕ
byte_count_of bs l k = number_at l.directory.endian bs l.counts k

-- a segment at an offset, with a byte count, does not hold what it needs, in a file of n bytes
abbrev pub lacking : ℕ → ℕ → ℕ → ℕ → Bool
lacking n offset count need = nat_lt offset 8 || (nat_lt count need || nat_lt n (offset + need))

-- segment k, or its fault
unfoldable pub segment_at : List ℕ → Layout → ℕ → Result (Unit {0}) Fault
segment_at bs l k =
    refused (lacking (length bs) (offset_of bs l k) (byte_count_of bs l k) (needed l k))
    (fault Segment l.directory.page (offsets_tag l.cut.kind) (offset_of bs l k))
    (Ok tt)

-- so many segments from k on, in order
unfoldable pub segments_from : ℕ → List ℕ → Layout → ℕ → Result (Unit {0}) Fault
segments_from zero bs l k = Ok tt
segments_from (suc left) bs l k = then (segment_at bs l k) (λ _. segments_from left bs l (k + 1))

-- a page whose segments all hold what they need, or the first fault
unfoldable pub filled : List ℕ → Layout → Result Layout Fault
filled bs l = then (segments_from (segments_of l) bs l 0) (λ _. Ok l)
