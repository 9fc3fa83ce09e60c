-- The bytes that an accepted page depends on, and that a draft must not touch. Assumes nothing.
use Rattle.std.specs.Prelude.{◌≡◌, ℕ, ◌+◌, ◌*◌, ◌<◌, ◌≤◌, Bool, cond, ◌&&◌, ◌⊎◌, List, [], ◌∷◌, ◌++◌, map, length, nat_le, nat_lt}
use Rattle.std.specs.List.{range_with_len}
use Rattle.octets.specs.Rows.{byte}
use Rattle.entries.specs.declared.entry.Directory.{Directory}
use Rattle.entries.specs.declared.entry.Entry.{Entry}
use Rattle.entries.specs.Entries.{entries_of, size}
use Rattle.pages.specs.declared.layout.Layout.{Layout}
use Rattle.pages.specs.Geometry.{segments_of, needed}
use Rattle.pages.specs.Segments.{offset_of}

-- so many bytes from a place on
pub record Span : Type 0 where
  pub place : ℕ
  pub count : ℕ

abbrev pub span : ℕ → ℕ → Span
span place count = record { place = place; count = count }

-- a directory: the number of its entries, the entries and its link
abbrev pub directory_span : Directory → Span
directory_span d = span d.place (6 + 12 * d.entries)

-- the needed bytes of segment k
abbrev pub segment_span : List ℕ → Layout → ℕ → Span
segment_span bs l k = span (offset_of bs l k) (needed l k)

-- an entry's values are longer than 4 bytes and lie within n bytes; values of a type that is none take no byte
abbrev pub outer : ℕ → Entry → Bool
outer n e = nat_lt 4 (size e) && nat_le (e.values + size e) n

-- the values of entries, listed or not, that do not stand in their entry
unfoldable pub value_spans : ℕ → List Entry → List Span
value_spans n [] = []
value_spans n (e ∷ es) = cond (outer n e) (span e.values (size e) ∷ value_spans n es) (value_spans n es)

-- the extents of a page
unfoldable pub extents : List ℕ → Layout → List Span
extents bs l =
    directory_span l.directory
    ∷ (map (segment_span bs l) (range_with_len 0 (segments_of l)) ++ value_spans (length bs) (entries_of bs l.directory))

-- byte i lies in one of the spans
abbrev pub Covered : List Span → ℕ → Type 0
Covered [] i = ⊥
Covered (s ∷ ss) i = ((s.place ≤ i) × (i < s.place + s.count)) ⊎ Covered ss i

-- two files agree on some spans
abbrev pub AgreeOn : List Span → List ℕ → List ℕ → Type 0
AgreeOn ss bs cs = (i : ℕ) → Covered ss i → byte bs i ≡ byte cs i
