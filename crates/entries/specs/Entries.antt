-- The entries of a directory, and the checks of each. Assumes nothing.
use Rattle.std.specs.Prelude.{ℕ, zero, suc, ◌+◌, ◌*◌, ◌%◌, ◌≤◌, Bool, cond, not, ◌&&◌, ◌||◌, List, [], ◌∷◌, length, Some, None, Ok, Option, Result, ◌==◌, nat_le, nat_lt}
use Rattle.faults.specs.declared.fault.Check.TheVariants.{Order, Field, Value}
use Rattle.faults.specs.declared.fault.Fault.{Fault}
use Rattle.faults.specs.Faults.{fault, refused, then}
use Rattle.octets.specs.Numbers.{short, long}
use Rattle.octets.specs.declared.endian.Endian.{Endian}
use Rattle.entries.specs.declared.entry.Directory.{Directory}
use Rattle.entries.specs.declared.entry.Entry.{Entry}
use Rattle.entries.specs.declared.entry.RawEntry.{RawEntry}
use Rattle.entries.specs.declared.entry.Shape.{Shape}
use Rattle.entries.specs.declared.entry.Shape.TheVariants.{One, OneShort, Bits, Many}
use Rattle.entries.specs.Types.{type_of, sized}

-- the bytes that a value takes, by the number of its type, and 0 for a number that is none
abbrev pub unit : ℕ → ℕ
unit kind = sized (type_of kind)

-- the bytes that so many values of a type take
abbrev pub size_of : ℕ → ℕ → ℕ
size_of kind count = unit kind * count

-- where the values begin: they stand in the last four bytes of the entry, from the left, if they fit, and else these give their place
abbrev pub home_of : ℕ → ℕ → ℕ → ℕ
home_of place size last = cond (nat_le size 4) (place + 8) last

-- the numbers of the entry at a place
abbrev pub raw_at : Endian → List ℕ → ℕ → RawEntry
raw_at o bs place = record {
  tag = short o bs place;
  kind = short o bs (place + 2);
  count = long o bs (place + 4);
  last = long o bs (place + 8);
}

-- the entry of such numbers at a place
abbrev pub entry_of : ℕ → RawEntry → Entry
entry_of place r = record {
  tag = r.tag;
  kind = r.kind;
  count = r.count;
  place = place;
  values = home_of place (size_of r.kind r.count) r.last;
}

-- the entry at a place
unfoldable pub entry_at : Endian → List ℕ → ℕ → Entry
entry_at o bs place = entry_of place (raw_at o bs place)

-- so many entries from a place on
abbrev pub entries_from : ℕ → Endian → List ℕ → ℕ → List Entry
entries_from zero o bs place = []
entries_from (suc k) o bs place = entry_at o bs place ∷ entries_from k o bs (place + 12)

-- the directory of a page, at a place
abbrev pub directory_at : Endian → List ℕ → ℕ → ℕ → Directory
directory_at o bs page place = record { endian = o; page = page; place = place; entries = short o bs place }

-- the entries of a directory
abbrev pub entries_of : List ℕ → Directory → List Entry
entries_of bs d = entries_from d.entries d.endian bs (d.place + 2)

-- the entries of a directory lie in the bytes
abbrev pub Inside : List ℕ → Directory → Type 0
Inside bs d = d.place + 2 + 12 * d.entries ≤ length bs

-- one SHORT or LONG: width, length, rows per strip, tile width, tile length
abbrev pub one_number : ℕ → Bool
one_number tag = tag == 256 || (tag == 257 || (tag == 278 || (tag == 322 || tag == 323)))

-- one SHORT: compression, photometric, fill order, orientation, samples per pixel, planes
abbrev pub one_short : ℕ → Bool
one_short tag = tag == 259 || (tag == 262 || (tag == 266 || (tag == 274 || (tag == 277 || tag == 284))))

-- numbers, one a segment: offsets and byte counts of strips, and of tiles
abbrev pub one_each : ℕ → Bool
one_each tag = tag == 273 || (tag == 279 || (tag == 324 || tag == 325))

-- what the field of a tag must be, if the tag is listed: 258 has the bits of each sample
abbrev pub shape_of : ℕ → Option Shape
shape_of tag =
    cond (one_number tag) (Some One)
    (cond (one_short tag) (Some OneShort)
    (cond (tag == 258) (Some Bits)
    (cond (one_each tag) (Some Many)
    None)))

-- a field of a shape has such a type and count: 3 is SHORT, 4 is LONG
abbrev pub fits : Shape → ℕ → ℕ → Bool
fits One kind count = (kind == 3 || kind == 4) && count == 1
fits OneShort kind count = kind == 3 && count == 1
fits Bits kind count = kind == 3 && (count == 1 || count == 3)
fits Many kind count = (kind == 3 || kind == 4) && nat_lt 0 count

-- the bytes that the values of an entry take
abbrev pub size : Entry → ℕ
size e = size_of e.kind e.count

-- the values of an entry do not fit it, and do not lie where they may among n bytes
abbrev pub astray : ℕ → Entry → Bool
astray n e = nat_lt 4 (size e) && (e.values % 2 == 1 || (nat_lt e.values 8 || nat_lt n (e.values + size e)))

-- the checks of an entry by the shape of its tag
abbrev pub shaped : ℕ → ℕ → Entry → Option Shape → Result ℕ Fault
shaped n page e None = Ok (e.tag + 1)
shaped n page e (Some s) =
    refused (not (fits s e.kind e.count)) (fault Field page e.tag e.place)
    (refused (astray n e) (fault Value page e.tag e.place)
    (Ok (e.tag + 1)))

-- An entry of a page among n bytes: the least tag that the next may have, or the first fault.
-- `least` is the least tag that this one may have.
unfoldable pub accepted : ℕ → ℕ → ℕ → Entry → Result ℕ Fault
accepted n page least e =
    refused (nat_lt e.tag least) (fault Order page 0 e.place) (shaped n page e (shape_of e.tag))

-- all entries in order, or the first fault
abbrev pub scanned : ℕ → ℕ → ℕ → List Entry → Result (Unit {0}) Fault
scanned n page least [] = Ok tt
scanned n page least (e ∷ es) = then (accepted n page least e) (λ next. scanned n page next es)
