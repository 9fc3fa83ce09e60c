-- The listed tags of a page, and their values. Assumes nothing.
use Rattle.std.specs.Prelude.{ℕ, ◌+◌, ◌*◌, cond, List, [], ◌∷◌, length, Some, None, Ok, Option, Result, ◌==◌, nat_lt}
use Rattle.faults.specs.declared.fault.Fault.{Fault}
use Rattle.faults.specs.Faults.{then}
use Rattle.reads.specs.Reads.{short_at, long_at}
use Rattle.octets.specs.declared.endian.Endian.{Endian}
use Rattle.entries.specs.declared.entry.Directory.{Directory}
use Rattle.entries.specs.declared.entry.Entry.{Entry}
use Rattle.entries.specs.declared.fields.Form.{Form}
use Rattle.entries.specs.declared.fields.Form.TheVariants.{Short, Long}
use Rattle.entries.specs.declared.fields.Numbers.{Numbers}
use Rattle.entries.specs.declared.fields.Table.{Table}
use Rattle.entries.specs.declared.fields.Fields.{Fields}
use Rattle.entries.specs.Entries.{entries_of, scanned}

-- the form of a listed tag's numbers, by their type: 3 is SHORT, and else they are LONG
abbrev pub form_of : ℕ → Form
form_of kind = cond (kind == 3) Short Long

-- the values of an entry of a listed tag
abbrev pub numbers_of : Entry → Numbers
numbers_of e = record { form = form_of e.kind; count = e.count; place = e.values }

-- the values under a tag once an entry is met: those of the entry if it has the tag, and else those known before
abbrev pub chosen : ℕ → ℕ → Numbers → Option Numbers → Option Numbers
chosen tag wanted found before = cond (tag == wanted) (Some found) before

-- the values of the last entry with a tag, and those known before where none has it
abbrev pub sought_from : Option Numbers → ℕ → List Entry → Option Numbers
sought_from before tag [] = before
sought_from before tag (e ∷ es) = sought_from (chosen e.tag tag (numbers_of e) before) tag es

-- the values of the entry with a tag: where tags ascend there is but one
abbrev pub sought : ℕ → List Entry → Option Numbers
sought tag es = sought_from None tag es

abbrev pub table_from : Table → ℕ → ℕ → List Entry → Table
table_from before offsets counts es = record {
  offsets = sought_from before.offsets offsets es;
  counts = sought_from before.counts counts es;
}

-- the listed tags among some entries, after those known before
abbrev pub gathered_from : Fields → List Entry → Fields
gathered_from before es = record {
  width = sought_from before.width 256 es;
  height = sought_from before.height 257 es;
  bits = sought_from before.bits 258 es;
  compression = sought_from before.compression 259 es;
  photometric = sought_from before.photometric 262 es;
  fill = sought_from before.fill 266 es;
  strips = table_from before.strips 273 279 es;
  orientation = sought_from before.orientation 274 es;
  samples = sought_from before.samples 277 es;
  rows = sought_from before.rows 278 es;
  planes = sought_from before.planes 284 es;
  across = sought_from before.across 322 es;
  down = sought_from before.down 323 es;
  tiles = table_from before.tiles 324 325 es;
}

abbrev pub no_table : Table
no_table = record { offsets = None; counts = None }

-- no tag at all
abbrev pub no_fields : Fields
no_fields = record {
  width = None;
  height = None;
  bits = None;
  compression = None;
  photometric = None;
  fill = None;
  strips = no_table;
  orientation = None;
  samples = None;
  rows = None;
  planes = None;
  across = None;
  down = None;
  tiles = no_table;
}

-- the listed tags among some entries
unfoldable pub gathered : List Entry → Fields
gathered es = gathered_from no_fields es

-- the listed tags of a directory whose entries pass their checks, or the first fault
unfoldable pub fielded : List ℕ → Directory → Result Fields Fault
fielded bs d = then (scanned (length bs) d.page 0 (entries_of bs d)) (λ _. Ok (gathered (entries_of bs d)))

-- the bytes that a number takes
abbrev pub wide : Form → ℕ
wide Short = 2
wide Long = 4

-- where number k of some begins
abbrev pub place_of : Numbers → ℕ → ℕ
place_of v k = v.place + wide v.form * k

-- the number of a form at a place, and 0 where it does not lie in the bytes
abbrev pub number_in : Endian → List ℕ → Form → ℕ → ℕ
number_in o bs Short place = short_at o bs place
number_in o bs Long place = long_at o bs place

-- number k of some
unfoldable pub number_at : Endian → List ℕ → Numbers → ℕ → ℕ
number_at o bs v k = number_in o bs v.form (place_of v k)

-- number k under a tag, and a default where there is none
abbrev pub nth_or : Endian → List ℕ → ℕ → ℕ → Option Numbers → ℕ
nth_or o bs default k None = default
nth_or o bs default k (Some v) = cond (nat_lt k v.count) (number_at o bs v k) default

-- how many numbers stand under a tag, and a default where it is absent
abbrev pub count_or : ℕ → Option Numbers → ℕ
count_or default None = default
count_or default (Some v) = v.count
