-- The book: the slate beside the draft that is out and the bytes. It says what each call answers and writes. Assumes nothing.
use Rattle.std.specs.Prelude.{◌≡◌, ℕ, Bool, true, false, cond, List, is_some, Some, None, Ok, Err, Option, Result}
use Rattle.faults.specs.declared.fault.Fault.{Fault}
use Rattle.faults.specs.declared.fault.Check.TheVariants.{Busy, Page}
use Rattle.faults.specs.Faults.{bare}
use Rattle.octets.specs.Rows.{Holds}
use Rattle.octets.specs.Sectors.{Lists}
use Rattle.raster.specs.Picture.{Picture, pixel_of}
use Rattle.netpbm.specs.Window.{window_answer, window_buffer}
use Rattle.pages.specs.declared.layout.Layout.{Layout}
use Rattle.pages.specs.Opening.{opened}
use Rattle.stored.specs.Pixels.{Shown, shown}
use Rattle.plans.specs.declared.plan.Plan.{Plan}
use Rattle.plans.specs.declared.view.View.{View}
use Rattle.plans.specs.Blocks.{header}
use Rattle.drafts.specs.declared.state.Draft.{Draft}
use Rattle.drafts.specs.declared.state.Stage.TheVariants.{Rested, Switched}
use Rattle.drafts.specs.declared.call.Call.{Call}
use Rattle.drafts.specs.declared.call.Call.TheVariants.{Open, Pixel, Window, Arrow, Begin, Carry, Rest, Switch, Keep, Scrap}
use Rattle.drafts.specs.declared.call.Reply.TheVariants.{Number}
use Rattle.drafts.specs.Steps.{Answer, Write, number, sized, sectors, size_by, stage_of, is_carried, is_rested, is_switched, can_scrap, allowed, ok_of, place_by, draft_at, begin_answer, carry_answer, carry_held, moved_to, carry_write_by, switch_write_by, bytes_by, lays_by}
use Rattle.law.specs.Slate.{Slate, slate_of, feed, picture_by}

pub record Book : Type 0 where
  pub slate : Slate
  pub draft : Option Draft
  pub bytes : List ℕ

abbrev pub book : Slate → Option Draft → List ℕ → Book
book s d bs = record { slate = s; draft = d; bytes = bs }

-- as a holder is made over bytes
abbrev pub book_of : List ℕ → Book
book_of bs = book (slate_of bs) None bs

-- how the page shown is laid out
abbrev pub laid_out : List ℕ → Option ℕ → Option Layout
laid_out bs None = None
laid_out bs (Some page) = ok_of (opened bs page)

-- the place of a draft that is to begin, or the fault
abbrev pub place_in : Book → View → Plan → Result ℕ Fault
place_in b v plan = place_by b.bytes v plan b.draft (laid_out b.bytes b.slate.shows)

-- the fault with which a page is refused that the ledger has not
abbrev pub fault_of : Result Layout Fault → Fault
fault_of (Ok l) = bare Page
fault_of (Err f) = f

-- an open is accepted exactly if the ledger has the page
abbrev pub opened_by : Option Shown → Fault → Answer
opened_by (Some s) f = Ok (sized s.picture)
opened_by None f = Err f

-- what each call is laid down to answer: the questions from the slate
abbrev pub due : Book → Call → Answer
due b (Open page) = cond (is_some b.draft) (Err (bare Busy)) (opened_by (b.slate.ledger page) (fault_of (opened b.bytes page)))
due b (Pixel x y) = number (pixel_of b.slate.picture x y)
due b (Window area room) = number (window_answer b.slate.picture area room)
due b Arrow = Ok (Number b.slate.turn)
due b (Begin v plan) = begin_answer b.slate.picture v plan (place_in b v plan)
due b Carry = carry_answer (sectors (size_by b.slate.picture b.draft)) (stage_of b.draft)
due b Rest = allowed (is_carried (stage_of b.draft))
due b Switch = allowed (is_rested (stage_of b.draft))
due b Keep = allowed (is_switched (stage_of b.draft))
due b Scrap = allowed (can_scrap (stage_of b.draft))

-- what a call is laid down to leave in the buffer that it is given
abbrev pub buffer_by : Picture → Call → List ℕ → List ℕ
buffer_by p (Open page) buffer = buffer
buffer_by p (Pixel x y) buffer = buffer
buffer_by p (Window area room) buffer = window_buffer p area buffer
buffer_by p Arrow buffer = buffer
buffer_by p (Begin v plan) buffer = buffer
buffer_by p Carry buffer = buffer
buffer_by p Rest buffer = buffer
buffer_by p Switch buffer = buffer
buffer_by p Keep buffer = buffer
buffer_by p Scrap buffer = buffer

-- the one write that a call is laid down to make, if any
abbrev pub write_in : Book → Call → Option Write
write_in b (Open page) = None
write_in b (Pixel x y) = None
write_in b (Window area room) = None
write_in b Arrow = None
write_in b (Begin v plan) = None
write_in b Carry = carry_write_by b.slate.picture b.draft
write_in b Rest = None
write_in b Switch = switch_write_by b.draft
write_in b Keep = None
write_in b Scrap = None

-- the draft that a begun one is
abbrev pub begun : View → Plan → Result ℕ Fault → Option Draft → Option Draft
begun v plan (Ok place) d = Some (draft_at v plan place)
begun v plan (Err f) d = d

-- the draft once a call is accepted
abbrev pub draft_after : Book → Call → Option Draft
draft_after b (Open page) = b.draft
draft_after b (Pixel x y) = b.draft
draft_after b (Window area room) = b.draft
draft_after b Arrow = b.draft
draft_after b (Begin v plan) = begun v plan (place_in b v plan) b.draft
draft_after b Carry = carry_held b.slate.picture b.draft
draft_after b Rest = moved_to Rested b.draft
draft_after b Switch = moved_to Switched b.draft
draft_after b Keep = None
draft_after b Scrap = None

-- the book once a call is answered: a refused one changes nothing
abbrev pub after : Book → Call → Answer → Book
after b c (Ok _) = book (feed b.slate c) (draft_after b c) (bytes_by b.bytes (write_in b c))
after b c (Err _) = b

-- what a call under way, if there is one, is laid down to write into each sector
abbrev pub write_under : Book → Option Call → Option Write
write_under b None = None
write_under b (Some c) = write_in b c

abbrev pub under : Book → Option Call → Lists
under b c = lays_by b.bytes (write_under b c)

abbrev pub is_switch : Option Call → Bool
is_switch None = false
is_switch (Some (Open page)) = false
is_switch (Some (Pixel x y)) = false
is_switch (Some (Window area room)) = false
is_switch (Some Arrow) = false
is_switch (Some (Begin v plan)) = false
is_switch (Some Carry) = false
is_switch (Some Rest) = false
is_switch (Some Switch) = true
is_switch (Some Keep) = false
is_switch (Some Scrap) = false

-- from the start of a switch that no check refuses until an accepted keep returns
abbrev pub switching : Book → Option Call → Bool
switching b c = cond (is_switched (stage_of b.draft)) true (cond (is_switch c) (is_rested (stage_of b.draft)) false)

-- the header that a draft's switch writes stands in what is found
abbrev pub Led : Option Draft → List ℕ → Type 0
Led None found = ⊥
Led (Some d) found = Holds found 0 (header d.plan.endian d.place)

-- a switch has begun, and its header is found
abbrev pub SwitchedOver : Book → Option Call → List ℕ → Type 0
SwitchedOver b c found = (switching b c ≡ true) × Led b.draft found

-- a page is accepted in bytes, with this picture
abbrev pub AcceptedAs : List ℕ → ℕ → Picture → Type 0
AcceptedAs bs page p = (orientation : ℕ) × (shown bs page ≡ Ok (record { picture = p; orientation = orientation }))

-- The page that the slate shows, if any, is accepted in what is found: with the slate's picture, and, if the header found is that of a switch that
-- has begun, with the picture that `keep` gives the slate.
pub record Safe (b : Book) (c : Option Call) (found : List ℕ) : Type 0 where
  pub stays : (page : ℕ) → b.slate.shows ≡ Some page → (SwitchedOver b c found → ⊥) → AcceptedAs found page b.slate.picture
  pub goes_over : (page : ℕ) → b.slate.shows ≡ Some page → SwitchedOver b c found → AcceptedAs found page (picture_by b.slate.note b.slate.picture)
