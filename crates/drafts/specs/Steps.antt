-- What each call of a holder answers, keeps in mind, writes and settles; and the step that a call is. Assumes nothing.
use Rattle.std.specs.Prelude.{◌≡◌, ℕ, ◌+◌, ◌-◌, ◌*◌, ◌%◌, ◌<◌, ◌≤◌, Bool, true, false, cond, not, ◌⊎◌, List, length, is_some, Some, None, Ok, Err, Option, Result, ◌==◌, nat_lt}
use Rattle.faults.specs.declared.fault.Check.TheVariants.{Busy, Closed, Pages, View as ViewCheck, Many, Space, Stage as StageCheck}
use Rattle.faults.specs.declared.fault.Fault.{Fault}
use Rattle.faults.specs.Faults.{bare, refused, then}
use Rattle.octets.specs.Rows.{ceil}
use Rattle.octets.specs.Sectors.{sector, patched, In, Lists}
use Rattle.store.specs.Power.{nothing, write_lays}
use Rattle.raster.specs.declared.grid.Kind.{Kind}
use Rattle.raster.specs.Picture.{Picture, empty, pixel_of}
use Rattle.raster.specs.Turns.{composed}
use Rattle.raster.specs.Views.{swaps}
use Rattle.netpbm.specs.Window.{window_answer}
use Rattle.pages.specs.declared.layout.Layout.{Layout}
use Rattle.pages.specs.Opening.{opened}
use Rattle.stored.specs.Pixels.{picture_of}
use Rattle.plans.specs.declared.outline.Outline.{Outline}
use Rattle.plans.specs.declared.plan.Plan.{Plan}
use Rattle.plans.specs.declared.view.View.{View}
use Rattle.plans.specs.Views.{viewed, shows, shows_in, view_width, view_height}
use Rattle.plans.specs.Outlines.{segments_in, block_size}
use Rattle.plans.specs.Plans.{plan_outline}
use Rattle.plans.specs.Blocks.{block, header}
use Rattle.places.specs.Places.{place_of}
use Rattle.drafts.specs.declared.state.Stage.{Stage}
use Rattle.drafts.specs.declared.state.Stage.TheVariants.{Begun, Carried, Rested, Switched}
use Rattle.drafts.specs.declared.state.Draft.{Draft}
use Rattle.drafts.specs.declared.call.Call.{Call}
use Rattle.drafts.specs.declared.call.Call.TheVariants.{Open, Pixel, Window, Arrow, Begin, Carry, Rest, Switch, Keep, Scrap}
use Rattle.drafts.specs.declared.call.Reply.{Reply}
use Rattle.drafts.specs.declared.call.Reply.TheVariants.{Done, Number, Shown}
use Rattle.drafts.specs.Mem.{Mem}

-- what a holder keeps in mind
pub record Held : Type 0 where
  pub page : Option Layout
  pub arrow : ℕ
  pub draft : Option Draft

-- a holder: what it keeps in mind, and what its store means
pub record World : Type 0 where
  pub held : Held
  pub mem : Mem

abbrev pub world : Held → Mem → World
world h m = record { held = h; mem = m }

abbrev pub held : Option Layout → ℕ → Option Draft → Held
held page arrow draft = record { page = page; arrow = arrow; draft = draft }

-- as a holder is made: closed
abbrev pub fresh : Held
fresh = held None 1 None

-- the picture of the page shown, which is empty if there is none
abbrev pub shown_of : Option Layout → List ℕ → Picture
shown_of None bs = empty
shown_of (Some l) bs = picture_of bs l

abbrev pub picture_in : Held → List ℕ → Picture
picture_in h bs = shown_of h.page bs

abbrev pub Answer : Type 0
Answer = Result Reply Fault

abbrev pub number : Result ℕ Fault → Answer
number (Ok n) = Ok (Number n)
number (Err f) = Err f

abbrev pub sized : Picture → Reply
sized p = Shown (record { width = p.width; height = p.height }) p.kind

-- the outline of a draft of a picture of a kind, by a view and a plan
abbrev pub outline_by : View → Plan → Kind → Outline
outline_by v plan kind = plan_outline plan (view_width v) (view_height v) kind

-- the sectors that so many bytes take
abbrev pub sectors : ℕ → ℕ
sectors size = ceil size 512

-- a draft of a picture: its outline, its size and its block
abbrev pub outline_of : Draft → Picture → Outline
outline_of d p = outline_by d.view d.plan p.kind

abbrev pub size_of : Draft → Picture → ℕ
size_of d p = block_size (outline_of d p)

unfoldable pub block_of : Draft → Picture → List ℕ
block_of d p = block (outline_of d p) (viewed p d.view).at d.place

-- `open`
abbrev pub open_answer : List ℕ → Result Layout Fault → Answer
open_answer bs (Ok l) = Ok (sized (picture_of bs l))
open_answer bs (Err f) = Err f

abbrev pub open_held : Held → Result Layout Fault → Held
open_held h (Ok l) = held (Some l) l.orientation h.draft
open_held h (Err f) = h

-- the sides of a page's picture, which orientations 5 to 8 swap
abbrev pub width_of : Layout → ℕ
width_of l = cond (swaps l.orientation) l.height l.width

abbrev pub height_of : Layout → ℕ
height_of l = cond (swaps l.orientation) l.width l.height

-- `begin`: the place of the draft, or the fault
abbrev pub spaced : Option ℕ → Result ℕ Fault
spaced None = Err (bare Space)
spaced (Some place) = Ok place

-- the bytes of the draft of a page through a view by a plan
unfoldable pub sized_for : Layout → View → Plan → Result ℕ Fault
sized_for l v plan =
    refused (not (shows_in (width_of l) (height_of l) v)) (bare ViewCheck)
    (refused (nat_lt 1024 (segments_in (outline_by v plan l.kind))) (bare Many)
    (Ok (block_size (outline_by v plan l.kind))))

unfoldable pub room_for : List ℕ → Layout → View → Plan → Result ℕ Fault
room_for bs l v plan =
    refused (not (l.directories == 1)) (bare Pages)
    (then (sized_for l v plan) (λ size.
    spaced (place_of bs l size)))

abbrev pub place_by : List ℕ → View → Plan → Option Draft → Option Layout → Result ℕ Fault
place_by bs v plan (Some d) page = Err (bare Busy)
place_by bs v plan None None = Err (bare Closed)
place_by bs v plan None (Some l) = room_for bs l v plan

abbrev pub draft_at : View → Plan → ℕ → Draft
draft_at v plan place = record { view = v; plan = plan; place = place; stage = Begun 0 }

abbrev pub begin_answer : Picture → View → Plan → Result ℕ Fault → Answer
begin_answer p v plan (Ok place) = Ok (Number (sectors (block_size (outline_by v plan p.kind))))
begin_answer p v plan (Err f) = Err f

abbrev pub begin_held : Held → View → Plan → Result ℕ Fault → Held
begin_held h v plan (Ok place) = held h.page h.arrow (Some (draft_at v plan place))
begin_held h v plan (Err f) = h

-- the stage of a draft that is out
abbrev pub stage_of : Option Draft → Option Stage
stage_of None = None
stage_of (Some d) = Some d.stage

abbrev pub is_carried : Option Stage → Bool
is_carried None = false
is_carried (Some (Begun _)) = false
is_carried (Some Carried) = true
is_carried (Some Rested) = false
is_carried (Some Switched) = false

abbrev pub is_rested : Option Stage → Bool
is_rested None = false
is_rested (Some (Begun _)) = false
is_rested (Some Carried) = false
is_rested (Some Rested) = true
is_rested (Some Switched) = false

abbrev pub is_switched : Option Stage → Bool
is_switched None = false
is_switched (Some (Begun _)) = false
is_switched (Some Carried) = false
is_switched (Some Rested) = false
is_switched (Some Switched) = true

-- begun, carried or rested
abbrev pub can_scrap : Option Stage → Bool
can_scrap None = false
can_scrap (Some (Begun _)) = true
can_scrap (Some Carried) = true
can_scrap (Some Rested) = true
can_scrap (Some Switched) = false

abbrev pub staged : Draft → Stage → Draft
staged d s = record { view = d.view; plan = d.plan; place = d.place; stage = s }

-- the draft at another stage
abbrev pub moved_to : Stage → Option Draft → Option Draft
moved_to s None = None
moved_to s (Some d) = Some (staged d s)

-- `carry`: with j of n sectors carried, one more is
abbrev pub next_stage : ℕ → ℕ → Stage
next_stage n j = cond (nat_lt (j + 1) n) (Begun (j + 1)) Carried

abbrev pub carry_answer : ℕ → Option Stage → Answer
carry_answer n (Some (Begun j)) = Ok (Number (n - (j + 1)))
carry_answer n None = Err (bare StageCheck)
carry_answer n (Some Carried) = Err (bare StageCheck)
carry_answer n (Some Rested) = Err (bare StageCheck)
carry_answer n (Some Switched) = Err (bare StageCheck)

abbrev pub carry_draft : ℕ → Draft → Stage → Draft
carry_draft n d (Begun j) = staged d (next_stage n j)
carry_draft n d Carried = d
carry_draft n d Rested = d
carry_draft n d Switched = d

abbrev pub carry_held : Picture → Option Draft → Option Draft
carry_held p None = None
carry_held p (Some d) = Some (carry_draft (sectors (size_of d p)) d d.stage)

abbrev pub size_by : Picture → Option Draft → ℕ
size_by p None = 0
size_by p (Some d) = size_of d p

abbrev pub allowed : Bool → Answer
allowed b = cond b (Ok Done) (Err (bare StageCheck))

-- `keep`: the page that the file then opens as, and the turn by the table
abbrev pub ok_of : Result Layout Fault → Option Layout
ok_of (Ok l) = Some l
ok_of (Err f) = None

abbrev pub turn_of : Option Draft → ℕ
turn_of None = 1
turn_of (Some d) = d.view.turn

abbrev pub kept_held : Held → List ℕ → Held
kept_held h bs = held (ok_of (opened bs 0)) (composed h.arrow (turn_of h.draft)) None

abbrev pub answer_of : Held → List ℕ → Call → Answer
answer_of h bs (Open page) = cond (is_some h.draft) (Err (bare Busy)) (open_answer bs (opened bs page))
answer_of h bs (Pixel x y) = number (pixel_of (picture_in h bs) x y)
answer_of h bs (Window area room) = number (window_answer (picture_in h bs) area room)
answer_of h bs Arrow = Ok (Number h.arrow)
answer_of h bs (Begin v plan) = begin_answer (picture_in h bs) v plan (place_by bs v plan h.draft h.page)
answer_of h bs Carry = carry_answer (sectors (size_by (picture_in h bs) h.draft)) (stage_of h.draft)
answer_of h bs Rest = allowed (is_carried (stage_of h.draft))
answer_of h bs Switch = allowed (is_rested (stage_of h.draft))
answer_of h bs Keep = allowed (is_switched (stage_of h.draft))
answer_of h bs Scrap = allowed (can_scrap (stage_of h.draft))

abbrev pub held_of : Held → List ℕ → Call → Held
held_of h bs (Open page) = cond (is_some h.draft) h (open_held h (opened bs page))
held_of h bs (Pixel x y) = h
held_of h bs (Window area room) = h
held_of h bs Arrow = h
held_of h bs (Begin v plan) = begin_held h v plan (place_by bs v plan h.draft h.page)
held_of h bs Carry = held h.page h.arrow (carry_held (picture_in h bs) h.draft)
held_of h bs Rest = cond (is_carried (stage_of h.draft)) (held h.page h.arrow (moved_to Rested h.draft)) h
held_of h bs Switch = cond (is_rested (stage_of h.draft)) (held h.page h.arrow (moved_to Switched h.draft)) h
held_of h bs Keep = cond (is_switched (stage_of h.draft)) (kept_held h bs) h
held_of h bs Scrap = cond (can_scrap (stage_of h.draft)) (held h.page h.arrow None) h

-- some bytes that are to be written from a place on
pub record Write : Type 0 where
  pub place : ℕ
  pub given : List ℕ

abbrev pub write : ℕ → List ℕ → Write
write place given = record { place = place; given = given }

-- the one write of a carry: the next sector of the block
abbrev pub carry_write : Picture → Draft → Stage → Option Write
carry_write p d (Begun j) = Some (write (d.place + 512 * j) (sector (block_of d p) j))
carry_write p d Carried = None
carry_write p d Rested = None
carry_write p d Switched = None

-- the one write of a switch: the 8 bytes of the header
abbrev pub switch_write : Draft → Stage → Option Write
switch_write d Rested = Some (write 0 (header d.plan.endian d.place))
switch_write d (Begun _) = None
switch_write d Carried = None
switch_write d Switched = None

abbrev pub carry_write_by : Picture → Option Draft → Option Write
carry_write_by p None = None
carry_write_by p (Some d) = carry_write p d d.stage

abbrev pub switch_write_by : Option Draft → Option Write
switch_write_by None = None
switch_write_by (Some d) = switch_write d d.stage

-- what a call is laid down to write, at most one write
abbrev pub write_of : Held → List ℕ → Call → Option Write
write_of h bs (Open page) = None
write_of h bs (Pixel x y) = None
write_of h bs (Window area room) = None
write_of h bs Arrow = None
write_of h bs (Begin v plan) = None
write_of h bs Carry = carry_write_by (picture_in h bs) h.draft
write_of h bs Rest = None
write_of h bs Switch = switch_write_by h.draft
write_of h bs Keep = None
write_of h bs Scrap = None

-- the bytes after a write, and the contents that it is laid down to write into each sector
abbrev pub bytes_by : List ℕ → Option Write → List ℕ
bytes_by bs None = bs
bytes_by bs (Some w) = patched bs w.place w.given

abbrev pub lays_by : List ℕ → Option Write → Lists
lays_by bs None = nothing
lays_by bs (Some w) = write_lays bs w.place w.given

abbrev pub bytes_of : Held → List ℕ → Call → List ℕ
bytes_of h bs c = bytes_by bs (write_of h bs c)

abbrev pub lays : Held → List ℕ → Call → Lists
lays h bs c = lays_by bs (write_of h bs c)

-- the calls that settle the store: every open but a refused Busy one, and an accepted rest or keep
abbrev pub settles : Held → Call → Bool
settles h (Open page) = not (is_some h.draft)
settles h (Pixel x y) = false
settles h (Window area room) = false
settles h Arrow = false
settles h (Begin v plan) = false
settles h Carry = false
settles h Rest = is_carried (stage_of h.draft)
settles h Switch = false
settles h Keep = is_switched (stage_of h.draft)
settles h Scrap = false

-- the call c of the holder v answers a and leaves w
pub record Step (c : Call) (v : World) (a : Answer) (w : World) : Type 0 where
  pub answer : a ≡ answer_of v.held v.mem.seen c
  pub holds : w.held ≡ held_of v.held v.mem.seen c
  pub seen : w.mem.seen ≡ bytes_of v.held v.mem.seen c
  -- a may list gains at most what the call is laid down to write
  pub may : (s : ℕ) (x : List ℕ) → In x (w.mem.may s) → In x (v.mem.may s) ⊎ In x (lays v.held v.mem.seen c s)
  -- a call that settles leaves the seen content alone
  pub settled : settles v.held c ≡ true → (s : ℕ) (x : List ℕ) → In x (w.mem.may s) → x ≡ sector v.mem.seen s
  -- a trail gains at most what the call is laid down to write
  pub trail : (s : ℕ) (x : List ℕ) → In x (w.mem.trail s) → In x (v.mem.trail s) ⊎ In x (lays v.held v.mem.seen c s)

-- a draft that is out fits the page shown and the store
pub record Fitting (bs : List ℕ) (l : Layout) (d : Draft) : Type 0 where
  pub only : l.directories ≡ 1
  pub shows : shows (picture_of bs l) d.view ≡ true
  pub few : segments_in (outline_of d (picture_of bs l)) ≤ 1024
  pub whole : d.place % 512 ≡ 0
  pub first : 512 ≤ d.place
  pub ends : d.place + size_of d (picture_of bs l) ≤ length bs

abbrev pub Under : ℕ → Stage → Type 0
Under n (Begun j) = j < n
Under n Carried = Unit {0}
Under n Rested = Unit {0}
Under n Switched = Unit {0}

abbrev pub Steady : List ℕ → Option Layout → Option Draft → Type 0
Steady bs page None = Unit {0}
Steady bs None (Some d) = ⊥
Steady bs (Some l) (Some d) = Fitting bs l d × Under (sectors (size_of d (picture_of bs l))) d.stage

-- what a holder keeps in mind fits what its store holds
abbrev pub Sound : World → Type 0
Sound w = Steady w.mem.seen w.held.page w.held.draft
