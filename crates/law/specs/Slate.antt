-- The slate, which tells in plain terms what a holder shows. It is made with the holder and fed its calls. Assumes nothing.
use Rattle.std.specs.Prelude.{ℕ, Bool, false, cond, List, Some, None, Ok, Err, Option, Result, ◌==◌}
use Rattle.faults.specs.declared.fault.Fault.{Fault}
use Rattle.raster.specs.Picture.{Picture, empty}
use Rattle.raster.specs.Turns.{composed}
use Rattle.stored.specs.Pixels.{Shown, shown}
use Rattle.plans.specs.declared.view.View.{View}
use Rattle.plans.specs.Views.{viewed}
use Rattle.drafts.specs.declared.call.Call.{Call}
use Rattle.drafts.specs.declared.call.Call.TheVariants.{Open, Pixel, Window, Arrow, Begin, Carry, Rest, Switch, Keep, Scrap}

pub record Slate : Type 0 where
  -- the pages accepted in the bytes at first, each with picture and orientation
  pub ledger : ℕ → Option Shown
  -- the page shown, its picture, and the turn that its orientation and all turns kept since amount to
  pub shows : Option ℕ
  pub picture : Picture
  pub turn : ℕ
  -- the view that a draft was begun with
  pub note : Option View

abbrev pub listed : Result Shown Fault → Option Shown
listed (Ok s) = Some s
listed (Err f) = None

-- the slate of bytes first seen: an empty grid, turn 1, and the pages accepted
abbrev pub slate_of : List ℕ → Slate
slate_of bs = record { ledger = λ page. listed (shown bs page); shows = None; picture = empty; turn = 1; note = None }

-- `open` shows a page of the ledger, its orientation the turn
abbrev pub showing : Slate → ℕ → Option Shown → Slate
showing s page (Some x) = record { ledger = s.ledger; shows = Some page; picture = x.picture; turn = x.orientation; note = s.note }
showing s page None = s

abbrev pub noted : Slate → Option View → Slate
noted s note = record { ledger = s.ledger; shows = s.shows; picture = s.picture; turn = s.turn; note = note }

-- the picture and the turn by a note
abbrev pub picture_by : Option View → Picture → Picture
picture_by (Some v) p = viewed p v
picture_by None p = p

abbrev pub turn_by : Option View → ℕ → ℕ
turn_by (Some v) t = composed t v.turn
turn_by None t = t

abbrev pub is_page : Option ℕ → ℕ → Bool
is_page (Some shows) page = page == shows
is_page None page = false

-- `keep` crops and turns the picture by the note; the turn gains the note's after it; the page shown has that picture, and orientation 1
abbrev pub keeping : Slate → Slate
keeping s = record {
  ledger = λ page. cond (is_page s.shows page) (Some (record { picture = picture_by s.note s.picture; orientation = 1 })) (s.ledger page);
  shows = s.shows;
  picture = picture_by s.note s.picture;
  turn = turn_by s.note s.turn;
  note = None;
}

-- the slate once a call is accepted
abbrev pub feed : Slate → Call → Slate
feed s (Open page) = showing s page (s.ledger page)
feed s (Pixel x y) = s
feed s (Window area room) = s
feed s Arrow = s
feed s (Begin v plan) = noted s (Some v)
feed s Carry = s
feed s Rest = s
feed s Switch = s
feed s Keep = keeping s
feed s Scrap = noted s None
