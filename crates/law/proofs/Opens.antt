-- `open`, `rest` and `scrap` keep what holds between calls.
use Rattle.std.proofs.Common.{◌≡◌, ℕ, ◌^◌, ◌<◌, List, length, Some, None, Ok, Err, Option, Result, sym, refl, ap, ◌∙◌, subst, arith}
use Rattle.faults.specs.declared.fault.Fault.{Fault}
use Rattle.faults.specs.declared.fault.Check.TheVariants.{Busy, Stage as StageCheck}
use Rattle.faults.specs.Faults.{bare, then}
use Rattle.octets.specs.Sectors.{Lists}
use Rattle.pages.specs.declared.layout.Layout.{Layout}
use Rattle.pages.specs.Opening.{opened}
use Rattle.stored.specs.Pixels.{picture_of, Shown}
use Rattle.plans.specs.declared.plan.Plan.{Plan}
use Rattle.plans.specs.declared.view.View.{View}
use Rattle.drafts.specs.declared.state.Draft.{Draft}
use Rattle.drafts.specs.declared.state.Stage.{Stage}
use Rattle.drafts.specs.declared.state.Stage.TheVariants.{Begun, Carried, Rested, Switched}
use Rattle.drafts.specs.declared.call.Call.TheVariants.{Open, Rest, Scrap}
use Rattle.drafts.specs.declared.call.Reply.TheVariants.{Done}
use Rattle.drafts.specs.Steps.{Held, held, answer_of, held_of, open_answer, open_held, size_of, block_of, staged}
use Rattle.law.specs.Slate.{Slate, listed, showing, noted}
use Rattle.law.specs.Book.{book, opened_by, fault_of}
use Rattle.law.proofs.Firm.{firm_settled}
use Rattle.law.proofs.Pages.{shown_of_lem}
use Rattle.law.proofs.Good.{Ledger, Paged, Homed, Drafted, Closed, Showing, Good, At, Less, homed_less}
use Rattle.law.proofs.Founds.{dr}
use Rattle.law.proofs.Outcomes.{Moves, Outcome, nothing_gained, refused}

-- open

ledger_of : (page : Option Layout) (bs : List ℕ) (may : Lists) (sl : Slate) → Showing page None bs may sl → Ledger bs sl
ledger_of None bs may sl s = s.ledger
ledger_of (Some l) bs may sl s = s.2.ledger

open_free : (q : ℕ) (page : Option Layout) (arrow : ℕ) (bs : List ℕ) (may may' : Lists) (sl : Slate) (r : Result Layout Fault) → opened bs q ≡ r → Good (held page arrow None) bs may sl
    → Moves (held page arrow None) bs (Open q) may may' → Outcome (book sl None bs) (Open q) (open_answer bs r) (open_held (held page arrow None) r) bs may'
open_free q page arrow bs may may' sl (Ok n) e g m =
    let x : Shown = record { picture = picture_of bs n; orientation = n.orientation } in
    let led = ledger_of page bs may sl g.shown in
    let here : sl.ledger q ≡ Some x = led q ∙ ap listed (shown_of_lem bs q n e) in
    record {
      right = sym (ap (λ o. opened_by o (fault_of (opened bs q))) here);
      at = subst (λ (z : Option Shown). At (book (showing sl q z) None bs) (held (Some n) n.orientation None) bs may') (sym here) (record {
        draft = refl;
        bytes = refl;
        good = record {
          short = g.short;
          turn = refl;
          shown = (q, record { shows = refl; picture = refl }, record { opens = e; ledger = led; firm = λ i _. firm_settled bs may' (m.settled refl) i });
        };
      });
    }
open_free q page arrow bs may may' sl (Err f) e g m =
    let led = ledger_of page bs may sl g.shown in
    let none : sl.ledger q ≡ None = led q ∙ missing (opened bs q) e in
    refused (Open q) f (held page arrow None) bs may may' sl g (nothing_gained may may' m.gain)
    (sym (ap (λ o. opened_by o (fault_of (opened bs q))) none ∙ ap (λ r. opened_by None (fault_of r)) e))
  where
    missing : (r : Result Layout Fault) → r ≡ Err f → listed (then r (λ l. Ok (record { picture = picture_of bs l; orientation = l.orientation }))) ≡ None
    missing r z = ap (λ r. listed (then r (λ l. Ok (record { picture = picture_of bs l; orientation = l.orientation })))) z

open_by : (q : ℕ) (page : Option Layout) (arrow : ℕ) (draft : Option Draft) (bs : List ℕ) (may may' : Lists) (sl : Slate) → Good (held page arrow draft) bs may sl
    → Moves (held page arrow draft) bs (Open q) may may'
    → Outcome (book sl draft bs) (Open q) (answer_of (held page arrow draft) bs (Open q)) (held_of (held page arrow draft) bs (Open q)) bs may'
open_by q page arrow None bs may may' sl g m = open_free q page arrow bs may may' sl (opened bs q) refl g m
open_by q page arrow (Some d) bs may may' sl g m = refused (Open q) (bare Busy) (held page arrow (Some d)) bs may may' sl g (nothing_gained may may' m.gain) refl

pub open_keeps : (q : ℕ) (h : Held) (bs : List ℕ) (may may' : Lists) (sl : Slate) → Good h bs may sl → Moves h bs (Open q) may may'
    → Outcome (book sl h.draft bs) (Open q) (answer_of h bs (Open q)) (held_of h bs (Open q)) bs may'
open_keeps q h = open_by q h.page h.arrow h.draft

-- the block of a draft does not depend on its stage

pub drafted_staged : (d : Draft) (s : Stage) (n : ℕ) (bs : List ℕ) (sl : Slate) → Drafted d n bs sl → Drafted (staged d s) n bs sl
unfolding block_of
drafted_staged d s n bs sl x = record {
  note = x.note;
  fits = record { shows = x.fits.shows; few = x.fits.few; whole = x.fits.whole; first = x.fits.first; ends = x.fits.ends };
  written = x.written;
}

-- rest

pub closed_never : {A : Type 0} (d : Draft) (bs : List ℕ) (sl : Slate) → Closed (Some d) bs sl → A
closed_never d bs sl c = absurd (let e = c.none in let z : ◌≡◌ {A = ℕ} 0 1 = cc in omega arith)

rest_carried : (v : View) (plan : Plan) (place : ℕ) (l : Layout) (arrow : ℕ) (bs : List ℕ) (may may' : Lists) (sl : Slate) → Good (held (Some l) arrow (Some (dr v plan place Carried))) bs may sl
    → Moves (held (Some l) arrow (Some (dr v plan place Carried))) bs Rest may may'
    → Outcome (book sl (Some (dr v plan place Carried)) bs) Rest (Ok Done) (held (Some l) arrow (Some (dr v plan place Rested))) bs may'
rest_carried v plan place l arrow bs may may' sl g m =
    let s = g.shown in
    let o = s.2 in
    let less = nothing_gained may may' m.gain in
    record {
      right = refl;
      at = record {
        draft = refl;
        bytes = refl;
        good = record {
          short = g.short;
          turn = g.turn;
          shown = (
            s.0,
            s.1,
            (
              homed_less less o.0,
              record { one = o.1.one; clear = o.1.clear },
              drafted_staged (dr v plan place Carried) Rested (size_of (dr v plan place Carried) sl.picture) bs sl o.2,
              λ i _ _. firm_settled bs may' (m.settled refl) i,
            ),
          );
        };
      };
    }

rest_out : (v : View) (plan : Plan) (place : ℕ) (g : Stage) (page : Option Layout) (arrow : ℕ) (bs : List ℕ) (may may' : Lists) (sl : Slate) → Good (held page arrow (Some (dr v plan place g))) bs may sl
    → Moves (held page arrow (Some (dr v plan place g))) bs Rest may may'
    → Outcome (book sl (Some (dr v plan place g)) bs) Rest (answer_of (held page arrow (Some (dr v plan place g))) bs Rest) (held_of (held page arrow (Some (dr v plan place g))) bs Rest) bs may'
rest_out v plan place Carried (Some l) arrow bs may may' sl g m = rest_carried v plan place l arrow bs may may' sl g m
rest_out v plan place Carried None arrow bs may may' sl g m = closed_never (dr v plan place Carried) bs sl g.shown
rest_out v plan place (Begun j) page arrow bs may may' sl g m = refused Rest (bare StageCheck) (held page arrow (Some (dr v plan place (Begun j)))) bs may may' sl g (nothing_gained may may' m.gain) refl
rest_out v plan place Rested page arrow bs may may' sl g m = refused Rest (bare StageCheck) (held page arrow (Some (dr v plan place Rested))) bs may may' sl g (nothing_gained may may' m.gain) refl
rest_out v plan place Switched page arrow bs may may' sl g m = refused Rest (bare StageCheck) (held page arrow (Some (dr v plan place Switched))) bs may may' sl g (nothing_gained may may' m.gain) refl

rest_by : (page : Option Layout) (arrow : ℕ) (draft : Option Draft) (bs : List ℕ) (may may' : Lists) (sl : Slate) → Good (held page arrow draft) bs may sl
    → Moves (held page arrow draft) bs Rest may may'
    → Outcome (book sl draft bs) Rest (answer_of (held page arrow draft) bs Rest) (held_of (held page arrow draft) bs Rest) bs may'
rest_by page arrow None bs may may' sl g m = refused Rest (bare StageCheck) (held page arrow None) bs may may' sl g (nothing_gained may may' m.gain) refl
rest_by page arrow (Some d) bs may may' sl g m = rest_out d.view d.plan d.place d.stage page arrow bs may may' sl g m

pub rest_keeps : (h : Held) (bs : List ℕ) (may may' : Lists) (sl : Slate) → Good h bs may sl → Moves h bs Rest may may'
    → Outcome (book sl h.draft bs) Rest (answer_of h bs Rest) (held_of h bs Rest) bs may'
rest_keeps h = rest_by h.page h.arrow h.draft

-- scrap

scrapped : (l : Layout) (arrow page : ℕ) (bs : List ℕ) (may may' : Lists) (sl : Slate) → Less may' may → length bs < 2 ^ 31 → arrow ≡ sl.turn → Paged page l bs sl → Homed page l bs may sl
    → At (book (noted sl None) None bs) (held (Some l) arrow None) bs may'
scrapped l arrow page bs may may' sl less short t p h = record {
  draft = refl;
  bytes = refl;
  good = record {
    short = short;
    turn = t;
    shown = (page, record { shows = p.shows; picture = p.picture }, (let h' = homed_less less h in record { opens = h'.opens; ledger = h'.ledger; firm = h'.firm }));
  };
}

scrap_out : (v : View) (plan : Plan) (place : ℕ) (g : Stage) (page : Option Layout) (arrow : ℕ) (bs : List ℕ) (may may' : Lists) (sl : Slate) → Good (held page arrow (Some (dr v plan place g))) bs may sl
    → Moves (held page arrow (Some (dr v plan place g))) bs Scrap may may'
    → Outcome (book sl (Some (dr v plan place g)) bs) Scrap (answer_of (held page arrow (Some (dr v plan place g))) bs Scrap) (held_of (held page arrow (Some (dr v plan place g))) bs Scrap) bs may'
scrap_out v plan place (Begun j) (Some l) arrow bs may may' sl g m = record { right = refl; at = scrapped l arrow g.shown.0 bs may may' sl (nothing_gained may may' m.gain) g.short g.turn g.shown.1 g.shown.2.0 }
scrap_out v plan place Carried (Some l) arrow bs may may' sl g m = record { right = refl; at = scrapped l arrow g.shown.0 bs may may' sl (nothing_gained may may' m.gain) g.short g.turn g.shown.1 g.shown.2.0 }
scrap_out v plan place Rested (Some l) arrow bs may may' sl g m = record { right = refl; at = scrapped l arrow g.shown.0 bs may may' sl (nothing_gained may may' m.gain) g.short g.turn g.shown.1 g.shown.2.0 }
scrap_out v plan place (Begun j) None arrow bs may may' sl g m = closed_never (dr v plan place (Begun j)) bs sl g.shown
scrap_out v plan place Carried None arrow bs may may' sl g m = closed_never (dr v plan place Carried) bs sl g.shown
scrap_out v plan place Rested None arrow bs may may' sl g m = closed_never (dr v plan place Rested) bs sl g.shown
scrap_out v plan place Switched page arrow bs may may' sl g m = refused Scrap (bare StageCheck) (held page arrow (Some (dr v plan place Switched))) bs may may' sl g (nothing_gained may may' m.gain) refl

scrap_by : (page : Option Layout) (arrow : ℕ) (draft : Option Draft) (bs : List ℕ) (may may' : Lists) (sl : Slate) → Good (held page arrow draft) bs may sl
    → Moves (held page arrow draft) bs Scrap may may'
    → Outcome (book sl draft bs) Scrap (answer_of (held page arrow draft) bs Scrap) (held_of (held page arrow draft) bs Scrap) bs may'
scrap_by page arrow None bs may may' sl g m = refused Scrap (bare StageCheck) (held page arrow None) bs may may' sl g (nothing_gained may may' m.gain) refl
scrap_by page arrow (Some d) bs may may' sl g m = scrap_out d.view d.plan d.place d.stage page arrow bs may may' sl g m

pub scrap_keeps : (h : Held) (bs : List ℕ) (may may' : Lists) (sl : Slate) → Good h bs may sl → Moves h bs Scrap may may'
    → Outcome (book sl h.draft bs) Scrap (answer_of h bs Scrap) (held_of h bs Scrap) bs may'
scrap_keeps h = scrap_by h.page h.arrow h.draft
