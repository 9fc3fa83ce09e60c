-- `switch` and `keep` keep what holds between calls.
use Rattle.std.proofs.Common.{◌≡◌, ℕ, zero, suc, ◌+◌, ◌^◌, ◌<◌, ◌≤◌, false, cond, eqb, List, length, Some, None, Ok, Err, Option, Result, sym, refl, ap, ◌∙◌, subst, inl, inr, ⊎_elim, arith}
use Rattle.std.proofs.lemmas.Bool.Decides.{nat_tests}
use Rattle.faults.specs.declared.fault.Fault.{Fault}
use Rattle.faults.specs.declared.fault.Check.TheVariants.{Stage as StageCheck}
use Rattle.faults.specs.Faults.{bare, then}
use Rattle.octets.specs.Rows.{byte, Holds}
use Rattle.octets.specs.Sectors.{patched, Lists}
use Rattle.octets.proofs.Patches.{length_patched}
use Rattle.raster.specs.Picture.{Picture, Sound as SoundPicture}
use Rattle.raster.specs.Turns.{composed}
use Rattle.pages.specs.declared.layout.Layout.{Layout}
use Rattle.pages.specs.Opening.{opened}
use Rattle.stored.specs.Pixels.{picture_of, Shown, shown}
use Rattle.roundtrip.specs.Laws.{OpensAs}
use Rattle.plans.specs.declared.plan.Plan.{Plan}
use Rattle.plans.specs.declared.view.View.{View}
use Rattle.plans.specs.Views.{viewed}
use Rattle.plans.specs.Outlines.{block_layout}
use Rattle.plans.specs.Blocks.{header}
use Rattle.drafts.specs.declared.state.Draft.{Draft}
use Rattle.drafts.specs.declared.state.Stage.{Stage}
use Rattle.drafts.specs.declared.state.Stage.TheVariants.{Begun, Carried, Rested, Switched}
use Rattle.drafts.specs.declared.call.Call.TheVariants.{Switch, Keep}
use Rattle.drafts.specs.declared.call.Reply.TheVariants.{Done}
use Rattle.drafts.specs.Steps.{Held, held, Write, write, answer_of, held_of, bytes_of, ok_of, size_of, block_of}
use Rattle.law.specs.Slate.{Slate, listed, picture_by, turn_by, is_page, keeping}
use Rattle.law.specs.Book.{book}
use Rattle.law.proofs.Firm.{Firm, Gains, in_lays, firm_as, firm_after, firm_settled}
use Rattle.law.proofs.Pages.{only_page, shown_of_lem, other_page}
use Rattle.law.proofs.Headers.{picture_past}
use Rattle.law.proofs.Blocks.{Fits, seen_outline, length_block_of, draft_opens}
use Rattle.law.proofs.Good.{Ledger, Paged, Drafted, Rests, Moved, Out, Showing, Good, At, sound_is}
use Rattle.law.proofs.Founds.{dr, length_header, header_held, header_past, firm_first}
use Rattle.law.proofs.Outcomes.{Moves, Outcome, nothing_gained, refused}
use Rattle.law.proofs.Opens.{drafted_staged, closed_never}

-- switch

module _ (v : View) (plan : Plan) (place page : ℕ) (l : Layout) (bs : List ℕ) (may may' : Lists) (sl : Slate) (p : Paged page l bs sl) (o : Out Rested (dr v plan place Rested) page l bs may sl)
    (gain : Gains bs (Some (write 0 (header plan.endian place))) may may') where
  abbrev d : Draft
  d = dr v plan place Rested

  abbrev moved : Draft
  moved = dr v plan place Switched

  abbrev w : Option Write
  w = Some (write 0 (header plan.endian place))

  abbrev cs : List ℕ
  cs = patched bs 0 (header plan.endian place)

  fits : Fits (length bs) (dr v plan place Rested) sl.picture
  fits = o.2.fits

  room : 8 ≤ length bs
  room = let a = fits.first in let b = fits.ends in omega arith

  long : length cs ≡ length bs
  long = length_patched bs 0 (header plan.endian place) (let n = length_header plan.endian place in let r = room in omega arith)

  past : (i : ℕ) → 8 ≤ i → byte cs i ≡ byte bs i
  past i h = header_past bs plan.endian place i h

  zero_page : page ≡ 0
  zero_page = only_page bs page page l l o.0.opens o.1.one o.0.opens

  pub led_over : Moved bs l (dr v plan place Switched) cs may' sl
  led_over = record {
    was = subst (λ q. opened bs q ≡ Ok l) zero_page o.0.opens;
    one = o.1.one;
    picture = p.picture;
    long = long;
    leads = header_held bs plan.endian place room;
    first = λ x k. ⊎_elim (λ h. inl (λ i m n. firm_first bs may x i m (o.0.firm i n) h)) (λ h. inr (in_lays bs 0 (header plan.endian place) 0 x h)) (gain 0 x k);
    firm = λ i a m. firm_after bs bs may may' w i gain (past i (omega arith)) (o.0.firm i m);
    others = λ q h. o.0.ledger q ∙ other_page bs page q l o.0.opens o.1.one h;
  }

  pub drafted_over : Drafted (dr v plan place Switched) (size_of (dr v plan place Switched) sl.picture) cs sl
  drafted_over =
      drafted_staged d Switched (size_of d sl.picture) cs sl (record {
        note = o.2.note;
        fits = subst (λ k. Fits k d sl.picture) (sym long) fits;
        written = λ i h. past (place + i) (let a = fits.first in omega arith) ∙ o.2.written i h;
      })

  pub rests_over : Rests (dr v plan place Switched) cs may' sl
  rests_over i a b =
      let e = past i (let k = fits.first in omega arith) in
      firm_after bs cs may may' w i gain refl (firm_as bs cs may i (sym e) (o.3 i a b))

  pub switched : (arrow : ℕ) → length bs < 2 ^ 31 → arrow ≡ sl.turn
      → Outcome (book sl (Some (dr v plan place Rested)) bs) Switch (Ok Done) (held (Some l) arrow (Some (dr v plan place Switched))) cs may'
  switched arrow short t = record {
    right = refl;
    at = record {
      draft = refl;
      bytes = refl;
      good = record {
        short = (let e = long in omega arith);
        turn = t;
        shown = (
          page,
          record { shows = p.shows; picture = picture_past bs cs page l o.0.opens long (λ i h. sym (past i h)) ∙ p.picture },
          (zero_page, (bs, led_over), drafted_over, rests_over),
        );
      };
    };
  }

switch_out : (v : View) (plan : Plan) (place : ℕ) (g : Stage) (page : Option Layout) (arrow : ℕ) (bs : List ℕ) (may may' : Lists) (sl : Slate) → Good (held page arrow (Some (dr v plan place g))) bs may sl
    → Moves (held page arrow (Some (dr v plan place g))) bs Switch may may'
    → Outcome (book sl (Some (dr v plan place g)) bs) Switch (answer_of (held page arrow (Some (dr v plan place g))) bs Switch) (held_of (held page arrow (Some (dr v plan place g))) bs Switch)
    (bytes_of (held page arrow (Some (dr v plan place g))) bs Switch) may'
switch_out v plan place Rested (Some l) arrow bs may may' sl g m = switched v plan place g.shown.0 l bs may may' sl g.shown.1 g.shown.2 m.gain arrow g.short g.turn
switch_out v plan place Rested None arrow bs may may' sl g m = closed_never (dr v plan place Rested) bs sl g.shown
switch_out v plan place (Begun j) page arrow bs may may' sl g m = refused Switch (bare StageCheck) (held page arrow (Some (dr v plan place (Begun j)))) bs may may' sl g (nothing_gained may may' m.gain) refl
switch_out v plan place Carried page arrow bs may may' sl g m = refused Switch (bare StageCheck) (held page arrow (Some (dr v plan place Carried))) bs may may' sl g (nothing_gained may may' m.gain) refl
switch_out v plan place Switched page arrow bs may may' sl g m = refused Switch (bare StageCheck) (held page arrow (Some (dr v plan place Switched))) bs may may' sl g (nothing_gained may may' m.gain) refl

switch_by : (page : Option Layout) (arrow : ℕ) (draft : Option Draft) (bs : List ℕ) (may may' : Lists) (sl : Slate) → Good (held page arrow draft) bs may sl
    → Moves (held page arrow draft) bs Switch may may'
    → Outcome (book sl draft bs) Switch (answer_of (held page arrow draft) bs Switch) (held_of (held page arrow draft) bs Switch) (bytes_of (held page arrow draft) bs Switch) may'
switch_by page arrow None bs may may' sl g m = refused Switch (bare StageCheck) (held page arrow None) bs may may' sl g (nothing_gained may may' m.gain) refl
switch_by page arrow (Some d) bs may may' sl g m = switch_out d.view d.plan d.place d.stage page arrow bs may may' sl g m

pub switch_keeps : (h : Held) (bs : List ℕ) (may may' : Lists) (sl : Slate) → Good h bs may sl → Moves h bs Switch may may'
    → Outcome (book sl h.draft bs) Switch (answer_of h bs Switch) (held_of h bs Switch) (bytes_of h bs Switch) may'
switch_keeps h = switch_by h.page h.arrow h.draft

-- keep

-- the ledger once the page shown, which is the only one, is kept
ledger_kept : (bs : List ℕ) (sl : Slate) (x : Shown) → sl.shows ≡ Some 0 → shown bs 0 ≡ Ok x → ◌≡◌ {A = Shown} (record { picture = picture_by sl.note sl.picture; orientation = 1 }) x
    → ((q : ℕ) → 0 < q → sl.ledger q ≡ None) → ((q : ℕ) → 0 < q → listed (shown bs q) ≡ None) → Ledger bs (keeping sl)
ledger_kept bs sl x e f same others none zero =
    ap (λ o. cond (is_page o 0) (Some (record { picture = picture_by sl.note sl.picture; orientation = 1 })) (sl.ledger 0)) e ∙ ap Some same ∙ sym (ap listed f)
ledger_kept bs sl x e f same others none (suc q) =
    let y : Option Shown = Some (record { picture = picture_by sl.note sl.picture; orientation = 1 }) in
    let ne : eqb (suc q) 0 ≡ false = grind (arith, nat_tests) in
    ap (λ o. cond (is_page o (suc q)) y (sl.ledger (suc q))) e ∙ ap (λ b. cond b y (sl.ledger (suc q))) ne ∙ others (suc q) (omega arith) ∙ sym (none (suc q) (omega arith))

abbrev picture_in_lem : Result Shown Fault → Picture → Picture
picture_in_lem (Ok x) p = x.picture
picture_in_lem (Err f) p = p

module _ (v : View) (plan : Plan) (place page : ℕ) (l : Layout) (arrow : ℕ) (bs : List ℕ) (may' : Lists) (sl : Slate) (short : length bs < 2 ^ 31) (turn : arrow ≡ sl.turn)
    (p : Paged page l bs sl) (zero_page : page ≡ 0) (old : List ℕ) (may : Lists) (mv : Moved old l (dr v plan place Switched) bs may sl)
    (x : Drafted (dr v plan place Switched) (size_of (dr v plan place Switched) sl.picture) bs sl) (firm : (i : ℕ) → Firm bs may' i) where
  abbrev kept : Draft
  kept = dr v plan place Switched

  sound : SoundPicture sl.picture
  sound = sound_is old 0 l sl.picture mv.was mv.picture

  here : Holds bs place (block_of (dr v plan place Switched) sl.picture)
  here =
      let n = length_block_of kept sl.picture sound x.fits.shows in
      let e = x.fits.ends in
      record { fits = omega arith; same = λ i h. x.written i (omega arith) }

  opens : OpensAs bs (viewed sl.picture v) (seen_outline (dr v plan place Switched) sl.picture) place
  opens = draft_opens bs kept sl.picture sound x.fits short here mv.leads

  abbrev new : Layout
  new = block_layout (seen_outline (dr v plan place Switched) sl.picture) place

  seen_is : viewed sl.picture v ≡ picture_by sl.note sl.picture
  seen_is = sym (ap (λ n. picture_by n sl.picture) x.note)

  new_picture : picture_of bs new ≡ viewed sl.picture v
  new_picture = ap (λ r. picture_in_lem r sl.picture) (sym (shown_of_lem bs 0 new opens.page) ∙ opens.picture)

  shows_zero : sl.shows ≡ Some 0
  shows_zero = p.shows ∙ ap Some zero_page

  others_none : (q : ℕ) → 0 < q → listed (shown bs q) ≡ None
  others_none q h = ap (λ r. listed (then r (λ m. Ok (record { picture = picture_of bs m; orientation = m.orientation })))) (opens.others q h)

  pub kept_at : At (book (keeping sl) None bs) (held (ok_of (opened bs 0)) (composed arrow v.turn) None) bs may'
  kept_at = record {
    draft = refl;
    bytes = refl;
    good = record {
      short = short;
      turn = ap (λ t. composed t v.turn) turn ∙ sym (ap (λ n. turn_by n sl.turn) x.note);
      shown = subst (λ (r : Result Layout Fault). Showing (ok_of r) None bs may' (keeping sl)) (sym opens.page) (
        0,
        record { shows = shows_zero; picture = new_picture ∙ seen_is },
        record {
          opens = opens.page;
          ledger = ledger_kept bs sl (record { picture = viewed sl.picture v; orientation = 1 }) shows_zero opens.picture (λ i. record { picture = sym seen_is i; orientation = 1 }) mv.others others_none;
          firm = λ i _. firm i;
        },
      );
    };
  }

keep_out : (v : View) (plan : Plan) (place : ℕ) (g : Stage) (page : Option Layout) (arrow : ℕ) (bs : List ℕ) (may may' : Lists) (sl : Slate) → Good (held page arrow (Some (dr v plan place g))) bs may sl
    → Moves (held page arrow (Some (dr v plan place g))) bs Keep may may'
    → Outcome (book sl (Some (dr v plan place g)) bs) Keep (answer_of (held page arrow (Some (dr v plan place g))) bs Keep) (held_of (held page arrow (Some (dr v plan place g))) bs Keep) bs may'
keep_out v plan place Switched (Some l) arrow bs may may' sl g m =
    let s = g.shown in
    let o = s.2 in
    record {
      right = refl;
      at = kept_at v plan place s.0 l arrow bs may' sl g.short g.turn s.1 o.0 o.1.0 may o.1.1 o.2
          (firm_settled bs may' (m.settled refl));
    }
keep_out v plan place Switched None arrow bs may may' sl g m = closed_never (dr v plan place Switched) bs sl g.shown
keep_out v plan place (Begun j) page arrow bs may may' sl g m = refused Keep (bare StageCheck) (held page arrow (Some (dr v plan place (Begun j)))) bs may may' sl g (nothing_gained may may' m.gain) refl
keep_out v plan place Carried page arrow bs may may' sl g m = refused Keep (bare StageCheck) (held page arrow (Some (dr v plan place Carried))) bs may may' sl g (nothing_gained may may' m.gain) refl
keep_out v plan place Rested page arrow bs may may' sl g m = refused Keep (bare StageCheck) (held page arrow (Some (dr v plan place Rested))) bs may may' sl g (nothing_gained may may' m.gain) refl

keep_by : (page : Option Layout) (arrow : ℕ) (draft : Option Draft) (bs : List ℕ) (may may' : Lists) (sl : Slate) → Good (held page arrow draft) bs may sl
    → Moves (held page arrow draft) bs Keep may may'
    → Outcome (book sl draft bs) Keep (answer_of (held page arrow draft) bs Keep) (held_of (held page arrow draft) bs Keep) bs may'
keep_by page arrow None bs may may' sl g m = refused Keep (bare StageCheck) (held page arrow None) bs may may' sl g (nothing_gained may may' m.gain) refl
keep_by page arrow (Some d) bs may may' sl g m = keep_out d.view d.plan d.place d.stage page arrow bs may may' sl g m

pub keep_keeps : (h : Held) (bs : List ℕ) (may may' : Lists) (sl : Slate) → Good h bs may sl → Moves h bs Keep may may'
    → Outcome (book sl h.draft bs) Keep (answer_of h bs Keep) (held_of h bs Keep) bs may'
keep_keeps h = keep_by h.page h.arrow h.draft
