-- `carry` keeps what holds between calls.
use Rattle.std.proofs.Common.{◌≡◌, ℕ, zero, suc, ◌+◌, ◌-◌, ◌*◌, ◌^◌, ◌<◌, ◌≤◌, Bool, true, false, cond, ltb, ◌⊎◌, List, length, Some, None, Ok, Option, sym, refl, ap, ◌∙◌, subst, inl, inr, ⊎_elim, arith}
use Rattle.std.proofs.lemmas.Bool.{cases_lt, ltb-true, ltb-false}
use Rattle.faults.specs.declared.fault.Check.TheVariants.{Stage as StageCheck}
use Rattle.faults.specs.Faults.{bare}
use Rattle.octets.specs.Rows.{byte}
use Rattle.octets.specs.Sectors.{sector, patched, Lists}
use Rattle.octets.proofs.Patches.{length_patched, length_sector, get_or_sector, get_or_patched_in}
use Rattle.raster.specs.Picture.{Picture, Sound as SoundPicture}
use Rattle.pages.specs.declared.layout.Layout.{Layout}
use Rattle.pages.specs.Opening.{opened}
use Rattle.pages.specs.Extents.{Span, extents, Covered}
use Rattle.stored.specs.Pixels.{picture_of}
use Rattle.places.specs.Lowest.{Clear}
use Rattle.rules.proofs.Locality.{page_local, page_stands}
use Rattle.plans.specs.declared.plan.Plan.{Plan}
use Rattle.plans.specs.declared.view.View.{View}
use Rattle.drafts.specs.declared.state.Draft.{Draft}
use Rattle.drafts.specs.declared.state.Stage.{Stage}
use Rattle.drafts.specs.declared.state.Stage.TheVariants.{Begun, Carried, Rested, Switched}
use Rattle.drafts.specs.declared.call.Call.TheVariants.{Carry}
use Rattle.drafts.specs.declared.call.Reply.TheVariants.{Number}
use Rattle.drafts.specs.Steps.{Held, held, write, answer_of, held_of, bytes_of, sectors, size_of, block_of, staged, next_stage}
use Rattle.law.specs.Slate.{Slate, listed}
use Rattle.law.specs.Book.{book}
use Rattle.law.proofs.Firm.{Gains, firm_as, firm_after}
use Rattle.law.proofs.Pages.{Matters, only_page, shown_of_lem, other_page, SamePage, same_page}
use Rattle.law.proofs.Blocks.{Fits, length_block_of}
use Rattle.law.proofs.Good.{Ledger, Paged, Homed, Drafted, Lone, Out, Good, sound_is}
use Rattle.law.proofs.Founds.{dr, some_carry, carry_outside, carry_within, carry_apart}
use Rattle.law.proofs.Outcomes.{Moves, Outcome, nothing_gained, refused}
use Rattle.law.proofs.Opens.{drafted_staged, closed_never}

-- the ledger, where the only page is as it was
ledger_still : (bs cs : List ℕ) (page : ℕ) (l : Layout) (sl : Slate) → Ledger bs sl → opened bs page ≡ Ok l → l.directories ≡ 1 → SamePage bs cs page l → Ledger cs sl
ledger_still bs cs page l sl led e one s zero =
    let z : page ≡ 0 = only_page bs page page l l e one e in
    let old : opened bs 0 ≡ Ok l = subst (λ q. opened bs q ≡ Ok l) z e in
    let new : opened cs 0 ≡ Ok l = subst (λ q. opened cs q ≡ Ok l) z s.opens in
    led 0 ∙ ap listed (shown_of_lem bs 0 l old ∙ ap (λ p. Ok (record { picture = p; orientation = l.orientation })) (sym s.picture) ∙ sym (shown_of_lem cs 0 l new))
ledger_still bs cs page l sl led e one s (suc q) =
    led (suc q) ∙ other_page bs page (suc q) l e one (omega arith) ∙ sym (other_page cs page (suc q) l s.opens one (omega arith))

-- with sector j of its block written
module _ (v : View) (plan : Plan) (place j page : ℕ) (l : Layout) (arrow : ℕ) (bs : List ℕ) (may may' : Lists) (sl : Slate) (p : Paged page l bs sl) (o : Out (Begun j) (dr v plan place (Begun j)) page l bs may sl) where
  abbrev d : Draft
  d = dr v plan place (Begun j)

  abbrev z : Picture
  z = sl.picture

  abbrev size : ℕ
  size = size_of (dr v plan place (Begun j)) sl.picture

  abbrev given : List ℕ
  given = sector (block_of (dr v plan place (Begun j)) sl.picture) j

  abbrev cs : List ℕ
  cs = patched bs (place + 512 * j) (sector (block_of (dr v plan place (Begun j)) sl.picture) j)

  sound : SoundPicture sl.picture
  sound = sound_is bs page l sl.picture o.0.opens p.picture

  some : 512 * j < size
  some = some_carry size j o.3

  within : 512 * j + length given ≤ 512 * j + (size - 512 * j)
  within = carry_within d z j sound o.2.fits.shows

  long : length cs ≡ length bs
  long = length_patched bs (place + 512 * j) given (let e = o.2.fits.ends in let a = some in let b = within in omega arith)

  same : (i : ℕ) → Matters bs l i → byte cs i ≡ byte bs i
  same = carry_apart l d bs sl j sound o.1 o.2.fits o.3

  still : SamePage bs cs page l
  still = same_page bs cs page l o.0.opens long same

  extents_same : extents cs l ≡ extents bs l
  extents_same = (page_local bs cs l (page_stands bs page l o.0.opens) long (λ i c. sym (same i (λ _. inr c)))).1

  -- byte i of the draft
  written : (i : ℕ) → i < 512 * (j + 1) → i < size → byte cs (place + i) ≡ byte (block_of d z) i
  written i low high = ⊎_elim before here (cases_lt i (512 * j))
    where
      before : i < 512 * j → byte cs (place + i) ≡ byte (block_of d z) i
      before h = carry_outside d z bs j (place + i) sound o.2.fits o.3 (inl (omega arith)) ∙ o.2.written i h

      here : 512 * j ≤ i → byte cs (place + i) ≡ byte (block_of d z) i
      here h =
          let n = length_block_of d z sound o.2.fits.shows in
          let m = length_sector (block_of d z) j in
          let e = o.2.fits.ends in
          let r : place + i - (place + 512 * j) ≡ i - 512 * j = omega arith in
          let w : 512 * j + (i - 512 * j) ≡ i = omega arith in
          get_or_patched_in bs (place + 512 * j) given (place + i) 0 (omega arith) (omega arith) (omega arith)
          ∙ ap (byte given) r ∙ get_or_sector (block_of d z) j (i - 512 * j) 0 (omega arith) ∙ ap (byte (block_of d z)) w

  drafted : (n : ℕ) → n ≤ 512 * (j + 1) → n ≤ size → Drafted d n cs sl
  drafted n low high = record {
    note = o.2.note;
    fits = subst (λ k. Fits k d z) (sym long) o.2.fits;
    written = λ i h. written i (omega arith) (omega arith);
  }

  module _ (gain : Gains bs (Some (write (place + 512 * j) (sector (block_of (dr v plan place (Begun j)) sl.picture) j))) may may') where
    homed : Homed page l cs may' sl
    homed = record {
      opens = still.opens;
      ledger = ledger_still bs cs page l sl o.0.ledger o.0.opens o.1.one still;
      firm = λ i m.
          let m' : Matters bs l i = subst (λ (ss : List Span). l.directories ≡ 1 → (i < 8) ⊎ Covered ss i) extents_same m in
          firm_after bs cs may may' (Some (write (place + 512 * j) given)) i gain refl (firm_as bs cs may i (sym (same i m')) (o.0.firm i m'));
    }

    lone : Lone l d cs sl
    lone = record { one = o.1.one; clear = subst (λ (ss : List Span). Clear ss place size) (sym extents_same) o.1.clear }

    next : (q : Bool) → ltb (j + 1) (sectors size) ≡ q → Out (cond q (Begun (j + 1)) Carried) (staged d (cond q (Begun (j + 1)) Carried)) page l cs may' sl
    next true e =
        let h = ltb-true (j + 1) (sectors size) e in
        (homed, record { one = lone.one; clear = lone.clear }, drafted_staged d (Begun (j + 1)) (512 * (j + 1)) cs sl (drafted (512 * (j + 1)) (omega arith) (let k = some_carry size (j + 1) h in omega arith)), h)
    next false e =
        let h = ltb-false (j + 1) (sectors size) e in
        (homed, record { one = lone.one; clear = lone.clear }, drafted_staged d Carried size cs sl (drafted size (omega arith) (omega arith)))

    paged : Paged page l cs sl
    paged = record { shows = p.shows; picture = still.picture ∙ p.picture }

    pub carried : length bs < 2 ^ 31 → arrow ≡ sl.turn
        → Outcome (book sl (Some (dr v plan place (Begun j))) bs) Carry (Ok (Number (sectors size - (j + 1)))) (held (Some l) arrow (Some (staged (dr v plan place (Begun j)) (next_stage (sectors size) j)))) cs may'
    carried short t = record {
      right = refl;
      at = record {
        draft = refl;
        bytes = refl;
        good = record { short = (let e = long in omega arith); turn = t; shown = (page, paged, next (ltb (j + 1) (sectors size)) refl) };
      };
    }

-- by the picture in the bytes, which is the slate's
carry_begun : (v : View) (plan : Plan) (place j : ℕ) (l : Layout) (arrow : ℕ) (bs : List ℕ) (may may' : Lists) (sl : Slate) → Good (held (Some l) arrow (Some (dr v plan place (Begun j)))) bs may sl
    → (q : Picture) → q ≡ sl.picture → Gains bs (Some (write (place + 512 * j) (sector (block_of (dr v plan place (Begun j)) q) j))) may may'
    → Outcome (book sl (Some (dr v plan place (Begun j))) bs) Carry (Ok (Number (sectors (size_of (dr v plan place (Begun j)) q) - (j + 1))))
    (held (Some l) arrow (Some (staged (dr v plan place (Begun j)) (next_stage (sectors (size_of (dr v plan place (Begun j)) q)) j))))
    (patched bs (place + 512 * j) (sector (block_of (dr v plan place (Begun j)) q) j)) may'
carry_begun v plan place j l arrow bs may may' sl g q e =
    let d : Draft = dr v plan place (Begun j) in
    subst (λ (q : Picture). Gains bs (Some (write (place + 512 * j) (sector (block_of d q) j))) may may'
    → Outcome (book sl (Some d) bs) Carry (Ok (Number (sectors (size_of d q) - (j + 1)))) (held (Some l) arrow (Some (staged d (next_stage (sectors (size_of d q)) j)))) (patched bs (place + 512 * j) (sector (block_of d q) j)) may')
    (sym e) (λ gain. carried v plan place j g.shown.0 l arrow bs may may' sl g.shown.1 g.shown.2 gain g.short g.turn)

carry_out : (v : View) (plan : Plan) (place : ℕ) (g : Stage) (page : Option Layout) (arrow : ℕ) (bs : List ℕ) (may may' : Lists) (sl : Slate) → Good (held page arrow (Some (dr v plan place g))) bs may sl
    → Moves (held page arrow (Some (dr v plan place g))) bs Carry may may'
    → Outcome (book sl (Some (dr v plan place g)) bs) Carry (answer_of (held page arrow (Some (dr v plan place g))) bs Carry) (held_of (held page arrow (Some (dr v plan place g))) bs Carry)
    (bytes_of (held page arrow (Some (dr v plan place g))) bs Carry) may'
carry_out v plan place (Begun j) (Some l) arrow bs may may' sl g m = carry_begun v plan place j l arrow bs may may' sl g (picture_of bs l) g.shown.1.picture m.gain
carry_out v plan place (Begun j) None arrow bs may may' sl g m = closed_never (dr v plan place (Begun j)) bs sl g.shown
carry_out v plan place Carried page arrow bs may may' sl g m = refused Carry (bare StageCheck) (held page arrow (Some (dr v plan place Carried))) bs may may' sl g (nothing_gained may may' m.gain) refl
carry_out v plan place Rested page arrow bs may may' sl g m = refused Carry (bare StageCheck) (held page arrow (Some (dr v plan place Rested))) bs may may' sl g (nothing_gained may may' m.gain) refl
carry_out v plan place Switched page arrow bs may may' sl g m = refused Carry (bare StageCheck) (held page arrow (Some (dr v plan place Switched))) bs may may' sl g (nothing_gained may may' m.gain) refl

carry_by : (page : Option Layout) (arrow : ℕ) (draft : Option Draft) (bs : List ℕ) (may may' : Lists) (sl : Slate) → Good (held page arrow draft) bs may sl
    → Moves (held page arrow draft) bs Carry may may'
    → Outcome (book sl draft bs) Carry (answer_of (held page arrow draft) bs Carry) (held_of (held page arrow draft) bs Carry) (bytes_of (held page arrow draft) bs Carry) may'
carry_by page arrow None bs may may' sl g m = refused Carry (bare StageCheck) (held page arrow None) bs may may' sl g (nothing_gained may may' m.gain) refl
carry_by page arrow (Some d) bs may may' sl g m = carry_out d.view d.plan d.place d.stage page arrow bs may may' sl g m

pub carry_keeps : (h : Held) (bs : List ℕ) (may may' : Lists) (sl : Slate) → Good h bs may sl → Moves h bs Carry may may'
    → Outcome (book sl h.draft bs) Carry (answer_of h bs Carry) (held_of h bs Carry) (bytes_of h bs Carry) may'
carry_keeps h = carry_by h.page h.arrow h.draft
