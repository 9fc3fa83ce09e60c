-- `begin` keeps what holds between calls.
use Rattle.std.proofs.Common.{◌≡◌, ℕ, ◌<◌, ◌≤◌, true, not, eqb, ltb, List, length, Some, None, Ok, Err, Option, Result, sym, refl, ap, ◌∙◌, subst, arith}
use Rattle.std.proofs.lemmas.Bool.{not-false, eqb-true, ltb-false}
use Rattle.faults.specs.declared.fault.Fault.{Fault}
use Rattle.faults.specs.declared.fault.Check.TheVariants.{Busy, Closed as ClosedCheck, Pages, View as ViewCheck, Many}
use Rattle.faults.specs.Faults.{bare, then}
use Rattle.faults.specs.Faults as faults
use Rattle.octets.specs.Sectors.{Lists}
use Rattle.raster.specs.Picture.{Picture}
use Rattle.links.proofs.Chaining.{passed, then_was}
use Rattle.pages.specs.declared.layout.Layout.{Layout}
use Rattle.pages.specs.Extents.{extents}
use Rattle.stored.specs.Pixels.{picture_of}
use Rattle.places.specs.Places.{place_of}
use Rattle.places.specs.Lowest.{Suits, Clear}
use Rattle.places.proofs.Apart.{place_suits}
use Rattle.plans.specs.declared.outline.Outline.{Outline}
use Rattle.plans.specs.declared.plan.Plan.{Plan}
use Rattle.plans.specs.declared.view.View.{View}
use Rattle.plans.specs.Views.{shows_in}
use Rattle.plans.specs.Outlines.{segments_in, block_size}
use Rattle.drafts.specs.declared.state.Draft.{Draft}
use Rattle.drafts.specs.declared.call.Call.TheVariants.{Begin}
use Rattle.drafts.specs.Steps.{Held, held, answer_of, held_of, spaced, sized_for, room_for, place_by, draft_at, begin_answer, begin_held, outline_by, size_of, width_of, height_of, ok_of}
use Rattle.law.specs.Slate.{Slate}
use Rattle.law.specs.Book.{book, laid_out, place_in, begun, due}
use Rattle.law.proofs.Blocks.{Fits}
use Rattle.law.proofs.Good.{Paged, Homed, Good, Less, homed_less}
use Rattle.law.proofs.Outcomes.{Moves, Outcome, nothing_gained, refused}

-- a page for whose draft there is room
record Room (bs : List ℕ) (l : Layout) (v : View) (plan : Plan) (place : ℕ) : Type 0 where
  one : l.directories ≡ 1
  shows : shows_in (width_of l) (height_of l) v ≡ true
  few : segments_in (outline_by v plan l.kind) ≤ 1024
  suits : Suits bs l (block_size (outline_by v plan l.kind)) place

sized_known : (l : Layout) (v : View) (plan : Plan) (size : ℕ) → sized_for l v plan ≡ Ok size
    → (shows_in (width_of l) (height_of l) v ≡ true) × (segments_in (outline_by v plan l.kind) ≤ 1024) × (block_size (outline_by v plan l.kind) ≡ size)
unfolding sized_for
sized_known l v plan size e =
    let q : Outline = outline_by v plan l.kind in
    let a = passed (not (shows_in (width_of l) (height_of l) v)) (bare ViewCheck) (faults.refused (ltb 1024 (segments_in q)) (bare Many) (Ok (block_size q))) size e in
    let b = passed (ltb 1024 (segments_in q)) (bare Many) (Ok (block_size q)) size a.1 in
    (not-false (shows_in (width_of l) (height_of l) v) a.0, ltb-false 1024 (segments_in q) b.0, same (block_size q) size b.1)
  where
    same : (m n : ℕ) → ◌≡◌ {A = Result ℕ Fault} (Ok m) (Ok n) → m ≡ n
    same m n z = cc

spaced_known : (o : Option ℕ) (place : ℕ) → spaced o ≡ Ok place → o ≡ Some place
spaced_known (Some n) place e = cc
spaced_known None place e = absurd (let z : ◌≡◌ {A = ℕ} 0 1 = cc in omega arith)

room_known : (bs : List ℕ) (l : Layout) (v : View) (plan : Plan) (place : ℕ) → room_for bs l v plan ≡ Ok place → Room bs l v plan place
unfolding room_for
room_known bs l v plan place e =
    let a = passed (not (eqb l.directories 1)) (bare Pages) (then (sized_for l v plan) (λ size. spaced (place_of bs l size))) place e in
    let b = then_was (sized_for l v plan) (λ size. spaced (place_of bs l size)) place a.1 in
    let s = sized_known l v plan b.0 b.1 in
    record {
      one = eqb-true l.directories 1 (not-false (eqb l.directories 1) a.0);
      shows = s.0;
      few = s.1;
      suits = subst (λ n. Suits bs l n place) (sym s.2) (place_suits bs l b.0 place (spaced_known (place_of bs l b.0) place b.2));
    }

size_some : (q : Outline) → 0 < block_size q
unfolding block_size
size_some q = omega arith

begin_shown : (v : View) (plan : Plan) (l : Layout) (arrow : ℕ) (bs : List ℕ) (may may' : Lists) (sl : Slate) (r : Result ℕ Fault) → room_for bs l v plan ≡ r → Good (held (Some l) arrow None) bs may sl
    → Less may' may → Outcome (book sl None bs) (Begin v plan) (begin_answer (picture_of bs l) v plan r) (begin_held (held (Some l) arrow None) v plan r) bs may'
begin_shown v plan l arrow bs may may' sl r e g less = by r e
  where
    p : Paged g.shown.0 l bs sl
    p = g.shown.1

    hm : Homed g.shown.0 l bs may' sl
    hm = homed_less less g.shown.2

    page_is : laid_out bs sl.shows ≡ Some l
    page_is = ap (laid_out bs) p.shows ∙ ap ok_of hm.opens

    place_is : place_in (book sl None bs) v plan ≡ room_for bs l v plan
    place_is = ap (place_by bs v plan None) page_is

    answer_is : begin_answer (picture_of bs l) v plan (room_for bs l v plan) ≡ due (book sl None bs) (Begin v plan)
    answer_is = λ i. begin_answer (p.picture i) v plan (sym place_is i)

    by : (r : Result ℕ Fault) → room_for bs l v plan ≡ r
        → Outcome (book sl None bs) (Begin v plan) (begin_answer (picture_of bs l) v plan r) (begin_held (held (Some l) arrow None) v plan r) bs may'
    by (Err f) e =
        refused (Begin v plan) f (held (Some l) arrow None) bs may may' sl g less (sym (ap (begin_answer (picture_of bs l) v plan) e) ∙ answer_is)
    by (Ok place) e =
        let k = room_known bs l v plan place e in
        let d : Draft = draft_at v plan place in
        let f : Fits (length bs) d (picture_of bs l) = record { shows = k.shows; few = k.few; whole = k.suits.multiple; first = k.suits.above; ends = k.suits.ends } in
        record {
          right = sym (ap (begin_answer (picture_of bs l) v plan) e) ∙ answer_is;
          at = record {
            draft = ap (λ r. begun v plan r None) (place_is ∙ e);
            bytes = refl;
            good = record {
              short = g.short;
              turn = g.turn;
              shown = (
                g.shown.0,
                record { shows = p.shows; picture = p.picture },
                (
                  record { opens = hm.opens; ledger = hm.ledger; firm = hm.firm },
                  record { one = k.one; clear = subst (λ (z : Picture). Clear (extents bs l) place (size_of d z)) p.picture k.suits.clear },
                  record { note = refl; fits = subst (Fits (length bs) d) p.picture f; written = λ i h. absurd (omega arith) },
                  (let z = size_some (outline_by v plan sl.picture.kind) in omega arith),
                ),
              );
            };
          };
        }

begin_by : (v : View) (plan : Plan) (page : Option Layout) (arrow : ℕ) (draft : Option Draft) (bs : List ℕ) (may may' : Lists) (sl : Slate) → Good (held page arrow draft) bs may sl
    → Moves (held page arrow draft) bs (Begin v plan) may may'
    → Outcome (book sl draft bs) (Begin v plan) (answer_of (held page arrow draft) bs (Begin v plan)) (held_of (held page arrow draft) bs (Begin v plan)) bs may'
begin_by v plan (Some l) arrow None bs may may' sl g m = begin_shown v plan l arrow bs may may' sl (room_for bs l v plan) refl g (nothing_gained may may' m.gain)
begin_by v plan None arrow None bs may may' sl g m =
    refused (Begin v plan) (bare ClosedCheck) (held None arrow None) bs may may' sl g (nothing_gained may may' m.gain)
    (sym (ap (λ o. begin_answer sl.picture v plan (place_by bs v plan None (laid_out bs o))) g.shown.shows))
begin_by v plan page arrow (Some d) bs may may' sl g m = refused (Begin v plan) (bare Busy) (held page arrow (Some d)) bs may may' sl g (nothing_gained may may' m.gain) refl

pub begin_keeps : (v : View) (plan : Plan) (h : Held) (bs : List ℕ) (may may' : Lists) (sl : Slate) → Good h bs may sl → Moves h bs (Begin v plan) may may'
    → Outcome (book sl h.draft bs) (Begin v plan) (answer_of h bs (Begin v plan)) (held_of h bs (Begin v plan)) bs may'
begin_keeps v plan h = begin_by v plan h.page h.arrow h.draft
