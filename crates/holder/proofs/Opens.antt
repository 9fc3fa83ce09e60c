-- What `open`, `begin` and `keep` come to.
use Rattle.std.proofs.Common.{◌≡◌, ℕ, true, false, cond, not, eqb, ltb, List, is_some, Some, None, Ok, Err, Option, Result, sym, refl, ap, ◌∙◌, true≢false}
use Rattle.octets.specs.Sectors.{Lists}
use Rattle.store.specs.Rules.{NoGain, Alone}
use Rattle.faults.specs.declared.fault.Check.TheVariants.{Busy, Pages, View as ViewCheck, Many}
use Rattle.faults.specs.declared.fault.Fault.{Fault}
use Rattle.faults.specs.Faults.{bare, refused, then}
use Rattle.links.proofs.Chaining.{passed}
use Rattle.pages.specs.declared.layout.Layout.{Layout}
use Rattle.pages.specs.Opening.{opened}
use Rattle.stored.specs.Pixels.{picture_of}
use Rattle.stored.specs.declared.page.Page.{Page}
use Rattle.raster.specs.Picture.{pixel_of}
use Rattle.raster.specs.Turns.{composed}
use Rattle.places.specs.Places.{place_of}
use Rattle.plans.specs.declared.plan.Plan.{Plan}
use Rattle.plans.specs.declared.view.View.{View}
use Rattle.plans.specs.Views.{shows_in}
use Rattle.plans.specs.Outlines.{segments_in, block_size}
use Rattle.drafts.specs.declared.state.Draft.{Draft}
use Rattle.drafts.specs.declared.state.Stage.TheVariants.{Switched}
use Rattle.drafts.specs.declared.call.Call.TheVariants.{Open, Begin, Keep}
use Rattle.drafts.specs.declared.call.Reply.TheVariants.{Done, Number}
use Rattle.drafts.specs.Mem.{Mem, Lawful, Quiet, Settled}
use Rattle.drafts.specs.Steps.{Held, held, world, Step, sized, shown_of, open_answer, open_held, spaced, sized_for, room_for, place_by, draft_at, begin_answer, begin_held, outline_by, sectors, width_of, height_of, stage_of, is_switched, allowed, ok_of, turn_of, kept_held}
use Rattle.drafts.proofs.Stepping.{quiet_step, settled_step, settled_quiet}
use Rattle.holder.specs.Worlds.{layout_in}

pub none_is : {A : Type 0} (o : Option A) → is_some o ≡ false → o ≡ None
none_is None e = refl
none_is (Some x) e = absurd (true≢false e)

-- a pixel of the page shown
pub pixel_in : (shown : Option Page) (p : Page) (bs : List ℕ) (x y : ℕ) (r : Result ℕ Fault) → shown ≡ Some p
    → r ≡ pixel_of (shown_of (layout_in (Some p)) bs) x y → r ≡ pixel_of (shown_of (layout_in shown) bs) x y
pixel_in shown p bs x y r e f = f ∙ ap (λ o. pixel_of (shown_of (layout_in o) bs) x y) (sym e)

-- a page opened on a store that was settled just before
pub opened_settled : (k n : Mem) (page : ℕ) (r : Result Page Fault) (bs : List ℕ) (may trail : Lists)
    → then r (λ p. Ok p.layout) ≡ opened bs page → n.seen ≡ bs → NoGain may n.may → NoGain trail n.trail
    → bs ≡ k.seen → Alone bs may → NoGain k.trail trail
    → Settled k n × (then r (λ p. Ok p.layout) ≡ opened k.seen page)
opened_settled k n page r bs may trail value same lists trails seen alone kept = (
  settled_quiet {m = record { seen = bs; may = may; trail = trail }}
      (record { seen = seen; may = alone; trail = kept })
      (record { seen = same; may = lists; trail = trails }),
  value ∙ ap (λ b. opened b page) seen,
)

-- a page that was opened, by its layout
pub opened_ok : (r : Result Page Fault) (q : Result Layout Fault) (p : Page) → then r (λ p. Ok p.layout) ≡ q → r ≡ Ok p → q ≡ Ok p.layout
opened_ok r q p e f = sym e ∙ ap (λ r. then r (λ p. Ok p.layout)) f

pub opened_err : (r : Result Page Fault) (q : Result Layout Fault) (g : Fault) → then r (λ p. Ok p.layout) ≡ q → r ≡ Err g → q ≡ Err g
opened_err r q g e f = sym e ∙ ap (λ r. then r (λ p. Ok p.layout)) f

pub open_ok : (h : Held) (page : ℕ) (l : Layout) {m n : Mem} → Lawful m → Settled m n → is_some h.draft ≡ false → opened m.seen page ≡ Ok l
    → Step (Open page) (world h m) (Ok (sized (picture_of m.seen l))) (world (held (Some l) l.orientation h.draft) n)
open_ok h page l {m} law q free e =
    settled_step (Open page) h (held (Some l) l.orientation h.draft) (Ok (sized (picture_of m.seen l))) law q
    (sym (ap (λ b. cond b (Err (bare Busy)) (open_answer m.seen (opened m.seen page))) free ∙ ap (open_answer m.seen) e))
    (sym (ap (λ b. cond b h (open_held h (opened m.seen page))) free ∙ ap (open_held h) e))
    refl

pub open_err : (h : Held) (page : ℕ) (f : Fault) {m n : Mem} → Lawful m → Settled m n → is_some h.draft ≡ false → opened m.seen page ≡ Err f
    → Step (Open page) (world h m) (Err f) (world h n)
open_err h page f {m} law q free e =
    settled_step (Open page) h h (Err f) law q
    (sym (ap (λ b. cond b (Err (bare Busy)) (open_answer m.seen (opened m.seen page))) free ∙ ap (open_answer m.seen) e))
    (sym (ap (λ b. cond b h (open_held h (opened m.seen page))) free ∙ ap (open_held h) e))
    refl

pub open_busy : (h : Held) (page : ℕ) (m : Mem) → is_some h.draft ≡ true → Step (Open page) (world h m) (Err (bare Busy)) (world h m)
open_busy h page m out =
    quiet_step (Open page) h h (Err (bare Busy)) (record { seen = refl; may = record { none = λ s c i. i }; trail = record { none = λ s c i. i } })
    (sym (ap (λ b. cond b (Err (bare Busy)) (open_answer m.seen (opened m.seen page))) out))
    (sym (ap (λ b. cond b h (open_held h (opened m.seen page))) out))
    refl
    (ap not out)

-- `keep`, by the page that the file then opens as
pub kept_page : (r : Result Page Fault) (q : Result Layout Fault) (o : Option Page) → then r (λ p. Ok p.layout) ≡ q
    → ((p : Page) → r ≡ Ok p → o ≡ Some p) → ((f : Fault) → r ≡ Err f → o ≡ None) → layout_in o ≡ ok_of q
kept_page (Ok p) q o e f g = ap layout_in (f p refl) ∙ ap ok_of e
kept_page (Err x) q o e f g = ap layout_in (g x refl) ∙ ap ok_of e

pub keep_ok : (h : Held) (d : Draft) (page : Option Layout) (arrow : ℕ) {m n : Mem} → Lawful m → Settled m n → h.draft ≡ Some d → d.stage ≡ Switched
    → page ≡ ok_of (opened m.seen 0) → arrow ≡ composed h.arrow d.view.turn → Step Keep (world h m) (Ok Done) (world (held page arrow None) n)
keep_ok h d page arrow {m} law q f s e t =
    let test : is_switched (stage_of h.draft) ≡ true = ap (λ o. is_switched (stage_of o)) f ∙ ap (λ t. is_switched (Some t)) s in
    let turn : arrow ≡ composed h.arrow (turn_of h.draft) = t ∙ sym (ap (λ o. composed h.arrow (turn_of o)) f) in
    settled_step Keep h (held page arrow None) (Ok Done) law q
    (sym (ap allowed test))
    ((λ i. held (e i) (turn i) None) ∙ sym (ap (λ b. cond b (kept_held h m.seen) h) test))
    refl

-- `begin`, by the place that is found
pub begin_err : (h : Held) (v : View) (plan : Plan) (f : Fault) {m n : Mem} → Quiet m n → place_by m.seen v plan h.draft h.page ≡ Err f
    → Step (Begin v plan) (world h m) (Err f) (world h n)
begin_err h v plan f {m} q e =
    quiet_step (Begin v plan) h h (Err f) q
    (sym (ap (begin_answer (shown_of h.page m.seen) v plan) e))
    (sym (ap (begin_held h v plan) e))
    refl refl

pub room_by : (bs : List ℕ) (h : Held) (l : Layout) (v : View) (plan : Plan) → h.draft ≡ None → h.page ≡ Some l → place_by bs v plan h.draft h.page ≡ room_for bs l v plan
room_by bs h l v plan e f = λ i. place_by bs v plan (e i) (f i)

pub room_pages : (bs : List ℕ) (l : Layout) (v : View) (plan : Plan) → eqb l.directories 1 ≡ false → room_for bs l v plan ≡ Err (bare Pages)
unfolding room_for
room_pages bs l v plan e = ap (λ b. refused (not b) (bare Pages) (then (sized_for l v plan) (λ size. spaced (place_of bs l size)))) e

pub room_one : (bs : List ℕ) (l : Layout) (v : View) (plan : Plan) → eqb l.directories 1 ≡ true → room_for bs l v plan ≡ then (sized_for l v plan) (λ size. spaced (place_of bs l size))
unfolding room_for
room_one bs l v plan e = ap (λ b. refused (not b) (bare Pages) (then (sized_for l v plan) (λ size. spaced (place_of bs l size)))) e

-- the size of a draft that is not refused
pub sized_is : (l : Layout) (v : View) (plan : Plan) (size : ℕ) → sized_for l v plan ≡ Ok size → size ≡ block_size (outline_by v plan l.kind)
unfolding sized_for
sized_is l v plan size e =
    let many : Result ℕ Fault = refused (ltb 1024 (segments_in (outline_by v plan l.kind))) (bare Many) (Ok (block_size (outline_by v plan l.kind))) in
    let p = passed (not (shows_in (width_of l) (height_of l) v)) (bare ViewCheck) many size e in
    let q = passed (ltb 1024 (segments_in (outline_by v plan l.kind))) (bare Many) (Ok (block_size (outline_by v plan l.kind))) size p.1 in
    by (Ok (block_size (outline_by v plan l.kind))) q.1
  where
    value : Result ℕ Fault → ℕ
    value (Ok n) = n
    value (Err f) = 0

    by : (r : Result ℕ Fault) → r ≡ Ok size → size ≡ value r
    by r e = sym (ap value e)

pub begin_ok : (h : Held) (l : Layout) (v : View) (plan : Plan) (size place : ℕ) (d : Draft) {m n : Mem} → Quiet m n → h.draft ≡ None → h.page ≡ Some l
    → eqb l.directories 1 ≡ true → sized_for l v plan ≡ Ok size → place_of m.seen l size ≡ Some place → d ≡ draft_at v plan place
    → Step (Begin v plan) (world h m) (Ok (Number (sectors size))) (world (held h.page h.arrow (Some d)) n)
begin_ok h l v plan size place d {m} q e f one s p is =
    let room : place_by m.seen v plan h.draft h.page ≡ Ok place =
    room_by m.seen h l v plan e f ∙ room_one m.seen l v plan one ∙ ap (λ r. then r (λ size. spaced (place_of m.seen l size))) s ∙ ap spaced p in
    quiet_step (Begin v plan) h (held h.page h.arrow (Some d)) (Ok (Number (sectors size))) q
    (ap (λ n. Ok (Number (sectors n))) (sized_is l v plan size s)
    ∙ sym (ap (begin_answer (shown_of h.page m.seen) v plan) room ∙ ap (λ o. Ok (Number (sectors (block_size (outline_by v plan (shown_of o m.seen).kind))))) f))
    (ap (λ x. held h.page h.arrow (Some x)) is ∙ sym (ap (begin_held h v plan) room))
    refl refl
