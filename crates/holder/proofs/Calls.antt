-- What the calls of a holder come to.
use Rattle.std.proofs.Common.{◌≡◌, ℕ, ◌+◌, ◌≤◌, true, cond, List, length, Some, None, Ok, Err, Option, Result, sym, refl, ap, ◌∙◌, subst, arith}
use Rattle.faults.specs.declared.fault.Fault.{Fault}
use Rattle.octets.specs.declared.endian.Endian.{Endian}
use Rattle.octets.specs.declared.endian.Endian.TheVariants.{Little, Big}
use Rattle.store.specs.declared.traits.Store.{Ghosts}
use Rattle.store.specs.Looking.{Looked}
use Rattle.pages.specs.declared.layout.Layout.{Layout}
use Rattle.plans.specs.Blocks.{header}
use Rattle.drafts.specs.declared.state.Draft.{Draft}
use Rattle.drafts.specs.declared.state.Stage.{Stage}
use Rattle.drafts.specs.declared.state.Stage.TheVariants.{Carried, Rested, Switched}
use Rattle.drafts.specs.declared.call.Call.TheVariants.{Rest, Switch}
use Rattle.drafts.specs.declared.call.Reply.TheVariants.{Done}
use Rattle.drafts.specs.Mem.{Mem, mem_of, Lawful, Quiet, Settled}
use Rattle.drafts.specs.Wrote.{Wrote}
use Rattle.drafts.specs.Steps.{Held, held, world, Step, Steady, Fitting, Under, sectors, size_of, allowed, stage_of, is_carried, is_rested, moved_to, staged, switch_write, switch_write_by}
use Rattle.stored.specs.Pixels.{picture_of}
use Rattle.drafts.proofs.Stepping.{settled_step, wrote_step}
use Rattle.holder.specs.Told.{WroteBy, OutAt}

pub lawful : {S : Type 0} (s : Ghosts S) (x : S) → Lawful (mem_of s x)
lawful s x = record { short = s.laws.short x; held = s.laws.held x; trailed = s.laws.trailed x }

-- a call that only reads a store is quiet
pub looked_quiet : {S : Type 0} (s : Ghosts S) {x y : S} → Looked s.seen s.may s.trail x y → Quiet (mem_of s x) (mem_of s y)
looked_quiet s l = record { seen = l.same; may = l.lists; trail = l.trails }

pub still : (m : Mem) → Quiet m m
still m = record { seen = refl; may = record { none = λ s c i. i }; trail = record { none = λ s c i. i } }

-- a draft that is out at a stage
pub out_at : {r out : Option Draft} {s : Stage} {d : Draft} → OutAt r s out → r ≡ Some d → (out ≡ Some d) × (d.stage ≡ s)
out_at {out = out} {s = s} f e = subst (λ r. OutAt r s out) e f

-- a draft that is out belongs to a page that is shown
pub steady_draft : (bs : List ℕ) (page : Option Layout) (o : Option Draft) (d : Draft) → o ≡ Some d → Steady bs page o
    → (l : Layout) × (page ≡ Some l) × Fitting bs l d × Under (sectors (size_of d (picture_of bs l))) d.stage
steady_draft bs page o d e s = by page (subst (Steady bs page) e s)
  where
    by : (page : Option Layout) → Steady bs page (Some d) → (l : Layout) × (page ≡ Some l) × Fitting bs l d × Under (sectors (size_of d (picture_of bs l))) d.stage
    by None s = absurd s
    by (Some l) s = (l, refl, s.0, s.1)

pub length_header : (o : Endian) (place : ℕ) → length (header o place) ≡ 8
length_header Little place = refl
length_header Big place = refl

-- a write that fits is made
pub wrote_of : (r : Result (Unit {0}) Fault) {m n : Mem} (place : ℕ) (given : List ℕ) → WroteBy r m place given n → place + length given ≤ length m.seen → Wrote m place given n
wrote_of (Ok _) place given w h = w.1
wrote_of (Err _) place given w h = let no : ⊥ = omega (arith, w.0) in absurd no

pub rest_ok : (h : Held) (d e : Draft) {m n : Mem} → Lawful m → Settled m n → h.draft ≡ Some d → d.stage ≡ Carried → e ≡ staged d Rested
    → Step Rest (world h m) (Ok Done) (world (held h.page h.arrow (Some e)) n)
rest_ok h d e law q f s is =
    let test : is_carried (stage_of h.draft) ≡ true = ap (λ o. is_carried (stage_of o)) f ∙ ap (λ t. is_carried (Some t)) s in
    let moved : moved_to Rested h.draft ≡ Some e = ap (moved_to Rested) f ∙ ap Some (sym is) in
    settled_step Rest h (held h.page h.arrow (Some e)) (Ok Done) law q
    (sym (ap allowed test))
    (sym (ap (λ b. cond b (held h.page h.arrow (moved_to Rested h.draft)) h) test ∙ ap (held h.page h.arrow) moved))
    refl

pub switch_ok : (h : Held) (d e : Draft) {m n : Mem} → Wrote m 0 (header d.plan.endian d.place) n → h.draft ≡ Some d → d.stage ≡ Rested → e ≡ staged d Switched
    → Step Switch (world h m) (Ok Done) (world (held h.page h.arrow (Some e)) n)
switch_ok h d e {m} w f s is =
    let test : is_rested (stage_of h.draft) ≡ true = ap (λ o. is_rested (stage_of o)) f ∙ ap (λ t. is_rested (Some t)) s in
    let moved : moved_to Switched h.draft ≡ Some e = ap (moved_to Switched) f ∙ ap Some (sym is) in
    wrote_step Switch h (held h.page h.arrow (Some e)) (Ok Done) 0 (header d.plan.endian d.place) (still m) w
    (sym (ap allowed test))
    (sym (ap (λ b. cond b (held h.page h.arrow (moved_to Switched h.draft)) h) test ∙ ap (held h.page h.arrow) moved))
    (ap switch_write_by f ∙ ap (switch_write d) s)
    refl
