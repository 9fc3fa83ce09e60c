-- What `carry` comes to.
use Rattle.std.proofs.Common.{◌≡◌, ℕ, ◌+◌, ◌-◌, ◌*◌, ◌<◌, ◌≤◌, true, List, length, take, drop, Some, None, Ok, Err, Option, Result, sym, refl, ap, ◌∙◌, subst, inl, inr, ⊎_elim, arith}
use Rattle.std.proofs.lemmas.List.{take_at, length-append}
use Rattle.faults.specs.declared.fault.Fault.{Fault}
use Rattle.octets.specs.Sectors.{sector, patched, Lists}
use Rattle.octets.proofs.Patches.{length_sector}
use Rattle.store.specs.Rules.{NoGain, Gain, Answered, written, Gained}
use Rattle.raster.specs.Picture.{Picture}
use Rattle.pages.specs.declared.layout.Layout.{Layout}
use Rattle.stored.specs.Sane.{sane}
use Rattle.stored.specs.Soundness.{picture_sound}
use Rattle.stored.specs.Pixels.{picture_of}
use Rattle.stored.specs.declared.page.Page.{Page}
use Rattle.plans.specs.Views.{viewed}
use Rattle.blocks.proofs.Places.{length_block}
use Rattle.writer.specs.Drafts.{draft_sector}
use Rattle.writer.proofs.Drafted.{draft_made, made_proper}
use Rattle.drafts.specs.declared.state.Draft.{Draft}
use Rattle.drafts.specs.declared.state.Stage.TheVariants.{Begun}
use Rattle.drafts.specs.declared.call.Call.TheVariants.{Carry}
use Rattle.drafts.specs.declared.call.Reply.TheVariants.{Number}
use Rattle.drafts.specs.Mem.{Mem, Quiet}
use Rattle.drafts.specs.Wrote.{Wrote}
use Rattle.drafts.specs.Steps.{Held, held, world, Step, Fitting, sized_for, sectors, size_of, size_by, outline_of, block_of, shown_of, stage_of, staged, next_stage, carry_answer, carry_held, carry_draft, carry_write, carry_write_by}
use Rattle.drafts.proofs.Stepping.{quiet_then, wrote_step}
use Rattle.holder.specs.Told.{WroteBy}
use Rattle.holder.specs.Worlds.{layout_in}
use Rattle.holder.proofs.Sizes.{sized_ok}
use Rattle.holder.proofs.Calls.{still}

-- the front of a buffer into which some bytes were put
pub front_put : (b g : List ℕ) → take (length g) (patched b 0 g) ≡ g
unfolding patched
front_put b g = take_at g (drop (0 + length g) b) (length g) refl

front_short : (b g : List ℕ) → length g ≤ length (patched b 0 g)
unfolding patched
front_short b g = omega (arith, length-append g (drop (0 + length g) b))

pub front_within : (x b g : List ℕ) → x ≡ patched b 0 g → length g ≤ length x
front_within x b g e = subst (λ y. length g ≤ length y) (sym e) (front_short b g)

-- what a card promises of a write
pub wrote_by : (r : Result (Unit {0}) Fault) (m n : Mem) (place : ℕ) (xs given : List ℕ) → xs ≡ given → Answered r m.seen place (length xs) → n.seen ≡ written r m.seen place xs
    → Gained r n.seen place (length xs) m.may n.may → Gained r n.seen place (length xs) m.trail n.trail → WroteBy r m place given n
wrote_by r m n place xs given e a p l t = subst (λ ys. WroteBy r m place ys n) e (by r a p l t)
  where
    by : (r : Result (Unit {0}) Fault) → Answered r m.seen place (length xs) → n.seen ≡ written r m.seen place xs
        → Gained r n.seen place (length xs) m.may n.may → Gained r n.seen place (length xs) m.trail n.trail → WroteBy r m place xs n
    by (Ok _) a p l t = (a, record { seen = p; may = l; trail = t })
    by (Err _) a p l t = (a.0, record { seen = p; may = l; trail = t })

-- the layout of a page is sane
pub page_sane : (o : Option Page) (l : Layout) → layout_in o ≡ Some l → sane l ≡ true
page_sane None l e = absurd (let z : ◌≡◌ {A = ℕ} 0 1 = cc in omega arith)
page_sane (Some p) l e = subst (λ k. sane k ≡ true) (ap (λ o. or p.layout o) e) p.limits
  where
    or : Layout → Option Layout → Layout
    or k None = k
    or k (Some m) = m

pub ok_not_err : {n : ℕ} {f : Fault} → ◌≡◌ {A = Result ℕ Fault} (Ok n) (Err f) → ⊥
ok_not_err e = let z : ◌≡◌ {A = ℕ} 0 1 = cc in omega arith

-- the size of a draft that fits
pub fitting_sized : (bs : List ℕ) (l : Layout) (d : Draft) → Fitting bs l d → sized_for l d.view d.plan ≡ Ok (size_of d (picture_of bs l))
fitting_sized bs l d f = sized_ok l d.view d.plan f.shows f.few

-- a write after reads is a write
pub wrote_after : (r : Result (Unit {0}) Fault) (l m n : Mem) (place : ℕ) (given : List ℕ) → Quiet l m → WroteBy r m place given n → WroteBy r l place given n
wrote_after (Ok _) l m n place given q w = (
  subst (λ b. place + length given ≤ length b) q.seen w.0,
  record {
    seen = w.1.seen ∙ ap (λ b. patched b place given) q.seen;
    may = wider n.seen place (length given) l.may m.may n.may q.may w.1.may;
    trail = wider n.seen place (length given) l.trail m.trail n.trail q.trail w.1.trail;
  },
)
  where
    wider : (bs : List ℕ) (place count : ℕ) (a b c : Lists) → NoGain a b → Gain bs place count b c → Gain bs place count a c
    wider bs place count a b c n g = record {
      touched = λ s t x i. ⊎_elim inl (λ j. inr (n.none s x j)) (g.touched s t x i);
      others = λ s un x i. n.none s x (g.others s un x i);
    }
wrote_after (Err _) l m n place given q w = (subst (λ b. length b < place + length given) q.seen w.0, quiet_then q w.1)

-- the sector that a carry writes, of a draft that fits
pub carried_sector : (bs : List ℕ) (l : Layout) (d : Draft) (j : ℕ) → sane l ≡ true → Fitting bs l d
    → draft_sector d.plan (picture_of bs l) d.view d.place j ≡ sector (block_of d (picture_of bs l)) j
unfolding block_of
carried_sector bs l d j t f = draft_made d.plan (picture_of bs l) d.view (picture_sound bs l t) f.shows f.few d.place j

-- the block of a draft that fits is as long as the draft
pub block_length : (bs : List ℕ) (l : Layout) (d : Draft) → sane l ≡ true → Fitting bs l d → length (block_of d (picture_of bs l)) ≡ size_of d (picture_of bs l)
unfolding block_of
block_length bs l d t f =
    length_block (outline_of d (picture_of bs l)) (viewed (picture_of bs l) d.view).at
    (made_proper d.plan (picture_of bs l) d.view (picture_sound bs l t) f.shows) d.place

-- its sectors end by the end of the store
pub carried_fits : (bs : List ℕ) (l : Layout) (d : Draft) (j : ℕ) → sane l ≡ true → Fitting bs l d → j < sectors (size_of d (picture_of bs l))
    → d.place + 512 * j + length (sector (block_of d (picture_of bs l)) j) ≤ length bs
carried_fits bs l d j t f h = omega (arith, f.ends, length_sector (block_of d (picture_of bs l)) j, block_length bs l d t f)

pub carry_ok : (h : Held) (l : Layout) (d e : Draft) (j size left : ℕ) {m n : Mem} → h.draft ≡ Some d → h.page ≡ Some l → d.stage ≡ Begun j
    → size ≡ size_of d (picture_of m.seen l) → Wrote m (d.place + 512 * j) (sector (block_of d (picture_of m.seen l)) j) n
    → e ≡ staged d (next_stage (sectors size) j) → left ≡ sectors size - (j + 1)
    → Step Carry (world h m) (Ok (Number left)) (world (held h.page h.arrow (Some e)) n)
carry_ok h l d e j size left {m} {n} f g s z w is rest =
    let p : Picture = picture_of m.seen l in
    let shown : shown_of h.page m.seen ≡ p = ap (λ o. shown_of o m.seen) g in
    wrote_step Carry h (held h.page h.arrow (Some e)) (Ok (Number left)) (d.place + 512 * j) (sector (block_of d p) j) (still m) w
    (ap (λ k. Ok (Number k)) (rest ∙ ap (λ k. sectors k - (j + 1)) z)
    ∙ sym ((λ i. carry_answer (sectors (size_by (shown i) (f i))) (stage_of (f i))) ∙ ap (λ t. carry_answer (sectors (size_of d p)) (Some t)) s))
    (ap (λ x. held h.page h.arrow (Some x)) (is ∙ ap (λ k. staged d (next_stage (sectors k) j)) z)
    ∙ sym ((λ i. held h.page h.arrow (carry_held (shown i) (f i))) ∙ ap (λ t. held h.page h.arrow (Some (carry_draft (sectors (size_of d p)) d t))) s))
    ((λ i. carry_write_by (shown i) (f i)) ∙ ap (carry_write p d) s)
    refl
