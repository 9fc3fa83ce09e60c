-- What a change of one slot, and of the sector below it, comes to. Assumes nothing.
use Rattle.std.proofs.Common.{◌≡◌, ℕ, Bool, MatchOption, zero, suc, ◌+◌, ◌-◌, ◌*◌, ◌/◌, ◌%◌, ◌<◌, ◌≤◌, true, false, eqb, ◌⊎◌, List, [], ◌∷◌, length, get_or, take, drop, set, Some, None, sym, refl, ap, ◌∙◌, inl, inr, ⊎_elim, arith, length-take}
use Rattle.std.proofs.lemmas.List.{ext_get_or, length-take-le, get_or-drop, length-drop, get_or-take, get_or-set_same, get_or-set_other}
use Rattle.std.proofs.lemmas.Bool.{cases_Bool, cases_lt, cases_eq, eq-eqb, ne_eqb, eqb-true, false≢true, both_ways, cond-true, cond-false}
use Rattle.hold.specs.declared.slots.Sector.{Sector}
use Rattle.hold.specs.declared.Hold.{Hold}
use Rattle.store.specs.declared.traits.Store.{Ghosts}
use Rattle.octets.specs.Sectors.{sector, patched, laid, In, Lists, Touched}
use Rattle.std.specs.List.{AllByRecursion}
use Rattle.store.specs.Rules.{Laws, NoGain, Gain, Alone, Grown}
use Rattle.hold.specs.Kept.{Slot, tagged, content, kept, slot_of, OneInEight, over, byte, overlaid, with_kept}
use Rattle.hold.specs.Changes.{seen_by, Quiet, Put}
use Rattle.hold.specs.KeptLaws.{length_overlaid, get_or_overlaid, byte_kept, byte_below, sector_below, with_seen, with_cases, with_below, with_free}
use Rattle.octets.proofs.Patches.{length_patched, patched_same, sector_untouched}
use Rattle.octets.proofs.Contents.{in_same}
use Rattle.octets.proofs.Laid.{none_patched, length_laid, laid_out_lem, laid_in, patched_out, patched_more, sectors_alike}
use Rattle.store.proofs.Changes.{touched_or, nogain_trans, grown_more}

-- a slot that is set

module _ (slots : List Slot) (i : ℕ) (t : Slot) where
  slot_same : (s : ℕ) → i < length slots → s % 8 ≡ i → slot_of (set slots i t) s ≡ t
  unfolding slot_of
  slot_same s h e = ap (λ (k : ℕ). get_or (set slots i t) k None) e ∙ get_or-set_same slots i t _ h

  slot_other : (s : ℕ) → (s % 8 ≡ i → ⊥) → slot_of (set slots i t) s ≡ slot_of slots s
  unfolding slot_of
  slot_other s un = get_or-set_other slots i (s % 8) t _ un

  pub kept_same : (s : ℕ) → i < length slots → s % 8 ≡ i → kept (set slots i t) s ≡ tagged t s
  unfolding kept
  kept_same s h e = ap (λ (u : Slot). tagged u s) (slot_same s h e)

  pub kept_other : (s : ℕ) → (s % 8 ≡ i → ⊥) → kept (set slots i t) s ≡ kept slots s
  unfolding kept
  kept_other s un = ap (λ (u : Slot). tagged u s) (slot_other s un)

-- the slot at its index

module _ (slots : List Slot) (i : ℕ) (t : Slot) (at : get_or slots i None ≡ t) where
  pub slot_is : (s : ℕ) → s % 8 ≡ i → slot_of slots s ≡ t
  unfolding slot_of
  slot_is s e = ap (λ (k : ℕ). get_or slots k None) e ∙ at

  pub kept_is : (s : ℕ) → s % 8 ≡ i → kept slots s ≡ tagged t s
  unfolding kept
  kept_is s e = ap (λ (u : Slot). tagged u s) (slot_is s e)

module _ (slots : List Slot) (i : ℕ) (k : Sector) (at : get_or slots i None ≡ Some k) where
  pub kept_tag : (s : ℕ) → s % 8 ≡ i → k.tag ≡ s / 8 → kept slots s ≡ true
  kept_tag s e q = kept_is slots i (Some k) at s e ∙ eq-eqb k.tag (s / 8) q

  pub kept_not : (s : ℕ) → s % 8 ≡ i → (k.tag ≡ s / 8 → ⊥) → kept slots s ≡ false
  kept_not s e un = kept_is slots i (Some k) at s e ∙ ne_eqb k.tag (s / 8) un

-- what is found in a slot
pub tagged_by : (o : Slot) (s : ℕ) (r : Bool) → MatchOption o (r ≡ false) (λ k. r ≡ eqb k.tag (s / 8)) → r ≡ tagged o s
tagged_by (Some k) s r h = h
tagged_by None s r h = h

-- bytes of another slot, with nothing changed below
other_byte : (slots : List Slot) (i : ℕ) (t : Slot) (below below' : List ℕ) (j : ℕ) → (j / 512 % 8 ≡ i → ⊥) → get_or below' j 0 ≡ get_or below j 0
    → byte (set slots i t) below' j ≡ byte slots below j
other_byte slots i t below below' j un e =
    ⊎_elim
    (λ (k : kept slots (j / 512) ≡ true).
    byte_kept (set slots i t) below' j (kept_other slots i t (j / 512) un ∙ k)
    ∙ ap (λ (u : Slot). get_or (content u) (j % 512) 0) (slot_other slots i t (j / 512) un)
    ∙ sym (byte_kept slots below j k))
    (λ (k : kept slots (j / 512) ≡ false).
    byte_below (set slots i t) below' j (kept_other slots i t (j / 512) un ∙ k) ∙ e ∙ sym (byte_below slots below j k))
    (cases_Bool (kept slots (j / 512)))

-- a slot written below and marked free
pub flush_same : (slots : List Slot) (i : ℕ) (t : Sector) (below : List ℕ) → i < length slots → get_or slots i None ≡ Some t → i < 8 → length t.bytes ≡ 512
    → overlaid (set slots i None) (laid below (512 * (8 * t.tag + i)) t.bytes) ≡ overlaid slots below
flush_same slots i t below h at b n =
    let m = length_laid below (512 * (8 * t.tag + i)) t.bytes in
    let u = length_overlaid (set slots i None) (laid below (512 * (8 * t.tag + i)) t.bytes) in
    let v = length_overlaid slots below in
    ext_get_or 0 _ _ (u ∙ m ∙ sym v) (λ j l.
    let k : j < length below = omega arith in
    get_or_overlaid (set slots i None) (laid below (512 * (8 * t.tag + i)) t.bytes) j 0 (omega arith)
    ∙ ⊎_elim
    (λ (e : j / 512 % 8 ≡ i).
    byte_below (set slots i None) (laid below (512 * (8 * t.tag + i)) t.bytes) j (kept_same slots i None (j / 512) h e)
    ∙ ⊎_elim
    (λ (q : t.tag ≡ j / 512 / 8).
    laid_in below (512 * (8 * t.tag + i)) t.bytes j (omega arith) (omega arith) k
    ∙ ap (λ (z : ℕ). get_or t.bytes z 0) (let w : j - 512 * (8 * t.tag + i) ≡ j % 512 = omega arith in w)
    ∙ sym (byte_kept slots below j (kept_tag slots i t at (j / 512) e q) ∙ ap (λ (z : Slot). get_or (content z) (j % 512) 0) (slot_is slots i (Some t) at (j / 512) e)))
    (λ (un : t.tag ≡ j / 512 / 8 → ⊥).
    laid_out_lem below (512 * (8 * t.tag + i)) t.bytes j (⊎_elim inl (λ (z : 512 * (8 * t.tag + i) ≤ j). inr (omega (arith, un))) (cases_lt j (512 * (8 * t.tag + i))))
    ∙ sym (byte_below slots below j (kept_not slots i t at (j / 512) e un)))
    (cases_eq t.tag (j / 512 / 8)))
    (λ (un : j / 512 % 8 ≡ i → ⊥).
    other_byte slots i None below (laid below (512 * (8 * t.tag + i)) t.bytes) j un
    (laid_out_lem below (512 * (8 * t.tag + i)) t.bytes j (⊎_elim inl (λ (z : 512 * (8 * t.tag + i) ≤ j). inr (omega (arith, un))) (cases_lt j (512 * (8 * t.tag + i))))))
    (cases_eq (j / 512 % 8) i)
    ∙ sym (get_or_overlaid slots below j 0 k))

-- tables that keep nothing

pub slot_none : (slots : List Slot) → AllByRecursion (λ t. t ≡ None) slots → (k : ℕ) → get_or slots k None ≡ None
slot_none [] h k = refl
slot_none (t ∷ ts) h zero = h.0
slot_none (t ∷ ts) h (suc k) = slot_none ts h.1 k

pub kept_none : (slots : List Slot) → AllByRecursion (λ t. t ≡ None) slots → (s : ℕ) → kept slots s ≡ false
unfolding kept slot_of
kept_none slots h s = ap (λ (o : Slot). tagged o s) (slot_none slots h (s % 8))

-- what is seen is as it was, and a list below has gained at most what is seen: then no list has gained
pub seen_nogain : (slots slots' : List Slot) (below below' : List ℕ) (old new : Lists) → overlaid slots' below' ≡ overlaid slots below
    → ((s : ℕ) → In (sector below s) (old s)) → ((s : ℕ) (c : List ℕ) → In c (new s) → In c (sector (overlaid slots below) s ∷ old s))
    → NoGain (with_kept slots below old) (with_kept slots' below' new)
seen_nogain slots slots' below below' old new same held grow = record {
  none = λ s c m.
      ⊎_elim
      (λ (e : c ≡ sector (overlaid slots' below') s). in_same _ _ _ (e ∙ ap (λ (xs : List ℕ). sector xs s) same) (with_seen slots below old s (held s)))
      (λ (k : In c (new s)). ⊎_elim
      (λ (e : c ≡ sector (overlaid slots below) s). in_same _ _ _ e (with_seen slots below old s (held s)))
      (λ (q : In c (old s)). with_below slots below old s c q)
      (grow s c k))
      (with_cases slots' below' new s c m);
}

-- one sector written below, and free in the table since
pub flush_nogain : (slots slots' : List Slot) (below below' : List ℕ) (old new : Lists) (s₀ : ℕ) → overlaid slots' below' ≡ overlaid slots below → kept slots' s₀ ≡ false
    → ((s : ℕ) → In (sector below s) (old s)) → Gain below' (512 * s₀) 512 old new
    → NoGain (with_kept slots below old) (with_kept slots' below' new)
flush_nogain slots slots' below below' old new s₀ same free held gain =
    seen_nogain slots slots' below below' old new same held (λ s c m.
    ⊎_elim
    (λ (t : Touched (512 * s₀) 512 s).
    let e : s ≡ s₀ = (let x = t.1 in let y = t.2 in omega arith) in
    ⊎_elim
    (λ (q : c ≡ sector below' s). inl (q ∙ sym (sector_below slots' below' s (ap (kept slots') e ∙ free)) ∙ ap (λ (xs : List ℕ). sector xs s) same))
    (λ (q : In c (old s)). inr q)
    (gain.touched s t c m))
    (λ (un : Touched (512 * s₀) 512 s → ⊥). inr (gain.others s un c m))
    (touched_or (512 * s₀) 512 s))

pub same_nogain : (slots : List Slot) (below : List ℕ) (lists : Lists) → NoGain (with_kept slots below lists) (with_kept slots below lists)
same_nogain slots below lists = record { none = λ s c m. m }

-- a slot filled with what is seen

pub load_same : (slots : List Slot) (i s₀ : ℕ) (f : Sector) (below : List ℕ) → i < length slots → s₀ % 8 ≡ i → ((s : ℕ) → s % 8 ≡ i → kept slots s ≡ false) → f.tag ≡ s₀ / 8
    → ((k : ℕ) → k < 512 → 512 * s₀ + k < length below → get_or f.bytes k 0 ≡ get_or below (512 * s₀ + k) 0) → overlaid (set slots i (Some f)) below ≡ overlaid slots below
load_same slots i s₀ f below h at free tag got =
    let u = length_overlaid (set slots i (Some f)) below in
    let v = length_overlaid slots below in
    ext_get_or 0 _ _ (u ∙ sym v) (λ j l.
    let k : j < length below = omega arith in
    get_or_overlaid (set slots i (Some f)) below j 0 k
    ∙ ⊎_elim
    (λ (e : j / 512 % 8 ≡ i).
    let is : kept (set slots i (Some f)) (j / 512) ≡ eqb (s₀ / 8) (j / 512 / 8) = kept_same slots i (Some f) (j / 512) h e ∙ ap (λ (n : ℕ). eqb n (j / 512 / 8)) tag in
    ⊎_elim
    (λ (q : s₀ / 8 ≡ j / 512 / 8).
    let w : 512 * s₀ + j % 512 ≡ j = omega arith in
    byte_kept (set slots i (Some f)) below j (is ∙ eq-eqb (s₀ / 8) (j / 512 / 8) q)
    ∙ ap (λ (z : Slot). get_or (content z) (j % 512) 0) (slot_same slots i (Some f) (j / 512) h e)
    ∙ got (j % 512) (omega arith) (omega arith)
    ∙ ap (λ (z : ℕ). get_or below z 0) w)
    (λ (un : s₀ / 8 ≡ j / 512 / 8 → ⊥). byte_below (set slots i (Some f)) below j (is ∙ ne_eqb (s₀ / 8) (j / 512 / 8) un))
    (cases_eq (s₀ / 8) (j / 512 / 8))
    ∙ sym (byte_below slots below j (free (j / 512) e)))
    (λ (un : j / 512 % 8 ≡ i → ⊥). other_byte slots i (Some f) below below j un refl)
    (cases_eq (j / 512 % 8) i)
    ∙ sym (get_or_overlaid slots below j 0 k))

module _ {C : Type 0} {c : Ghosts C} where
  pub quiet_trans : {f g h : Hold C} → Quiet c f g → Quiet c g h → Quiet c f h
  quiet_trans p q = record {
    same = q.same ∙ p.same;
    lists = nogain_trans _ _ _ p.lists q.lists;
    trails = nogain_trans _ _ _ p.trails q.trails;
  }

  pub quiet_same : {h : Hold C} → Quiet c h h
  quiet_same = record { same = refl; lists = same_nogain _ _ _; trails = same_nogain _ _ _ }

  -- the table changes and what is seen does not, and below no list gains
  pub quiet_table : (g h : Hold C) → c.seen h.below ≡ c.seen g.below → overlaid h.table.slots (c.seen g.below) ≡ seen_by c g → Laws c.seen c.may c.trail
      → NoGain (c.may g.below) (c.may h.below) → NoGain (c.trail g.below) (c.trail h.below) → Quiet c g h
  quiet_table g h e same laws p q =
      let all : seen_by c h ≡ seen_by c g = ap (overlaid h.table.slots) e ∙ same in
      record {
        same = all;
        lists = seen_nogain _ _ _ _ _ _ all (laws.held g.below) (λ s d m. inr (p.none s d m));
        trails = seen_nogain _ _ _ _ _ _ all (λ s. laws.trailed g.below s _ (laws.held g.below s)) (λ s d m. inr (q.none s d m));
      }

pub length_quiet : {C : Type 0} (c : Ghosts C) (g h : Hold C) → seen_by c h ≡ seen_by c g → length (c.seen h.below) ≡ length (c.seen g.below)
length_quiet c g h e = sym (length_overlaid h.table.slots (c.seen h.below)) ∙ ap length e ∙ length_overlaid g.table.slots (c.seen g.below)

-- bytes of a kept sector replaced

one_tag : (o : Slot) (s s' : ℕ) → tagged o s ≡ true → tagged o s' ≡ true → s / 8 ≡ s' / 8
one_tag (Some k) s s' h h' = sym (eqb-true k.tag (s / 8) h) ∙ eqb-true k.tag (s' / 8) h'
one_tag None s s' h h' = absurd (false≢true h)

pub one_in_eight : (slots : List Slot) → OneInEight slots
unfolding kept slot_of
one_in_eight slots s t h k e =
    let q = one_tag (get_or slots (s % 8) None) s t h (ap (λ (i : ℕ). tagged (get_or slots i None) t) e ∙ k) in
    omega arith

-- nothing is kept: what is seen is what is seen below
pub none_overlaid : (slots : List Slot) (below : List ℕ) → ((s : ℕ) → kept slots s ≡ false) → overlaid slots below ≡ below
none_overlaid slots below free = sectors_alike (overlaid slots below) below (length_overlaid slots below) (λ s. sector_below slots below s (free s))

pub patch_same : (slots : List Slot) (i place : ℕ) (t f : Sector) (below ys : List ℕ) → i < length slots → get_or slots i None ≡ Some t → place / 512 % 8 ≡ i → kept slots (place / 512) ≡ true
    → f.tag ≡ t.tag → f.bytes ≡ patched t.bytes (place % 512) ys → length t.bytes ≡ 512 → place % 512 + length ys ≤ 512 → place + length ys ≤ length below
    → overlaid (set slots i (Some f)) below ≡ patched (overlaid slots below) place ys
patch_same slots i place t f below ys h at here is tag bytes n one fit =
    let v = length_overlaid slots below in
    let u = length_overlaid (set slots i (Some f)) below in
    let w : length (patched (overlaid slots below) place ys) ≡ length (overlaid slots below) = length_patched (overlaid slots below) place ys (omega arith) in
    ext_get_or 0 _ _ (u ∙ sym v ∙ sym w) (λ j l.
    let k : j < length below = omega arith in
    get_or_overlaid (set slots i (Some f)) below j 0 k
    ∙ ⊎_elim
    (λ (e : j / 512 % 8 ≡ i).
    let same : kept (set slots i (Some f)) (j / 512) ≡ kept slots (j / 512) = kept_same slots i (Some f) (j / 512) h e ∙ ap (λ (m : ℕ). eqb m (j / 512 / 8)) tag ∙ sym (kept_is slots i (Some t) at (j / 512) e) in
    ⊎_elim
    (λ (q : kept slots (j / 512) ≡ true).
    let same_tag : j / 512 / 8 ≡ place / 512 / 8 = one_tag (Some t) (j / 512) (place / 512) (sym (kept_is slots i (Some t) at (j / 512) e) ∙ q) (sym (kept_is slots i (Some t) at (place / 512) here) ∙ is) in
    byte_kept (set slots i (Some f)) below j (same ∙ q)
    ∙ ap (λ (z : Slot). get_or (content z) (j % 512) 0) (slot_same slots i (Some f) (j / 512) h e)
    ∙ ap (λ (z : List ℕ). get_or z (j % 512) 0) bytes
    ∙ patched_same t.bytes (overlaid slots below) (place % 512) place ys (j % 512) j 0 (omega arith) (omega arith) (omega arith)
    (λ _. sym (get_or_overlaid slots below j 0 k ∙ byte_kept slots below j q ∙ ap (λ (z : Slot). get_or (content z) (j % 512) 0) (slot_is slots i (Some t) at (j / 512) e))))
    (λ (q : kept slots (j / 512) ≡ false).
    let un : j / 512 ≡ place / 512 → ⊥ = λ z. both_ways (kept slots (j / 512)) q (ap (kept slots) z ∙ is) in
    byte_below (set slots i (Some f)) below j (same ∙ q)
    ∙ sym (byte_below slots below j q)
    ∙ sym (patched_out (overlaid slots below) place ys j 0 (omega arith) (⊎_elim inl (λ (z : place ≤ j). inr (omega (arith, un))) (cases_lt j place)) ∙ get_or_overlaid slots below j 0 k))
    (cases_Bool (kept slots (j / 512))))
    (λ (un : j / 512 % 8 ≡ i → ⊥).
    other_byte slots i (Some f) below below j un refl
    ∙ sym (patched_out (overlaid slots below) place ys j 0 (omega arith) (⊎_elim inl (λ (z : place ≤ j). inr (omega (arith, un))) (cases_lt j place)) ∙ get_or_overlaid slots below j 0 k))
    (cases_eq (j / 512 % 8) i))

-- the table changes after a quiet call: no list gains more than what is seen now
pub quiet_grown : (slots₀ slots₁ slots₂ : List Slot) (below₀ below₁ : List ℕ) (old new : Lists) → NoGain (with_kept slots₀ below₀ old) (with_kept slots₁ below₁ new)
    → Grown (overlaid slots₂ below₁) (with_kept slots₀ below₀ old) (with_kept slots₂ below₁ new)
quiet_grown slots₀ slots₁ slots₂ below₀ below₁ old new q = record
    { most = λ s c m. ⊎_elim inl (λ (k : In c (new s)). inr (q.none s c (with_below slots₁ below₁ new s c k))) (with_cases slots₂ below₁ new s c m) }

-- after a settling, with nothing kept
pub settle_alone : (slots : List Slot) (below : List ℕ) (may : Lists) → ((s : ℕ) → kept slots s ≡ false) → Alone below may → Alone (overlaid slots below) (with_kept slots below may)
settle_alone slots below may free alone = record
    { only = λ s c m. alone.only s c (with_free slots below may s (free s) c m) ∙ sym (sector_below slots below s (free s)) }

pub below_nogain : (slots : List Slot) (below below' : List ℕ) (old new : Lists) → below' ≡ below → ((s : ℕ) → In (sector below s) (old s)) → NoGain old new
    → NoGain (with_kept slots below old) (with_kept slots below' new)
below_nogain slots below below' old new e held p = seen_nogain slots slots below below' old new (ap (overlaid slots) e) held (λ s c m. inr (p.none s c m))

pub over_kept : (slots : List Slot) (i b : ℕ) → kept slots (i / 512) ≡ true → over slots i b ≡ get_or (content (slot_of slots (i / 512))) (i % 512) 0
unfolding over
over_kept slots i b h = cond-true _ _ _ h

pub over_free : (slots : List Slot) (i b : ℕ) → kept slots (i / 512) ≡ false → over slots i b ≡ b
unfolding over
over_free slots i b h = cond-false _ _ _ h

-- a byte of the buffer once a sector's slot is laid over it
pub over_slot : (slots : List Slot) (i : ℕ) (t : Sector) → get_or slots i None ≡ Some t → (j b b' : ℕ) → j / 512 % 8 ≡ i
    → (j / 512 ≡ 8 * t.tag + i → b' ≡ get_or t.bytes (j % 512) 0) → ((j / 512 ≡ 8 * t.tag + i → ⊥) → b' ≡ b) → b' ≡ over slots j b
over_slot slots i t at j b b' e here others =
    ⊎_elim
    (λ (q : j / 512 ≡ 8 * t.tag + i).
    here q ∙ sym (over_kept slots j b (kept_tag slots i t at (j / 512) e (omega arith)) ∙ ap (λ (z : Slot). get_or (content z) (j % 512) 0) (slot_is slots i (Some t) at (j / 512) e)))
    (λ (un : j / 512 ≡ 8 * t.tag + i → ⊥). others un ∙ sym (over_free slots j b (kept_not slots i t at (j / 512) e (λ z. un (omega arith)))))
    (cases_eq (j / 512) (8 * t.tag + i))

-- a read seen through the table
pub read_over : (slots : List Slot) (below buf buf' : List ℕ) (place n : ℕ) → place + n ≤ length below → buf ≡ take n (drop place below) → length buf' ≡ length buf
    → ((k : ℕ) → k < length buf → get_or buf' k 0 ≡ over slots (place + k) (get_or buf k 0)) → buf' ≡ take n (drop place (overlaid slots below))
read_over slots below buf buf' place n h e l got =
    let u = ap length e in
    let v = length-take n (drop place below) in
    let w = length-drop place below in
    let x = length-take n (drop place (overlaid slots below)) in
    let y = length-drop place (overlaid slots below) in
    let z = length_overlaid slots below in
    ext_get_or 0 _ _ (omega arith) (λ k m.
    let q : k < n = omega arith in
    got k (omega arith)
    ∙ ap (over slots (place + k)) (ap (λ (zs : List ℕ). get_or zs k 0) e ∙ get_or-take n (drop place below) k 0 q ∙ get_or-drop place below k 0)
    ∙ sym (get_or-take n (drop place (overlaid slots below)) k 0 q ∙ get_or-drop place (overlaid slots below) k 0 ∙ get_or_overlaid slots below (place + k) 0 (omega arith)))

-- writes one after the other

-- how far a write has come: `done` of the bytes are written, up to a sector's end but for the last, and the sector touched last is kept
pub record Progress {C : Type 0} (c : Ghosts C) (g h : Hold C) (place done : ℕ) (bytes : List ℕ) : Type 0 where
  pub upto : done ≤ length bytes
  pub put : Put c g h place (take done bytes)
  pub edge : (done ≡ 0) ⊎ ((done ≡ length bytes) ⊎ ((place + done) % 512 ≡ 0))
  pub last : 0 < done → kept h.table.slots ((place + done - 1) / 512) ≡ true

pub progress_none : {C : Type 0} {c : Ghosts C} {h : Hold C} (place : ℕ) (bytes : List ℕ) → Progress c h h place 0 bytes
progress_none place bytes = record {
  upto = omega arith;
  put = record { put = sym (none_patched _ place [] refl); lists = record { most = λ s c m. inr m }; trails = record { most = λ s c m. inr m } };
  edge = inl refl;
  last = λ h. absurd (omega arith);
}

module _ {C : Type 0} (c : Ghosts C) (f g h : Hold C) (laws : Laws c.seen c.may c.trail) (place done count : ℕ) (bytes given : List ℕ)
    (fit : place + length bytes ≤ length (c.seen f.below)) (some : 0 < count) (less : done + count ≤ length bytes) (one : (place + done) % 512 + count ≤ 512)
    (edge' : (done + count ≡ length bytes) ⊎ ((place + done + count) % 512 ≡ 0)) (part : given ≡ take count (drop done bytes)) where
  private_len : length given ≡ count
  private_len = ap length part ∙ length-take-le count (drop done bytes) (rw length-drop (omega arith))

  pub progress_more : Progress c f g place done bytes → Put c g h (place + done) given → kept h.table.slots ((place + done) / 512) ≡ true → Progress c f h place (done + count) bytes
  progress_more p q k =
      let nx = length_overlaid f.table.slots (c.seen f.below) in
      let ng = private_len in
      let nt : length (take done bytes) ≡ done = length-take-le done bytes (omega arith) in
      let n₁ : length (seen_by c g) ≡ length (seen_by c f) = ap length p.put.put ∙ length_patched (seen_by c f) place (take done bytes) (omega arith) in
      let others : (s : ℕ) → (s ≡ (place + done) / 512 → ⊥) → sector (seen_by c h) s ≡ sector (seen_by c g) s =
      λ s un. ap (λ (z : List ℕ). sector z s) q.put ∙ sector_untouched (seen_by c g) (place + done) given s (omega arith) (λ t. un (let b = t.1 in let d = t.2 in omega arith)) in
      let here : sector (seen_by c g) ((place + done) / 512) ≡ sector (seen_by c f) ((place + done) / 512) =
      ap (λ (z : List ℕ). sector z ((place + done) / 512)) p.put.put
      ∙ sector_untouched (seen_by c f) place (take done bytes) ((place + done) / 512) (omega arith)
      (λ t. let a = t.0 in let b = t.1 in ⊎_elim (λ (z : done ≡ 0). omega arith) (⊎_elim (λ (z : done ≡ length bytes). omega arith) (λ (z : (place + done) % 512 ≡ 0). omega arith)) p.edge) in
      record {
        upto = less;
        put = record {
          put = q.put ∙ ap (λ (z : List ℕ). patched z (place + done) given) p.put.put ∙ ap (patched (patched (seen_by c f) place (take done bytes)) (place + done)) part
              ∙ patched_more (seen_by c f) place bytes done count less (omega arith);
          lists = grown_more (seen_by c f) (seen_by c g) (seen_by c h) _ _ _ ((place + done) / 512) (λ s. with_seen f.table.slots (c.seen f.below) (c.may f.below) s (laws.held f.below s)) p.put.lists q.lists others here;
          trails = grown_more (seen_by c f) (seen_by c g) (seen_by c h) _ _ _ ((place + done) / 512)
              (λ s. with_seen f.table.slots (c.seen f.below) (c.trail f.below) s (laws.trailed f.below s _ (laws.held f.below s))) p.put.trails q.trails others here;
        };
        edge = ⊎_elim (λ (z : done + count ≡ length bytes). inr (inl z)) (λ (z : (place + done + count) % 512 ≡ 0). inr (inr (omega arith))) edge';
        last = λ _. ap (kept h.table.slots) (let z : (place + (done + count) - 1) / 512 ≡ (place + done) / 512 = omega arith in z) ∙ k;
      }

pub progress_length : {C : Type 0} (c : Ghosts C) (g h : Hold C) (place done : ℕ) (bytes : List ℕ)
    → place + length bytes ≤ length (c.seen g.below) → Progress c g h place done bytes → length (c.seen h.below) ≡ length (c.seen g.below)
progress_length c g h place done bytes fit p =
    let n = length_overlaid g.table.slots (c.seen g.below) in
    let t = length-take done bytes in
    let u = p.upto in
    sym (length_overlaid h.table.slots (c.seen h.below)) ∙ ap length p.put.put ∙ length_patched (seen_by c g) place (take done bytes) (omega arith) ∙ n
