-- Laws of a store seen through a table. Assumes nothing.
use Rattle.std.specs.Prelude.{◌≡◌, ℕ, ◌+◌, ◌*◌, ◌/◌, ◌%◌, ◌^◌, ◌<◌, true, false, List, ◌∷◌, length, slice_index, slice_index_or, refl}
use Rattle.std.proofs.Common.{sym, ap, subst, ◌∙◌, inl, inr, ⊎_elim, arith}
use Rattle.std.proofs.lemmas.List.FromFn.{length-map-range_with_len, get_or-map-range_with_len}
use Rattle.std.proofs.lemmas.List.{ext_get_or}
use Rattle.std.proofs.lemmas.Bool.{cases_Bool, cond-true, cond-false}
use Rattle.octets.specs.Sectors.{sector, In, Lists}
use Rattle.store.specs.Rules.{Laws}
use Rattle.hold.specs.Kept.{Slot, content, kept, slot_of, over, byte, overlaid, with_kept}
use Rattle.octets.proofs.Patches.{length_sector, get_or_sector}
use Rattle.octets.proofs.Contents.{in_same}

pub length_overlaid : (slots : List Slot) (below : List ℕ) → length (overlaid slots below) ≡ length below
unfolding overlaid
length_overlaid slots below = length-map-range_with_len (byte slots below) 0 (length below)

pub get_or_overlaid : (slots : List Slot) (below : List ℕ) (i d : ℕ) → i < length below → slice_index_or (overlaid slots below) i d ≡ byte slots below i
unfolding overlaid
get_or_overlaid slots below i d h = get_or-map-range_with_len (byte slots below) 0 (length below) i i d h (omega arith)

pub byte_kept : (slots : List Slot) (below : List ℕ) (i : ℕ) → kept slots (i / 512) ≡ true → byte slots below i ≡ slice_index (content (slot_of slots (i / 512))) (i % 512)
unfolding over
byte_kept slots below i h = cond-true _ _ _ h

pub byte_below : (slots : List Slot) (below : List ℕ) (i : ℕ) → kept slots (i / 512) ≡ false → byte slots below i ≡ slice_index below i
unfolding over
byte_below slots below i h = cond-false _ _ _ h

-- a sector that is not kept is seen as below
pub sector_below : (slots : List Slot) (below : List ℕ) (s : ℕ) → kept slots s ≡ false → sector (overlaid slots below) s ≡ sector below s
sector_below slots below s h =
    let n = length_overlaid slots below in
    let u = length_sector (overlaid slots below) s in
    let v = length_sector below s in
    ext_get_or 0 _ _ (omega arith) (λ i l.
    let m : i < 512 = omega arith in
    let q : (512 * s + i) / 512 ≡ s = omega arith in
    get_or_sector (overlaid slots below) s i 0 m
    ∙ get_or_overlaid slots below (512 * s + i) 0 (omega arith)
    ∙ byte_below slots below (512 * s + i) (ap (kept slots) q ∙ h)
    ∙ sym (get_or_sector below s i 0 m))

module _ (slots : List Slot) (below : List ℕ) (lists : Lists) (s : ℕ) where
  with_is : kept slots s ≡ true → with_kept slots below lists s ≡ sector (overlaid slots below) s ∷ lists s
  unfolding with_kept
  with_is h = cond-true _ _ _ h

  with_none : kept slots s ≡ false → with_kept slots below lists s ≡ lists s
  unfolding with_kept
  with_none h = cond-false _ _ _ h

  -- what is seen stands in the list
  pub with_seen : In (sector below s) (lists s) → In (sector (overlaid slots below) s) (with_kept slots below lists s)
  with_seen m =
      ⊎_elim
      (λ (h : kept slots s ≡ true). subst (λ (xs : List (List ℕ)). In (sector (overlaid slots below) s) xs) (sym (with_is h)) (inl refl))
      (λ (h : kept slots s ≡ false). subst (λ (xs : List (List ℕ)). In (sector (overlaid slots below) s) xs) (sym (with_none h)) (in_same _ _ _ (sector_below slots below s h) m))
      (cases_Bool (kept slots s))

  -- what stands in the list is what is seen, or stands in the list below
  pub with_cases : (c : List ℕ) → In c (with_kept slots below lists s) → In c (sector (overlaid slots below) s ∷ lists s)
  with_cases c m =
      ⊎_elim
      (λ (h : kept slots s ≡ true). subst (λ (xs : List (List ℕ)). In c xs) (with_is h) m)
      (λ (h : kept slots s ≡ false). inr (subst (λ (xs : List (List ℕ)). In c xs) (with_none h) m))
      (cases_Bool (kept slots s))

  pub with_below : (c : List ℕ) → In c (lists s) → In c (with_kept slots below lists s)
  with_below c m =
      ⊎_elim
      (λ (h : kept slots s ≡ true). subst (λ (xs : List (List ℕ)). In c xs) (sym (with_is h)) (inr m))
      (λ (h : kept slots s ≡ false). subst (λ (xs : List (List ℕ)). In c xs) (sym (with_none h)) m)
      (cases_Bool (kept slots s))

  -- a list where the sector is not kept
  pub with_free : kept slots s ≡ false → (c : List ℕ) → In c (with_kept slots below lists s) → In c (lists s)
  with_free h c m = subst (λ (xs : List (List ℕ)). In c xs) (with_none h) m

-- the laws of a store seen through a table
pub kept_laws : {S B : Type 0} (slots : S → List Slot) (below : S → B) {seen : B → List ℕ} {may trail : B → Lists} → Laws seen may trail
    → Laws (λ h. overlaid (slots h) (seen (below h))) (λ h. with_kept (slots h) (seen (below h)) (may (below h))) (λ h. with_kept (slots h) (seen (below h)) (trail (below h)))
kept_laws slots below {seen} {may} {trail} laws = record {
  short = λ h. subst (λ (n : ℕ). n < 2 ^ 31) (sym (length_overlaid (slots h) (seen (below h)))) (laws.short (below h));
  held = λ h s. with_seen (slots h) (seen (below h)) (may (below h)) s (laws.held (below h) s);
  trailed = λ h s c m. ⊎_elim
      (λ (e : c ≡ sector (overlaid (slots h) (seen (below h))) s). in_same _ _ _ e (with_seen (slots h) (seen (below h)) (trail (below h)) s (laws.trailed (below h) s _ (laws.held (below h) s))))
      (λ (k : In c (may (below h) s)). with_below (slots h) (seen (below h)) (trail (below h)) s c (laws.trailed (below h) s c k))
      (with_cases (slots h) (seen (below h)) (may (below h)) s c m);
}
