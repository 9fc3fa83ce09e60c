-- What a block at its place leaves as it was: the extents of the page, and the header.
use Rattle.std.proofs.Common.{◌≡◌, ℕ, ◌+◌, ◌*◌, ◌/◌, ◌<◌, ◌≤◌, ◌⊎◌, List, length, Some, sym, refl, inl, inr, ⊎_elim, arith}
use Rattle.std.proofs.lemmas.Bool.{cases_lt}
use Rattle.octets.specs.Rows.{byte}
use Rattle.octets.specs.Sectors.{Touched, patched}
use Rattle.octets.proofs.Patches.{get_or_patched_below, get_or_patched_above}
use Rattle.pages.specs.declared.layout.Layout.{Layout}
use Rattle.pages.specs.Extents.{Covered, AgreeOn, extents}
use Rattle.places.specs.Places.{place_of}
use Rattle.places.specs.Lowest.{Suits}
use Rattle.places.proofs.Finding.{place_placed}

-- the place that is answered suits the block
pub place_suits : (bs : List ℕ) (l : Layout) (len place : ℕ) → place_of bs l len ≡ Some place → Suits bs l len place
place_suits bs l len place e = ((place_placed bs l len).found place e).suits

-- the bytes from `at` on, `count` of them, lie in a block of `len` bytes at its place
pub record Within (at count place len : ℕ) : Type 0 where
  pub from : place ≤ at
  pub to : at + count ≤ place + len

module _ (bs : List ℕ) (l : Layout) (len place : ℕ) (s : Suits bs l len place) where
  -- a sector that such bytes touch is not sector 0, and no byte of it is in an extent
  pub touched_above : (at count k : ℕ) → Within at count place len → Touched at count k → 0 < k
  touched_above at count k w t = let a = s.above in let b = w.from in omega (arith, t.2)

  pub touched_apart : (at count k e : ℕ) → Within at count place len → Touched at count k → e / 512 ≡ k → Covered (extents bs l) e → ⊥
  touched_apart at count k e w t h c =
      let a = w.from in
      let b = w.to in
      ⊎_elim
      (λ o. s.clear at e a (omega (arith, t.0)) c (omega (arith, t.2)))
      (λ o. s.clear (512 * k) e (omega arith) (omega (arith, t.1)) c (omega arith))
      (cases_lt (512 * k) at)

  -- no byte of the block is in an extent
  pub block_apart : (i : ℕ) → place ≤ i → i < place + len → Covered (extents bs l) i → ⊥
  block_apart i a b c = s.clear i i a b c refl

  -- bytes that differ only within the block agree on the extents
  pub outside_agrees : (cs : List ℕ) → ((i : ℕ) → (i < place) ⊎ (place + len ≤ i) → byte bs i ≡ byte cs i) → AgreeOn (extents bs l) bs cs
  outside_agrees cs f i c =
      ⊎_elim (λ h. f i (inl h))
      (λ h. ⊎_elim (λ k. absurd (block_apart i h k c)) (λ k. f i (inr k)) (cases_lt i (place + len)))
      (cases_lt i place)

  -- a write within the block changes no byte below it, and none of an extent
  pub write_below : (at : ℕ) (given : List ℕ) → Within at (length given) place len → (i : ℕ) → i < 512 → byte bs i ≡ byte (patched bs at given) i
  write_below at given w i h =
      let a = s.above in
      let b = s.ends in
      let c = w.from in
      let d = w.to in
      sym (get_or_patched_below bs at given i 0 (omega arith) (omega arith))

  pub write_agrees : (at : ℕ) (given : List ℕ) → Within at (length given) place len → AgreeOn (extents bs l) bs (patched bs at given)
  write_agrees at given w = outside_agrees (patched bs at given) each
    where
      each : (i : ℕ) → (i < place) ⊎ (place + len ≤ i) → byte bs i ≡ byte (patched bs at given) i
      each i (inl h) = let b = s.ends in let c = w.from in let d = w.to in sym (get_or_patched_below bs at given i 0 (omega arith) (omega arith))
      each i (inr h) = let b = s.ends in let c = w.from in let d = w.to in sym (get_or_patched_above bs at given i 0 (omega arith) (omega arith))
