-- The search over sectors finds the lowest place.
use Rattle.std.proofs.Common.{◌≡◌, ℕ, zero, suc, ◌+◌, ◌*◌, ◌/◌, ◌<◌, ◌≤◌, true, false, leb, ◌⊎◌, List, length, Some, None, sym, refl, ap, ◌∙◌, subst, inl, inr, ⊎_elim, arith}
use Rattle.std.proofs.lemmas.Bool.{both_ways, leb-true, le-leb, lt-leb, and_parts, and_from, and_left, and_right, cond-true, cond-false, cases_lt, cases_Bool, cases_order}
use Rattle.pages.specs.declared.layout.Layout.{Layout}
use Rattle.pages.specs.Extents.{extents}
use Rattle.places.specs.Places.{clears, free, place_from, place_of}
use Rattle.places.specs.Lowest.{Suits, LowestPlace, Placed}
use Rattle.places.proofs.Sharing.{clears_clear, clear_clears}

module _ (bs : List ℕ) (l : Layout) (len : ℕ) where
  pub free_parts : (place : ℕ) → free bs l len place ≡ true → (place + len ≤ length bs) × (clears (extents bs l) place len ≡ true)
  unfolding free
  free_parts place t =
      let p = and_parts (leb (place + len) (length bs)) (clears (extents bs l) place len) t in
      (leb-true (place + len) (length bs) p.0, p.1)

  pub free_from : (place : ℕ) → place + len ≤ length bs → clears (extents bs l) place len ≡ true → free bs l len place ≡ true
  unfolding free
  free_from place h t = and_from (leb (place + len) (length bs)) (clears (extents bs l) place len) (le-leb (place + len) (length bs) h) t

  pub free_past : (place : ℕ) → length bs < place + len → free bs l len place ≡ false
  unfolding free
  free_past place h = and_left (leb (place + len) (length bs)) (clears (extents bs l) place len) (lt-leb (place + len) (length bs) h)

  pub free_unclear : (place : ℕ) → clears (extents bs l) place len ≡ false → free bs l len place ≡ false
  unfolding free
  free_unclear place t = and_right (leb (place + len) (length bs)) (clears (extents bs l) place len) t

  -- a free sector from 1 on is a place that suits, and such a place is a free sector
  pub suits_from : (k : ℕ) → 0 < k → free bs l len (512 * k) ≡ true → Suits bs l len (512 * k)
  suits_from k h t =
      let p = free_parts (512 * k) t in
      record { multiple = omega arith; above = omega arith; ends = p.0; clear = clears_clear (extents bs l) (512 * k) len p.1 }

  pub suits_free : (place : ℕ) → Suits bs l len place → free bs l len place ≡ true
  suits_free place s = free_from place s.ends (clear_clears (extents bs l) place len s.clear)

  -- the sector at which a suitable place begins
  sector_of : (place : ℕ) → Suits bs l len place → (k : ℕ) × (0 < k) × (place ≡ 512 * k) × (free bs l len (512 * k) ≡ true)
  sector_of place s =
      let m = s.multiple in
      let a = s.above in
      let e : place ≡ 512 * (place / 512) = omega arith in
      (place / 512, omega arith, e, subst (λ q. free bs l len q ≡ true) e (suits_free place s))

  -- the first of `left` sectors, from sector s on, that is free
  pub from_found : (left s k : ℕ) → s ≤ k → k < s + left → free bs l len (512 * k) ≡ true
      → ((j : ℕ) → s ≤ j → j < k → free bs l len (512 * j) ≡ false) → place_from left bs l len s ≡ Some (512 * k)
  unfolding place_from
  from_found zero s k a b t f = absurd (omega arith)
  from_found (suc left) s k a b t f =
      ⊎_elim
      (λ h. cond-false (free bs l len (512 * s)) (Some (512 * s)) (place_from left bs l len (s + 1)) (f s (omega arith) h)
      ∙ from_found left (s + 1) k (omega arith) (omega arith) t (λ j c d. f j (omega arith) d))
      (λ h.
      let e : k ≡ s = omega arith in
      cond-true (free bs l len (512 * s)) (Some (512 * s)) (place_from left bs l len (s + 1)) (subst (λ q. free bs l len (512 * q) ≡ true) e t)
      ∙ ap (λ q. Some (512 * q)) (sym e))
      (cases_lt s k)

  pub from_none : (left s : ℕ) → ((j : ℕ) → s ≤ j → free bs l len (512 * j) ≡ false) → place_from left bs l len s ≡ None
  unfolding place_from
  from_none zero s f = refl
  from_none (suc left) s f =
      cond-false (free bs l len (512 * s)) (Some (512 * s)) (place_from left bs l len (s + 1)) (f s (omega arith))
      ∙ from_none left (s + 1) (λ j h. f j (omega arith))

  pub place_found : (k : ℕ) → 0 < k → free bs l len (512 * k) ≡ true
      → ((j : ℕ) → 0 < j → j < k → free bs l len (512 * j) ≡ false) → place_of bs l len ≡ Some (512 * k)
  unfolding place_of
  place_found k h t f =
      let e = (free_parts (512 * k) t).0 in
      from_found (length bs / 512) 1 k (omega arith) (omega arith) t (λ j a b. f j (omega arith) b)

  pub place_none : ((j : ℕ) → 0 < j → free bs l len (512 * j) ≡ false) → place_of bs l len ≡ None
  unfolding place_of
  place_none f = from_none (length bs / 512) 1 (λ j a. f j (omega arith))

  -- a sector that is the first free one
  record First (k : ℕ) : Type 0 where
    pub some : 0 < k
    pub fits : free bs l len (512 * k) ≡ true
    pub lower : (j : ℕ) → 0 < j → j < k → free bs l len (512 * j) ≡ false

  first_lowest : (k : ℕ) → First k → LowestPlace bs l len (512 * k)
  first_lowest k f = record {
    suits = suits_from k f.some f.fits;
    lowest = λ q h s.
        let z = sector_of q s in
        let a : z.0 < k = omega (arith, z.2) in
        both_ways (free bs l len (512 * z.0)) (f.lower z.0 z.1 a) z.3;
  }

  -- below a bound there is a first free sector, or none
  seek : (n : ℕ) → ((k : ℕ) × First k) ⊎ ((j : ℕ) → 0 < j → j < n → free bs l len (512 * j) ≡ false)
  seek zero = inr (λ j h k. absurd (omega arith))
  seek (suc n) = ⊎_elim inl (λ f. here n f (cases_lt 0 n) (cases_Bool (free bs l len (512 * n)))) (seek n)
    where
      more : (n : ℕ) → ((j : ℕ) → 0 < j → j < n → free bs l len (512 * j) ≡ false) → (free bs l len (512 * n) ≡ false)
          → (j : ℕ) → 0 < j → j < suc n → free bs l len (512 * j) ≡ false
      more n f t j a b = ⊎_elim (λ h. f j a h) (λ h. let e : n ≡ j = omega arith in subst (λ q. free bs l len (512 * q) ≡ false) e t) (cases_lt j n)

      here : (n : ℕ) → ((j : ℕ) → 0 < j → j < n → free bs l len (512 * j) ≡ false) → (0 < n) ⊎ (n ≤ 0)
          → (free bs l len (512 * n) ≡ true) ⊎ (free bs l len (512 * n) ≡ false)
          → ((k : ℕ) × First k) ⊎ ((j : ℕ) → 0 < j → j < suc n → free bs l len (512 * j) ≡ false)
      here n f (inr z) t = inr (λ j a b. absurd (omega arith))
      here n f (inl z) (inl t) = inl (n, record { some = z; fits = t; lower = f })
      here n f (inl z) (inr t) = inr (more n f t)

  unsuited : ((j : ℕ) → 0 < j → free bs l len (512 * j) ≡ false) → (place : ℕ) → Suits bs l len place → ⊥
  unsuited f place s =
      let z = sector_of place s in
      both_ways (free bs l len (512 * z.0)) (f z.0 z.1) z.3

  -- there is a first free sector, or none at all
  outcome : ((k : ℕ) × First k) ⊎ ((j : ℕ) → 0 < j → free bs l len (512 * j) ≡ false)
  outcome =
      ⊎_elim inl
      (λ f. inr (λ j h. ⊎_elim (λ a. f j h a) (λ a. free_past (512 * j) (omega arith)) (cases_lt j (length bs + 1))))
      (seek (length bs + 1))

  only : (p q : ℕ) → LowestPlace bs l len p → LowestPlace bs l len q → p ≡ q
  only p q a b =
      ⊎_elim (λ e. e)
      (⊎_elim (λ h. absurd (b.lowest p h a.suits)) (λ h. absurd (a.lowest q h b.suits)))
      (cases_order p q)

  -- the place of a block is the lowest that suits, and there is none exactly if none suits
  pub place_placed : Placed bs l len (place_of bs l len)
  place_placed = by outcome
    where
      by : ((k : ℕ) × First k) ⊎ ((j : ℕ) → 0 < j → free bs l len (512 * j) ≡ false) → Placed bs l len (place_of bs l len)
      by (inl z) =
          let f = z.1 in
          let e : place_of bs l len ≡ Some (512 * z.0) = place_found z.0 f.some f.fits f.lower in
          let low = first_lowest z.0 f in
          record {
            found = λ place h. let same : 512 * z.0 ≡ place = cc in subst (LowestPlace bs l len) same low;
            finds = λ place h. e ∙ ap Some (only (512 * z.0) place low h);
            none = λ h. absurd (let y : ◌≡◌ {A = ℕ} 0 1 = cc in omega arith);
            refuses = λ h. absurd (h (512 * z.0) low.suits);
          }
      by (inr f) =
          let e : place_of bs l len ≡ None = place_none f in
          record {
            found = λ place h. absurd (let y : ◌≡◌ {A = ℕ} 0 1 = cc in omega arith);
            finds = λ place h. absurd (unsuited f place h.suits);
            none = λ h place s. unsuited f place s;
            refuses = λ h. e;
          }
