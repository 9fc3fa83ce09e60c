-- Laws of a part of a store. Assumes nothing.
use Rattle.std.specs.Prelude.{◌≡◌, ℕ, ◌+◌, ◌-◌, ◌*◌, ◌/◌, ◌%◌, ◌^◌, ◌<◌, ◌≤◌, true, false, List, [], ◌∷◌, map, length, get_or, take, drop, ◌==◌, nat_le, slice_index, slice_index_or}
use Rattle.std.proofs.Common.{sym, ap, subst, ◌∙◌, inl, ⊎_elim, arith, length-take, length-drop}
use Rattle.std.proofs.Math.Seq.{drop-nil}
use Rattle.std.proofs.lemmas.List.{get_or-take, get_or-drop, ext_get_or, length-take-le}
use Rattle.std.proofs.lemmas.Bool.{cases_Bool, cond-true, cond-false, and_parts, eqb-true, leb-true}
use Rattle.octets.specs.Sectors.{sector, In, Lists}
use Rattle.tray.specs.Parts.{fits, cut, cut_lists}
use Rattle.store.specs.Rules.{Laws}
use Rattle.octets.proofs.Patches.{length_sector, get_or_sector}
use Rattle.octets.proofs.Contents.{in_map, from_map, in_same}

pub fits_start : (n from len : ℕ) → fits n from len ≡ true → 512 * (from / 512) ≡ from
unfolding fits
fits_start n from len h = let e = eqb-true _ _ (and_parts (from % 512 == 0) (nat_le (from + len) n) h).0 in omega arith

pub fits_end : (n from len : ℕ) → fits n from len ≡ true → from + len ≤ n
unfolding fits
fits_end n from len h = leb-true _ _ (and_parts (from % 512 == 0) (nat_le (from + len) n) h).1

module _ (bytes : List ℕ) (from len : ℕ) where
  pub cut_is : fits (length bytes) from len ≡ true → cut bytes from len ≡ take len (drop from bytes)
  unfolding cut
  cut_is h = cond-true _ _ _ h

  pub cut_none : fits (length bytes) from len ≡ false → cut bytes from len ≡ []
  unfolding cut
  cut_none h = cond-false _ _ _ h

  pub length_cut : fits (length bytes) from len ≡ true → length (cut bytes from len) ≡ len
  length_cut h =
      let e = fits_end (length bytes) from len h in
      ap length (cut_is h) ∙ length-take-le len (drop from bytes) (rw length-drop (omega arith))

  pub get_or_cut : (i d : ℕ) → fits (length bytes) from len ≡ true → i < len → slice_index_or (cut bytes from len) i d ≡ slice_index_or bytes (from + i) d
  get_or_cut i d h l = ap (λ (xs : List ℕ). get_or xs i d) (cut_is h) ∙ get_or-take len (drop from bytes) i d l ∙ get_or-drop from bytes i d

  -- a sector of the part, by the one below
  pub sector_cut : (s : ℕ) → fits (length bytes) from len ≡ true → sector (cut bytes from len) s ≡ take (len - 512 * s) (sector bytes (from / 512 + s))
  sector_cut s h =
      let n = length_cut h in
      let b = fits_start (length bytes) from len h in
      let e = fits_end (length bytes) from len h in
      let u = length_sector (cut bytes from len) s in
      let v = length_sector bytes (from / 512 + s) in
      let w = length-take (len - 512 * s) (sector bytes (from / 512 + s)) in
      ext_get_or 0 _ _ (omega arith) (λ i l.
      let m : i < 512 = omega arith in
      let k : i < len - 512 * s = omega arith in
      get_or_sector (cut bytes from len) s i 0 m
      ∙ get_or_cut (512 * s + i) 0 h (omega arith)
      ∙ ap (λ (j : ℕ). slice_index bytes j) (let f : from + (512 * s + i) ≡ 512 * (from / 512 + s) + i = omega arith in f)
      ∙ sym (get_or-take (len - 512 * s) (sector bytes (from / 512 + s)) i 0 k ∙ get_or_sector bytes (from / 512 + s) i 0 m))

  module _ (lists : Lists) where
    pub lists_is : (s : ℕ) → fits (length bytes) from len ≡ true → cut_lists (length bytes) lists from len s ≡ map (take (len - 512 * s)) (lists (from / 512 + s))
    unfolding cut_lists
    lists_is s h = cond-true _ _ _ h

    pub lists_none : (s : ℕ) → fits (length bytes) from len ≡ false → cut_lists (length bytes) lists from len s ≡ [] ∷ []
    unfolding cut_lists
    lists_none s h = cond-false _ _ _ h

pub sector_nil : (s : ℕ) → sector [] s ≡ []
unfolding sector
sector_nil s = rw drop-nil

-- where each list holds the seen content, so does each of the part
pub cut_held : (bytes : List ℕ) (lists : Lists) (from len : ℕ) → ((s : ℕ) → In (sector bytes s) (lists s)) → (s : ℕ) → In (sector (cut bytes from len) s) (cut_lists (length bytes) lists from len s)
cut_held bytes lists from len h s =
    ⊎_elim
    (λ (e : fits (length bytes) from len ≡ true). subst (λ (xs : List (List ℕ)). In (sector (cut bytes from len) s) xs) (sym (lists_is bytes from len lists s e))
    (in_same _ _ _ (sector_cut bytes from len s e) (in_map (take (len - 512 * s)) _ _ (h (from / 512 + s)))))
    (λ (e : fits (length bytes) from len ≡ false). subst (λ (xs : List (List ℕ)). In (sector (cut bytes from len) s) xs) (sym (lists_none bytes from len lists s e))
    (inl (ap (λ (xs : List ℕ). sector xs s) (cut_none bytes from len e) ∙ sector_nil s)))
    (cases_Bool (fits (length bytes) from len))

-- what one list of the part has comes from the list below; where there is no part, all lists are one
pub cut_more : (bytes : List ℕ) (old new : Lists) (from len s : ℕ) → ((d : List ℕ) → In d (new (from / 512 + s)) → In d (old (from / 512 + s)))
    → (c : List ℕ) → In c (cut_lists (length bytes) new from len s) → In c (cut_lists (length bytes) old from len s)
cut_more bytes old new from len s h c m =
    ⊎_elim
    (λ (e : fits (length bytes) from len ≡ true).
    let t = from_map (take (len - 512 * s)) c _ (subst (λ (xs : List (List ℕ)). In c xs) (lists_is bytes from len new s e) m) in
    subst (λ (xs : List (List ℕ)). In c xs) (sym (lists_is bytes from len old s e)) (in_same _ _ _ t.2 (in_map (take (len - 512 * s)) t.0 _ (h t.0 t.1))))
    (λ (e : fits (length bytes) from len ≡ false).
    subst (λ (xs : List (List ℕ)). In c xs) (sym (lists_none bytes from len old s e)) (subst (λ (xs : List (List ℕ)). In c xs) (lists_none bytes from len new s e) m))
    (cases_Bool (fits (length bytes) from len))

cut_short : (bytes : List ℕ) (from len : ℕ) → length bytes < 2 ^ 31 → length (cut bytes from len) < 2 ^ 31
cut_short bytes from len h =
    ⊎_elim
    (λ (e : fits (length bytes) from len ≡ true). omega (arith, length_cut bytes from len e, fits_end (length bytes) from len e))
    (λ (e : fits (length bytes) from len ≡ false). omega (arith, ap length (cut_none bytes from len e)))
    (cases_Bool (fits (length bytes) from len))

-- the laws of a part of a store
pub part_laws : {S B : Type 0} (below : S → B) (from len : S → ℕ) {seen : B → List ℕ} {may trail : B → Lists} → Laws seen may trail
    → Laws (λ t. cut (seen (below t)) (from t) (len t)) (λ t. cut_lists (length (seen (below t))) (may (below t)) (from t) (len t)) (λ t. cut_lists (length (seen (below t))) (trail (below t)) (from t) (len t))
part_laws below from len {seen} {may} {trail} laws = record {
  short = λ t. cut_short (seen (below t)) (from t) (len t) (laws.short (below t));
  held = λ t. cut_held (seen (below t)) (may (below t)) (from t) (len t) (laws.held (below t));
  trailed = λ t s. cut_more (seen (below t)) (trail (below t)) (may (below t)) (from t) (len t) s (laws.trailed (below t) (from t / 512 + s));
}
