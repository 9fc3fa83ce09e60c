-- What a look at each extent in turn does to the place of a block.
use Rattle.std.proofs.Common.{◌≡◌, ℕ, ◌*◌, ◌%◌, ◌<◌, ◌≤◌, true, false, ◌⊎◌, List, [], ◌∷◌, ◌++◌, sym, refl, ap, ◌∙◌, inl, inr, ⊎_elim, arith}
use Rattle.std.proofs.lemmas.Bool.{cond-true, cond-false, cond_both, cases_lt, cases_Bool}
use Rattle.pages.specs.Extents.{Span}
use Rattle.places.specs.Places.{behind, shares, clears}
use Rattle.places.specs.Search.{passed, passed_all}
use Rattle.places.proofs.Sharing.{shares_true, shares_from, shared_up, unclear_first, unclear_rest, clear_both}

-- the sectors from 1 on that begin below a place are none at which a block is clear of some spans
pub record Tried (all : List Span) (len place : ℕ) : Type 0 where
  pub multiple : place % 512 ≡ 0
  pub above : 512 ≤ place
  pub lower : (j : ℕ) → 0 < j → 512 * j < place → clears all (512 * j) len ≡ false

moves : (len place : ℕ) (s : Span) → shares place len s ≡ true → place < 512 * behind s.place s.count
moves len place s t = let h = (shares_true place len s t).ahead in omega arith

passed_grows : (len place : ℕ) (s : Span) → place ≤ passed len place s
passed_grows len place s =
    cond_both (shares place len s) (512 * behind s.place s.count) place (λ r. place ≤ r) (λ t. let h = moves len place s t in omega arith) (λ _. omega arith)

pub all_grows : (len place : ℕ) (ss : List Span) → place ≤ passed_all len place ss
unfolding passed_all
all_grows len place [] = omega arith
all_grows len place (s ∷ ss) =
    let h = passed_grows len place s in
    let k = all_grows len (passed len place s) ss in
    omega arith

same_first : (len place : ℕ) (s : Span) (ss : List Span) → passed_all len (passed len place s) ss ≡ place → (passed len place s ≡ place) × (shares place len s ≡ false)
same_first len place s ss e = by (cases_Bool (shares place len s))
  where
    by : (shares place len s ≡ true) ⊎ (shares place len s ≡ false) → (passed len place s ≡ place) × (shares place len s ≡ false)
    by (inl t) =
        let a = moves len place s t in
        let b : passed len place s ≡ 512 * behind s.place s.count = cond-true (shares place len s) (512 * behind s.place s.count) place t in
        let c = all_grows len (passed len place s) ss in
        absurd (omega arith)
    by (inr t) = (cond-false (shares place len s) (512 * behind s.place s.count) place t, t)

-- a place that did not move is clear of the spans
pub all_same : (len place : ℕ) (ss : List Span) → passed_all len place ss ≡ place → clears ss place len ≡ true
unfolding passed_all clears
all_same len place [] e = refl
all_same len place (s ∷ ss) e =
    let f = same_first len place s ss e in
    clear_both s ss place len f.1 (all_same len place ss (ap (λ q. passed_all len q ss) (sym f.0) ∙ e))

-- one look, at a span of some
passed_tried : (all : List Span) (len place : ℕ) (s : Span) → ((q : ℕ) → shares q len s ≡ true → clears all q len ≡ false)
    → Tried all len place → Tried all len (passed len place s)
passed_tried all len place s each t =
    cond_both (shares place len s) (512 * behind s.place s.count) place (Tried all len)
    (λ h.
    let m = moves len place s h in
    let a = t.above in
    record {
      multiple = omega arith;
      above = omega arith;
      lower = λ j k b.
          ⊎_elim (λ c. t.lower j k c)
          (λ c. each (512 * j) (shares_from (512 * j) len s (shared_up place len (512 * j) s c b (shares_true place len s h))))
          (cases_lt (512 * j) place);
    })
    (λ _. t)

-- a look at each of some spans
pub all_tried : (all : List Span) (len place : ℕ) (ss : List Span) → ((q : ℕ) → clears ss q len ≡ false → clears all q len ≡ false)
    → Tried all len place → Tried all len (passed_all len place ss)
unfolding passed_all
all_tried all len place [] each t = t
all_tried all len place (s ∷ ss) each t =
    all_tried all len (passed len place s) ss (λ q h. each q (unclear_rest s ss q len h))
    (passed_tried all len place s (λ q h. each q (unclear_first s ss q len h)) t)

-- a look at spans, and then at more
pub all_append : (len place : ℕ) (ss ts : List Span) → passed_all len place (ss ++ ts) ≡ passed_all len (passed_all len place ss) ts
unfolding passed_all
all_append len place [] ts = refl
all_append len place (s ∷ ss) ts = all_append len (passed len place s) ss ts
