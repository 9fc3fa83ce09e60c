-- Laws of blocks and spans that share a sector, and of those that share none.
use Rattle.std.proofs.Common.{◌≡◌, ℕ, ◌+◌, ◌*◌, ◌/◌, ◌<◌, ◌≤◌, Bool, true, false, not, ◌&&◌, ltb, List, [], ◌∷◌, refl, inl, inr, ⊎_elim, arith}
use Rattle.std.proofs.lemmas.Bool.{both_ways, ltb-true, lt-ltb, and_parts, and_from, and_left, and_right, not-true, not_from_true, not_from_false, cases_lt, cases_Bool}
use Rattle.pages.specs.Extents.{Span}
use Rattle.places.specs.Places.{behind, shares, clears}
use Rattle.places.specs.Lowest.{Clear}

-- `len` bytes from a place on share a sector with a span
pub record Shared (place len : ℕ) (s : Span) : Type 0 where
  pub some : 0 < len
  pub any : 0 < s.count
  pub ahead : place / 512 < behind s.place s.count
  pub after : s.place / 512 < behind place len

pub shares_true : (place len : ℕ) (s : Span) → shares place len s ≡ true → Shared place len s
shares_true place len s t =
    let a : Bool = ltb 0 len && ltb 0 s.count in
    let b : Bool = ltb (place / 512) (behind s.place s.count) && ltb (s.place / 512) (behind place len) in
    let p = and_parts a b t in
    let q = and_parts (ltb 0 len) (ltb 0 s.count) p.0 in
    let r = and_parts (ltb (place / 512) (behind s.place s.count)) (ltb (s.place / 512) (behind place len)) p.1 in
    record {
      some = ltb-true 0 len q.0;
      any = ltb-true 0 s.count q.1;
      ahead = ltb-true (place / 512) (behind s.place s.count) r.0;
      after = ltb-true (s.place / 512) (behind place len) r.1;
    }

pub shares_from : (place len : ℕ) (s : Span) → Shared place len s → shares place len s ≡ true
shares_from place len s h =
    let a : Bool = ltb 0 len && ltb 0 s.count in
    let b : Bool = ltb (place / 512) (behind s.place s.count) && ltb (s.place / 512) (behind place len) in
    and_from a b
    (and_from (ltb 0 len) (ltb 0 s.count) (lt-ltb 0 len h.some) (lt-ltb 0 s.count h.any))
    (and_from (ltb (place / 512) (behind s.place s.count)) (ltb (s.place / 512) (behind place len)) (lt-ltb (place / 512) (behind s.place s.count) h.ahead) (lt-ltb (s.place / 512) (behind place len) h.after))

-- a later place shares a sector too, as long as it is not behind the span
pub shared_up : (place len q : ℕ) (s : Span) → place ≤ q → q < 512 * behind s.place s.count → Shared place len s → Shared q len s
shared_up place len q s h k t = record {
  some = t.some;
  any = t.any;
  ahead = omega arith;
  after = omega (arith, t.after);
}

-- a byte of either that stand in one sector
shared_bytes : (place len p c : ℕ) → 0 < len → 0 < c → place / 512 < behind p c → p / 512 < behind place len
    → ((i e : ℕ) → place ≤ i → i < place + len → p ≤ e → e < p + c → i / 512 ≡ e / 512 → ⊥) → ⊥
shared_bytes place len p c a b f g none =
    ⊎_elim
    (λ h. ⊎_elim
    (λ k. none (512 * (p / 512)) p (omega arith) (omega arith) (omega arith) (omega arith) (omega arith))
    (λ k. none place p (omega arith) (omega arith) (omega arith) (omega arith) (omega arith))
    (cases_lt (place / 512) (p / 512)))
    (λ h. ⊎_elim
    (λ k. none place (512 * (place / 512)) (omega arith) (omega arith) (omega arith) (omega arith) (omega arith))
    (λ k. none place p (omega arith) (omega arith) (omega arith) (omega arith) (omega arith))
    (cases_lt (p / 512) (place / 512)))
    (cases_lt place p)

-- the test tells whether the bytes are clear of the spans
pub clears_clear : (ss : List Span) (place len : ℕ) → clears ss place len ≡ true → Clear ss place len
unfolding clears
clears_clear [] place len t i e h k c same = c
clears_clear (s ∷ ss) place len t i e h k (inl c) same =
    let p = and_parts (not (shares place len s)) (clears ss place len) t in
    both_ways (shares place len s) (not-true (shares place len s) p.0)
    (shares_from place len s (record { some = omega arith; any = omega arith; ahead = omega arith; after = omega arith }))
clears_clear (s ∷ ss) place len t i e h k (inr c) same =
    clears_clear ss place len (and_parts (not (shares place len s)) (clears ss place len) t).1 i e h k c same

pub clear_clears : (ss : List Span) (place len : ℕ) → Clear ss place len → clears ss place len ≡ true
unfolding clears
clear_clears [] place len f = refl
clear_clears (s ∷ ss) place len f =
    and_from (not (shares place len s)) (clears ss place len)
    (⊎_elim
    (λ t. absurd (let h = shares_true place len s t in shared_bytes place len s.place s.count h.some h.any h.ahead h.after (λ i e a b c d. f i e a b (inl (c, d)))))
    (λ t. not_from_false (shares place len s) t)
    (cases_Bool (shares place len s)))
    (clear_clears ss place len (λ i e a b c. f i e a b (inr c)))

-- a block that shares a sector with the first of some spans is not clear of them, nor is one that is not clear of the others
pub unclear_first : (s : Span) (ss : List Span) (place len : ℕ) → shares place len s ≡ true → clears (s ∷ ss) place len ≡ false
unfolding clears
unclear_first s ss place len t = and_left (not (shares place len s)) (clears ss place len) (not_from_true (shares place len s) t)

pub unclear_rest : (s : Span) (ss : List Span) (place len : ℕ) → clears ss place len ≡ false → clears (s ∷ ss) place len ≡ false
unfolding clears
unclear_rest s ss place len t = and_right (not (shares place len s)) (clears ss place len) t

pub clear_both : (s : Span) (ss : List Span) (place len : ℕ) → shares place len s ≡ false → clears ss place len ≡ true → clears (s ∷ ss) place len ≡ true
unfolding clears
clear_both s ss place len t u = and_from (not (shares place len s)) (clears ss place len) (not_from_false (shares place len s) t) u
