-- The segments of a page among its extents.
use Rattle.std.proofs.Common.{◌≡◌, ℕ, zero, suc, ◌+◌, ◌<◌, ◌≤◌, List, [], ◌∷◌, ◌++◌, map, length, get_or, sym, ap, ◌∙◌, subst, inl, inr, ⊎_elim, arith}
use Rattle.std.specs.List.{range_with_len}
use Rattle.std.proofs.lemmas.Bool.{cases_eq}
use Rattle.entries.specs.Entries.{entries_of}
use Rattle.pages.specs.declared.layout.Layout.{Layout}
use Rattle.pages.specs.Geometry.{segments_of, needed}
use Rattle.pages.specs.Segments.{offset_of}
use Rattle.pages.specs.Extents.{Span, span, segment_span, value_spans, extents, Covered}

covered_front : (xs ys : List Span) (i : ℕ) → Covered xs i → Covered (xs ++ ys) i
covered_front [] ys i h = absurd h
covered_front (x ∷ xs) ys i (inl h) = inl h
covered_front (x ∷ xs) ys i (inr h) = inr (covered_front xs ys i h)

segment_from : (bs : List ℕ) (l : Layout) (n a k i : ℕ) → a ≤ k → k < a + n → offset_of bs l k ≤ i → i < offset_of bs l k + needed l k →
    Covered (map (segment_span bs l) (range_with_len a n)) i
segment_from bs l zero a k i h m low high = absurd (omega arith)
segment_from bs l (suc n) a k i h m low high =
    ⊎_elim
    (λ e. inl (subst (λ j. (offset_of bs l j ≤ i) × (i < offset_of bs l j + needed l j)) (sym e) (low, high)))
    (λ e. inr (segment_from bs l n (a + 1) k i (omega arith) (omega arith) low high))
    (cases_eq a k)

-- the needed bytes of a segment
pub segment_covered : (bs : List ℕ) (l : Layout) (k i : ℕ) → k < segments_of l → offset_of bs l k ≤ i → i < offset_of bs l k + needed l k → Covered (extents bs l) i
unfolding extents
segment_covered bs l k i h low high =
    inr (covered_front (map (segment_span bs l) (range_with_len 0 (segments_of l))) (value_spans (length bs) (entries_of bs l.directory)) i
    (segment_from bs l (segments_of l) 0 k i (omega arith) (omega arith) low high))

nth_from : (f : ℕ → Span) (ys : List Span) (d : Span) (n a k : ℕ) → k < n → get_or (map f (range_with_len a n) ++ ys) k d ≡ f (a + k)
nth_from f ys d zero a k h = absurd (omega arith)
nth_from f ys d (suc n) a zero h = let z : a ≡ a + 0 = omega arith in ap f z
nth_from f ys d (suc n) a (suc k) h = let z : a + 1 + k ≡ a + suc k = omega arith in nth_from f ys d n (a + 1) k (omega arith) ∙ ap f z

-- where segment k stands is told by the extents
offset_told : (bs : List ℕ) (l : Layout) (k : ℕ) → k < segments_of l → (get_or (extents bs l) (suc k) (span 0 0)).place ≡ offset_of bs l k
unfolding extents
offset_told bs l k h =
    let z : 0 + k ≡ k = omega arith in
    ap (λ (s : Span). s.place) (nth_from (segment_span bs l) (value_spans (length bs) (entries_of bs l.directory)) (span 0 0) (segments_of l) 0 k h) ∙ ap (offset_of bs l) z

pub offset_same : (bs cs : List ℕ) (l : Layout) → extents cs l ≡ extents bs l → (k : ℕ) → k < segments_of l → offset_of bs l k ≡ offset_of cs l k
offset_same bs cs l e k h = sym (offset_told bs l k h) ∙ ap (λ (ss : List Span). (get_or ss (suc k) (span 0 0)).place) (sym e) ∙ offset_told cs l k h
