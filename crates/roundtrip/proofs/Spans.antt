-- Spans that lie between two places.
use Rattle.std.proofs.Common.{◌≡◌, ℕ, zero, suc, ◌+◌, ◌<◌, ◌≤◌, false, ltb, leb, List, [], ◌∷◌, ◌++◌, map, subst, inl, inr, arith}
use Rattle.std.specs.List.{range_with_len}
use Rattle.std.proofs.lemmas.Bool.{cond_both, cond-false, and_parts, ltb-true, lt-leb}
use Rattle.entries.specs.declared.entry.Entry.{Entry}
use Rattle.entries.specs.Entries.{size_of, home_of, size}
use Rattle.pages.specs.Extents.{Span, span, outer, value_spans, Covered}
use Rattle.plans.specs.Directories.{Field, outer_size}
use Rattle.blocks.proofs.Directory.{laid, laid_entry, outers}

-- each span begins at `low` or after and ends by `high`
abbrev pub Between : ℕ → ℕ → List Span → Type 0
Between low high [] = Unit {0}
Between low high (s ∷ ss) = ((low ≤ s.place) × (s.place + s.count ≤ high)) × Between low high ss

pub between_covered : (low high : ℕ) (ss : List Span) → Between low high ss → (i : ℕ) → Covered ss i → (low ≤ i) × (i < high)
between_covered low high [] b i c = absurd c
between_covered low high (s ∷ ss) b i (inl c) = (omega arith, omega arith)
between_covered low high (s ∷ ss) b i (inr c) = between_covered low high ss b.1 i c

pub between_append : (low high : ℕ) (ss ts : List Span) → Between low high ss → Between low high ts → Between low high (ss ++ ts)
between_append low high [] ts p q = q
between_append low high (s ∷ ss) ts p q = (p.0, between_append low high ss ts p.1 q)

pub between_map : (low high : ℕ) (f : ℕ → Span) (a n : ℕ) → ((k : ℕ) → k < n → (low ≤ (f (a + k)).place) × ((f (a + k)).place + (f (a + k)).count ≤ high)) → Between low high (map f (range_with_len a n))
between_map low high f a zero h = tt
between_map low high f a (suc n) h =
    let z : a + 0 ≡ a = omega arith in (
      subst (λ k. (low ≤ (f k).place) × ((f k).place + (f k).count ≤ high)) z (h 0 (omega arith)),
      between_map low high f (a + 1) n (λ k l. let e : a + suc k ≡ a + 1 + k = omega arith in
          subst (λ k. (low ≤ (f k).place) × ((f k).place + (f k).count ≤ high)) e (h (suc k) (omega arith))),
    )

-- the longer values of a directory's fields, which stand one after another from `out` on
pub between_values : (low high n at out : ℕ) (fs : List Field) → low ≤ out → out + outers fs ≤ high → Between low high (value_spans n (laid at out fs))
unfolding laid value_spans
between_values low high n at out [] l h = tt
between_values low high n at out (f ∷ fs) l h =
    let z : ℕ = size_of f.kind f.count in
    let rest : Between low high (value_spans n (laid (at + 12) (out + outer_size f) fs)) = between_values low high n (at + 12) (out + outer_size f) fs (omega arith) (omega arith) in
    let e : Entry = laid_entry at out f in
    cond_both (outer n e) (span e.values (size e) ∷ value_spans n (laid (at + 12) (out + outer_size f) fs)) (value_spans n (laid (at + 12) (out + outer_size f) fs)) (Between low high)
    (λ t. let long : leb z 4 ≡ false = lt-leb z 4 (ltb-true 4 z (and_parts (ltb 4 z) (leb (e.values + z) n) t).0) in
    let home : home_of at z out ≡ out = cond-false (leb z 4) (at + 8) out long in
    let all : outer_size f ≡ z = cond-false (leb z 4) 0 z long in
    ((omega (arith, home), omega (arith, home, all)), rest))
    (λ _. rest)
