-- Laws of the checks of segments.
use Rattle.std.proofs.Common.{◌≡◌, ℕ, suc, ◌+◌, ◌-◌, ◌^◌, ◌<◌, ◌≤◌, min, Bool, true, ◌||◌, ltb, ◌⊎◌, List, length, Ok, Err, Result, sym, refl, ap, ◌∙◌, inl, inr, arith}
use Rattle.std.proofs.lemmas.Bool.{cases_lt, lt-ltb}
use Rattle.faults.specs.declared.fault.Check.TheVariants.{Segment}
use Rattle.faults.specs.declared.fault.Fault.{Fault}
use Rattle.faults.specs.Faults.{fault, refused, then}
use Rattle.pages.specs.declared.layout.Layout.{Layout}
use Rattle.pages.specs.Geometry.{segments_of, needed}
use Rattle.pages.specs.Tags.{offsets_tag}
use Rattle.pages.specs.Segments.{offset_of, byte_count_of, lacking, segment_at, segments_from, filled}

-- a need too large to be counted is lacking whatever it is
lacking_most : (n offset count need : ℕ) → count < 2 ^ 32 → lacking n offset count (min need (2 ^ 64 - 1)) ≡ lacking n offset count need
lacking_most n offset count need h = by (cases_lt need (2 ^ 64))
  where
    by : (need < 2 ^ 64) ⊎ (2 ^ 64 ≤ need) → lacking n offset count (min need (2 ^ 64 - 1)) ≡ lacking n offset count need
    by (inl l) = let e : min need (2 ^ 64 - 1) ≡ need = omega arith in ap (lacking n offset count) e
    by (inr l) =
        let a : ltb count (min need (2 ^ 64 - 1)) ≡ true = lt-ltb count (min need (2 ^ 64 - 1)) (omega arith) in
        let b : ltb count need ≡ true = lt-ltb count need (omega arith) in
        ap (λ x. ltb offset 8 || (x || ltb n (offset + min need (2 ^ 64 - 1)))) a ∙ sym (ap (λ x. ltb offset 8 || (x || ltb n (offset + need))) b)

-- a segment's check, from what was read of it
pub segment_by : (bs : List ℕ) (l : Layout) (k n offset count need : ℕ) (b : Bool) → n ≡ length bs → offset ≡ offset_of bs l k → count ≡ byte_count_of bs l k → count < 2 ^ 32
    → need ≡ min (needed l k) (2 ^ 64 - 1) → b ≡ lacking n offset count need
    → segment_at bs l k ≡ refused b (fault Segment l.directory.page (offsets_tag l.cut.kind) offset) (Ok tt)
unfolding segment_at
segment_by bs l k n offset count need b en eo ec few ed eb =
    let e : b ≡ lacking (length bs) (offset_of bs l k) (byte_count_of bs l k) (needed l k) =
    eb ∙ ap (lacking n offset count) ed ∙ lacking_most n offset count (needed l k) few ∙ (λ i. lacking (en i) (eo i) (ec i) (needed l k)) in
    sym (λ i. refused (e i) (fault Segment l.directory.page (offsets_tag l.cut.kind) (eo i)) (Ok tt))

-- what the segments that are left give
abbrev pub filled_from : List ℕ → Layout → ℕ → ℕ → Result Layout Fault
filled_from bs l left k = then (segments_from left bs l k) (λ _. Ok l)

fill_one : (bs : List ℕ) (l : Layout) (left k : ℕ) (r : Result (Unit {0}) Fault)
    → then (then r (λ _. segments_from left bs l (k + 1))) (λ _. Ok l) ≡ then r (λ _. filled_from bs l left (k + 1))
fill_one bs l left k (Ok x) = refl
fill_one bs l left k (Err f) = refl

-- a turn of the loop over the segments, whose check was made on bytes that are seen as before
pub fill_turn : (bs cs : List ℕ) (l : Layout) (n k : ℕ) (r : Result (Unit {0}) Fault) → k < n → cs ≡ bs → r ≡ segment_at cs l k
    → filled_from bs l (n - k) k ≡ then r (λ _. filled_from bs l (n - (k + 1)) (k + 1))
unfolding segments_from
fill_turn bs cs l n k r h s q =
    let m : n - k ≡ suc (n - (k + 1)) = omega arith in
    ap (λ x. filled_from bs l x k) m
    ∙ fill_one bs l (n - (k + 1)) k (segment_at bs l k)
    ∙ ap (λ x. then x (λ _. filled_from bs l (n - (k + 1)) (k + 1))) (sym (q ∙ ap (λ xs. segment_at xs l k) s))

pub fill_start : (bs : List ℕ) (l : Layout) (n : ℕ) → n ≡ segments_of l → filled_from bs l (n - 0) 0 ≡ filled bs l
unfolding filled
fill_start bs l n e = let m : n - 0 ≡ segments_of l = omega arith in ap (λ x. filled_from bs l x 0) m

pub fill_end : (bs : List ℕ) (l : Layout) (n k : ℕ) → n ≤ k → filled_from bs l (n - k) k ≡ Ok l
unfolding segments_from
fill_end bs l n k h = let m : n - k ≡ 0 = omega arith in ap (λ x. filled_from bs l x k) m
