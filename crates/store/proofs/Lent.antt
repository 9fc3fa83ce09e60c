-- Laws of the bytes that count. Assumes nothing.
use Rattle.std.proofs.Common.{◌≡◌, ℕ, ◌+◌, ◌-◌, ◌^◌, ◌≤◌, min, List, length, take, drop, Ok, Err, Result, sym, ap, ◌∙◌, inl, ⊎_elim, arith, length-take}
use Rattle.std.proofs.lemmas.List.{drop-take, take-take}
use Rattle.octets.proofs.Patches.{take_patched, sector_untouched}
use Rattle.octets.specs.Sectors.{patched}
use Rattle.store.proofs.Changes.{same_lists}
use Rattle.store.specs.Lent.{counted, alone}
use Rattle.store.specs.Rules.{Gain, Gained, Answered, written}
use Rattle.faults.specs.declared.fault.Fault.{Fault}

pub length_counted : (xs : List ℕ) → length (counted xs) ≡ min (2 ^ 31 - 1) (length xs)
unfolding counted
length_counted xs = length-take (2 ^ 31 - 1) xs

-- a part of the bytes that count, as a read takes it
pub counted_part : (xs : List ℕ) (place count : ℕ) → place + count ≤ length (counted xs) → take (place + count - place) (drop place xs) ≡ take count (drop place (counted xs))
unfolding counted
counted_part xs place count h =
    let n = length-take (2 ^ 31 - 1) xs in
    let e : 2 ^ 31 - 1 ≡ place + (2 ^ 31 - 1 - place) = omega arith in
    let f : place + count - place ≡ count = omega arith in
    ap (λ (k : ℕ). take k (drop place xs)) f
    ∙ sym (ap (λ (k : ℕ). take count (drop place (take k xs))) e ∙ ap (take count) (drop-take place (2 ^ 31 - 1 - place) xs) ∙ take-take count (2 ^ 31 - 1 - place) (drop place xs) (omega arith))

pub counted_patched : (xs : List ℕ) (place : ℕ) (ys : List ℕ) → place + length ys ≤ length (counted xs) → counted (patched xs place ys) ≡ patched (counted xs) place ys
unfolding counted
counted_patched xs place ys h = take_patched (2 ^ 31 - 1) xs place ys h

-- what a write does to the lists where each holds the seen content alone
pub alone_gain : (xs : List ℕ) (place : ℕ) (ys : List ℕ) → place + length ys ≤ length xs → Gain (patched xs place ys) place (length ys) (alone xs) (alone (patched xs place ys))
alone_gain xs place ys h = record {
  touched = λ s t c. ⊎_elim inl absurd;
  others = λ s un c. ⊎_elim (λ e. inl (e ∙ sector_untouched xs place ys s h un)) absurd;
}

-- a write to the bytes is one to those that count
pub lent_put : (r : Result (Unit {0}) Fault) (xs xs' : List ℕ) (place : ℕ) (ys : List ℕ) → Answered r (counted xs) place (length ys) → xs' ≡ written r xs place ys → counted xs' ≡ written r (counted xs) place ys
lent_put (Ok _) xs xs' place ys h e = ap counted e ∙ counted_patched xs place ys h
lent_put (Err _) xs xs' place ys h e = ap counted e

pub lent_gain : (r : Result (Unit {0}) Fault) (xs xs' : List ℕ) (place : ℕ) (ys : List ℕ) → Answered r (counted xs) place (length ys) → xs' ≡ written r xs place ys
    → Gained r (counted xs') place (length ys) (alone (counted xs)) (alone (counted xs'))
lent_gain (Ok _) xs xs' place ys h e = rw (e, counted_patched xs place ys h) (alone_gain (counted xs) place ys h)
lent_gain (Err _) xs xs' place ys h e = rw e (same_lists (alone (counted xs)))
