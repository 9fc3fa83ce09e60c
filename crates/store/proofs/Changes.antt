-- Laws of what calls do to bytes and lists. Assumes nothing.
use Rattle.std.proofs.Common.{◌≡◌, ℕ, ◌+◌, ◌-◌, ◌*◌, ◌<◌, ◌≤◌, min, ◌⊎◌, List, ◌++◌, length, get_or, take, drop, Ok, Err, Result, sym, refl, ap, ◌∙◌, subst, inl, inr, ⊎_elim, arith, length-drop, length-take}
use Rattle.std.proofs.lemmas.List.{get_or_append_left, get_or-take, get_or-drop, nil_from_length, take_all}
use Rattle.std.proofs.lemmas.Bool.{cases_lt, cases_eq}
use Rattle.faults.specs.declared.fault.Fault.{Fault}
use Rattle.faults.specs.declared.fault.Check.TheVariants.{Past}
use Rattle.faults.specs.Faults.{bare}
use Rattle.octets.specs.Sectors.{sector, patched, laid, Touched, In, Lists}
use Rattle.octets.proofs.Patches.{length_patched, sector_untouched}
use Rattle.octets.proofs.Contents.{in_same}
use Rattle.store.specs.Rules.{NoGain, Gain, Gained, Grown, Answered, filled, written}

pub none_filled : (buffer xs : List ℕ) → length buffer ≡ 0 → buffer ≡ take (length buffer) xs
none_filled buffer xs e = nil_from_length buffer e ∙ ap (λ (n : ℕ). take n xs) (sym e)

pub none_gain : (bytes : List ℕ) (place count : ℕ) (lists : Lists) → count ≡ 0 → Gain bytes place count lists lists
none_gain bytes place count lists e = record { touched = λ s t c h. absurd (let n = t.0 in omega arith); others = λ s un c h. h }

pub same_lists : (lists : Lists) → NoGain lists lists
same_lists lists = record { none = λ s c h. h }

pub length_written : (r : Result (Unit {0}) Fault) (bytes : List ℕ) (place : ℕ) (ys : List ℕ) → Answered r bytes place (length ys) → length (written r bytes place ys) ≡ length bytes
length_written (Ok _) bytes place ys h = length_patched bytes place ys h
length_written (Err _) bytes place ys h = refl

-- a sector is touched or not
pub touched_or : (p n s : ℕ) → Touched p n s ⊎ (Touched p n s → ⊥)
touched_or p n s =
    ⊎_elim
    (λ (a : 0 < n). ⊎_elim
    (λ (b : 512 * s < p + n). ⊎_elim (λ (d : p < 512 * s + 512). inl (a, b, d)) (λ (d : 512 * s + 512 ≤ p). inr (λ t. let z = t.2 in omega arith)) (cases_lt p (512 * s + 512)))
    (λ (b : p + n ≤ 512 * s). inr (λ t. let z = t.1 in omega arith))
    (cases_lt (512 * s) (p + n)))
    (λ (a : n ≤ 0). inr (λ t. let z = t.0 in omega arith))
    (cases_lt 0 n)

pub nogain_trans : (a b c : Lists) → NoGain a b → NoGain b c → NoGain a c
nogain_trans a b c p q = record { none = λ s d m. p.none s d (q.none s d m) }

pub sector_put : (r : Result (Unit {0}) Fault) (xs xs' : List ℕ) (p : ℕ) (ys zs : List ℕ) → p < length xs → zs ≡ take (length xs - p) ys
    → Answered r xs p (length zs) → xs' ≡ written r xs p zs → xs' ≡ laid xs p ys
unfolding laid
sector_put (Ok _) xs xs' p ys zs h e a w = w ∙ ap (patched xs p) e
sector_put (Err _) xs xs' p ys zs h e a w = absurd (let b = a.0 in omega (arith, ap length e, length-take (length xs - p) ys))

pub sector_gain : (r : Result (Unit {0}) Fault) (xs xs' : List ℕ) (p : ℕ) (ys zs : List ℕ) (old new : Lists) → p < length xs → zs ≡ take (length xs - p) ys → length ys ≡ 512
    → Answered r xs p (length zs) → Gained r xs' p (length zs) old new → Gain xs' p 512 old new
sector_gain (Ok _) xs xs' p ys zs old new h e n a g =
    let m = ap length e in
    let k = length-take (length xs - p) ys in
    record {
      touched = λ s t c i. ⊎_elim
          (λ (q : Touched p (length zs) s). g.touched s q c i)
          (λ (un : Touched p (length zs) s → ⊥). inr (g.others s un c i))
          (touched_or p (length zs) s);
      others = λ s un c i. g.others s (λ t. un (let x = t.0 in let y = t.1 in let z = t.2 in (omega arith, omega arith, omega arith))) c i;
    }
sector_gain (Err _) xs xs' p ys zs old new h e n a g = absurd (let b = a.0 in omega (arith, ap length e, length-take (length xs - p) ys))

pub past_gain : (xs : List ℕ) (p : ℕ) (lists : Lists) → Gain xs p 512 lists lists
past_gain xs p lists = record { touched = λ s t c m. inr m; others = λ s un c m. m }

-- the front of a sector that lies within
pub front_is : (ys : List ℕ) (m k : ℕ) → length ys ≡ 512 → k ≡ min m 512 → take (k - 0) ys ≡ take m ys
front_is ys m k n e =
    ⊎_elim
    (λ (h : m < 512). ap (λ (j : ℕ). take j ys) (let q : k - 0 ≡ m = omega arith in q))
    (λ (h : 512 ≤ m). take_all (k - 0) ys (omega arith) ∙ sym (take_all m ys (omega arith)))
    (cases_lt m 512)

-- a sector read from below
pub sector_got : (r : Result (Unit {0}) Fault) (xs buf ys rest : List ℕ) (p : ℕ) → length ys ≡ min (length xs - p) 512 → p < length xs
    → Answered r xs p (length ys) → buf ≡ filled r xs p ys → (k : ℕ) → k < 512 → p + k < length xs → get_or (buf ++ rest) k 0 ≡ get_or xs (p + k) 0
sector_got (Ok _) xs buf ys rest p n h a e k l m =
    let u = ap length e in
    let v = length-take (length ys) (drop p xs) in
    let w = length-drop p xs in
    get_or_append_left buf rest 0 k (omega arith) ∙ ap (λ (zs : List ℕ). get_or zs k 0) e ∙ get_or-take (length ys) (drop p xs) k 0 (omega arith) ∙ get_or-drop p xs k 0
sector_got (Err _) xs buf ys rest p n h a e k l m = absurd (let b = a.0 in omega arith)

pub grown_more : (x x₁ x₂ : List ℕ) (old l₁ l₂ : Lists) (s₀ : ℕ) → ((s : ℕ) → In (sector x s) (old s)) → Grown x₁ old l₁ → Grown x₂ l₁ l₂
    → ((s : ℕ) → (s ≡ s₀ → ⊥) → sector x₂ s ≡ sector x₁ s) → sector x₁ s₀ ≡ sector x s₀ → Grown x₂ old l₂
grown_more x x₁ x₂ old l₁ l₂ s₀ held g₁ g₂ others here = record {
  most = λ s c m. ⊎_elim inl
      (λ (k : In c (l₁ s)). ⊎_elim
      (λ (e : c ≡ sector x₁ s). ⊎_elim
      (λ (q : s ≡ s₀). inr (in_same _ _ _ (e ∙ ap (sector x₁) q ∙ here ∙ ap (sector x) (sym q)) (held s)))
      (λ (un : s ≡ s₀ → ⊥). inl (e ∙ sym (others s un)))
      (cases_eq s s₀))
      inr
      (g₁.most s c k))
      (g₂.most s c m);
}

pub grown_gain : (x x' : List ℕ) (place : ℕ) (ys : List ℕ) (old new : Lists) → x' ≡ patched x place ys → place + length ys ≤ length x → ((s : ℕ) → In (sector x s) (old s))
    → Grown x' old new → Gain x' place (length ys) old new
grown_gain x x' place ys old new e h held g = record {
  touched = λ s t c m. g.most s c m;
  others = λ s un c m. ⊎_elim
      (λ (q : c ≡ sector x' s). in_same _ _ _ (q ∙ ap (λ (z : List ℕ). sector z s) e ∙ sector_untouched x place ys s h un) (held s))
      (λ (q : In c (old s)). q)
      (g.most s c m);
}

pub refused : (r : Result (Unit {0}) Fault) (y : Fault) (xs : List ℕ) (place n : ℕ) → r ≡ Err y → length xs < place + n → y ≡ bare Past → Answered r xs place n
refused r y xs place n e h q = subst (λ (z : Result (Unit {0}) Fault). Answered z xs place n) (sym e) (h, q)

pub refused_filled : (r : Result (Unit {0}) Fault) (y : Fault) (xs : List ℕ) (place : ℕ) (buffer : List ℕ) → r ≡ Err y → filled r xs place buffer ≡ buffer
refused_filled r y xs place buffer e = ap (λ (z : Result (Unit {0}) Fault). filled z xs place buffer) e
