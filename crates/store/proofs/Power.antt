-- What may be found, before and after the calls of a store. Assumes nothing.
use Rattle.std.proofs.Common.{◌≡◌, ℕ, ◌+◌, ◌≤◌, List, [], ◌∷◌, length, get_or, take, drop, Ok, Err, Result, sym, refl, ap, ◌∙◌, subst, inl, inr, ⊎_elim, arith}
use Rattle.std.proofs.lemmas.Bool.{lt-ltb, and_from, cond-true}
use Rattle.faults.specs.declared.fault.Fault.{Fault}
use Rattle.octets.specs.Sectors.{sector, patched, Touched, In, Lists}
use Rattle.octets.proofs.Laid.{sectors_alike, patched_here, patched_out}
use Rattle.octets.proofs.Patches.{length_patched}
use Rattle.store.specs.Rules.{NoGain, Alone, Gain, Gained, Answered, filled, written}
use Rattle.store.specs.Power.{Cut, Found, nothing, write_lays}
use Rattle.store.specs.Promises.{KeptWord, Echoed, FoundOfWrite, OneFound}
use Rattle.store.proofs.Changes.{touched_or}

-- what is seen may be found
pub found_seen : (seen : List ℕ) (may : Lists) → ((s : ℕ) → In (sector seen s) (may s)) → Found seen may seen
found_seen seen may held = record { long = refl; each = λ s. inl (held s) }

-- between two calls each sector is found with a content of its list
pub nothing_found : (seen : List ℕ) (may : Lists) (found : List ℕ) → Cut seen may nothing found → (s : ℕ) → In (sector found s) (may s)
nothing_found seen may found c s = ⊎_elim (λ m. m) absurd (c.each s)

-- where no list has gained, no more may be found
pub found_nogain : (seen seen' : List ℕ) (old new writes : Lists) (found : List ℕ) → length seen' ≡ length seen → NoGain old new → Found seen' new found → Cut seen old writes found
found_nogain seen seen' old new writes found e n c = record { long = c.long ∙ e; each = λ s. inl (n.none s _ (nothing_found seen' new found c s)) }

lays_is : (seen : List ℕ) (place : ℕ) (given : List ℕ) (s : ℕ) → Touched place (length given) s → write_lays seen place given s ≡ sector (patched seen place given) s ∷ []
unfolding write_lays
lays_is seen place given s t = cond-true _ _ _ (and_from _ _ (lt-ltb _ _ t.0) (and_from _ _ (lt-ltb _ _ t.1) (lt-ltb _ _ t.2)))

-- what may be found after a write may also be found inside it
pub found_gain : (seen seen' : List ℕ) (old new : Lists) (place : ℕ) (given found : List ℕ) → seen' ≡ patched seen place given → place + length given ≤ length seen
    → Gain seen' place (length given) old new → Found seen' new found → Cut seen old (write_lays seen place given) found
found_gain seen seen' old new place given found e h g c = record {
  long = c.long ∙ ap length e ∙ length_patched seen place given h;
  each = λ s.
      let m = nothing_found seen' new found c s in
      ⊎_elim
      (λ (t : Touched place (length given) s). ⊎_elim
      (λ (q : sector found s ≡ sector seen' s).
      inr (subst (λ (xs : List (List ℕ)). In (sector found s) xs) (sym (lays_is seen place given s t)) (inl (q ∙ ap (λ (xs : List ℕ). sector xs s) e))))
      inl
      (g.touched s t _ m))
      (λ (un : Touched place (length given) s → ⊥). inl (g.others s un _ m))
      (touched_or place (length given) s);
}

pub found_written : (r : Result (Unit {0}) Fault) (seen seen' : List ℕ) (old new : Lists) (place : ℕ) (given : List ℕ) → Answered r seen place (length given) → seen' ≡ written r seen place given
    → Gained r seen' place (length given) old new → FoundOfWrite seen seen' old new place given
found_written (Ok _) seen seen' old new place given a e g found c = found_gain seen seen' old new place given found e a g c
found_written (Err _) seen seen' old new place given a e g found c = found_nogain seen seen' old new _ found (ap length e) g c

-- settled, there is one thing to be found
pub alone_found : (seen : List ℕ) (may : Lists) → ((s : ℕ) → In (sector seen s) (may s)) → Alone seen may → OneFound seen may
alone_found seen may held alone = record {
  seen_is = found_seen seen may held;
  no_other = λ found c. sectors_alike found seen c.long (λ s. alone.only s _ (nothing_found seen may found c s));
}

-- an accepted write and then an accepted read of as many bytes
pub kept_word : (seen seen' : List ℕ) (place : ℕ) (given buffer got : List ℕ) → place + length given ≤ length seen → seen' ≡ patched seen place given
    → length buffer ≡ length given → got ≡ take (length buffer) (drop place seen') → KeptWord seen seen' place given got
kept_word seen seen' place given buffer got h e n f =
    let here : take (length given) (drop place seen') ≡ given = ap (λ (xs : List ℕ). take (length given) (drop place xs)) e ∙ patched_here seen place given h in
    record {
      back = f ∙ ap (λ (k : ℕ). take k (drop place seen')) n ∙ here;
      here = here;
      elsewhere = λ i out. ap (λ (xs : List ℕ). get_or xs i 0) e ∙ patched_out seen place given i 0 (omega arith) out;
      long = ap length e ∙ length_patched seen place given h;
    }

-- the second of the two calls is not refused where the first is not
pub echoed_after : (r : Result (Unit {0}) Fault) (seen seen₁ seen₂ : List ℕ) (place : ℕ) (given buffer got : List ℕ) → place + length given ≤ length seen → seen₁ ≡ patched seen place given → seen₂ ≡ seen₁
    → length buffer ≡ length given → Answered r seen₁ place (length buffer) → got ≡ filled r seen₁ place buffer → Answered r seen place (length given) × Echoed r seen seen₂ place given buffer got
echoed_after (Ok _) seen seen₁ seen₂ place given buffer got h e s n a f =
    (h, kept_word seen seen₂ place given buffer got h (s ∙ e) n (f ∙ ap (λ (xs : List ℕ). take (length buffer) (drop place xs)) (sym s)))
echoed_after (Err _) seen seen₁ seen₂ place given buffer got h e s n a f =
    absurd (let l = ap length e ∙ length_patched seen place given h in let b = a.0 in omega arith)

-- a read after a write
pub found_then : (seen seen₁ seen₂ : List ℕ) (may may₁ may₂ : Lists) (place : ℕ) (given : List ℕ) → seen₂ ≡ seen₁ → NoGain may₁ may₂ → FoundOfWrite seen seen₁ may may₁ place given
    → FoundOfWrite seen seen₂ may may₂ place given
found_then seen seen₁ seen₂ may may₁ may₂ place given e n f found c = f found (found_nogain seen₁ seen₂ may₁ may₂ nothing found (ap length e) n c)
