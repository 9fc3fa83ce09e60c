-- What the calls of a part of a store come to. Assumes nothing.
use Rattle.std.proofs.Common.{◌≡◌, ℕ, ◌+◌, ◌-◌, ◌*◌, ◌/◌, ◌<◌, ◌≤◌, true, false, List, [], length, take, drop, Ok, Err, Result, sym, refl, ap, ◌∙◌, subst, inl, inr, ⊎_elim, arith}
use Rattle.std.proofs.lemmas.List.{drop-take, take-take, drop-drop, ext_get_or}
use Rattle.std.proofs.lemmas.Bool.{cases_Bool}
use Rattle.faults.specs.declared.fault.Fault.{Fault}
use Rattle.octets.specs.Sectors.{sector, patched, Touched, In, Lists}
use Rattle.tray.specs.Parts.{fits, cut, cut_lists}
use Rattle.store.specs.Rules.{NoGain, Alone, Gain, Gained, Answered, filled, written}
use Rattle.octets.proofs.Patches.{length_patched, patched_same}
use Rattle.octets.proofs.Contents.{in_map, from_map, in_same}
use Rattle.tray.specs.PartLaws.{fits_start, fits_end, cut_is, cut_none, length_cut, get_or_cut, sector_cut, lists_is, lists_none, cut_more, sector_nil}

-- some bytes within the part

pub cut_fits : (bytes : List ℕ) (from len place count : ℕ) → place + count ≤ length (cut bytes from len) → 0 < count → fits (length bytes) from len ≡ true
cut_fits bytes from len place count h k =
    ⊎_elim (λ e. e)
    (λ (e : fits (length bytes) from len ≡ false). absurd (let n = ap length (cut_none bytes from len e) in omega arith))
    (cases_Bool (fits (length bytes) from len))

module _ (bytes : List ℕ) (from len place : ℕ) where
  pub part_answered : (r : Result (Unit {0}) Fault) (count : ℕ) → fits (length bytes) from len ≡ true → place + count ≤ length (cut bytes from len)
      → Answered r bytes (from + place) count → Answered r (cut bytes from len) place count
  part_answered (Ok _) count f h a = h
  part_answered (Err _) count f h a = absurd (let n = length_cut bytes from len f in let e = fits_end (length bytes) from len f in let b = a.0 in omega arith)

  pub part_filled : (r : Result (Unit {0}) Fault) (buffer : List ℕ) → fits (length bytes) from len ≡ true → place + length buffer ≤ length (cut bytes from len)
      → filled r bytes (from + place) buffer ≡ filled r (cut bytes from len) place buffer
  part_filled (Ok _) buffer f h =
      let n = length_cut bytes from len f in
      let e : len ≡ place + (len - place) = omega arith in
      sym (ap (λ (xs : List ℕ). take (length buffer) (drop place xs)) (cut_is bytes from len f)
      ∙ ap (λ (k : ℕ). take (length buffer) (drop place (take k (drop from bytes)))) e
      ∙ ap (take (length buffer)) (drop-take place (len - place) (drop from bytes))
      ∙ take-take (length buffer) (len - place) (drop place (drop from bytes)) (omega arith)
      ∙ ap (take (length buffer)) (drop-drop place from bytes))
  part_filled (Err _) buffer f h = refl

  pub part_patched : (ys : List ℕ) → fits (length bytes) from len ≡ true → place + length ys ≤ length (cut bytes from len)
      → cut (patched bytes (from + place) ys) from len ≡ patched (cut bytes from len) place ys
  part_patched ys f h =
      let n = length_cut bytes from len f in
      let e = fits_end (length bytes) from len f in
      let l : length (patched bytes (from + place) ys) ≡ length bytes = length_patched bytes (from + place) ys (omega arith) in
      let f' : fits (length (patched bytes (from + place) ys)) from len ≡ true = ap (λ (k : ℕ). fits k from len) l ∙ f in
      let u = length_cut (patched bytes (from + place) ys) from len f' in
      let v = length_patched (cut bytes from len) place ys h in
      ext_get_or 0 _ _ (omega arith) (λ i k.
      let m : i < len = omega arith in
      get_or_cut (patched bytes (from + place) ys) from len i 0 f' m
      ∙ patched_same bytes (cut bytes from len) (from + place) place ys (from + i) i 0 (omega arith) (omega arith) (omega arith) (λ _. sym (get_or_cut bytes from len i 0 f m)))

  pub part_written : (r : Result (Unit {0}) Fault) (bytes' ys : List ℕ) → fits (length bytes) from len ≡ true → place + length ys ≤ length (cut bytes from len)
      → bytes' ≡ written r bytes (from + place) ys → cut bytes' from len ≡ written r (cut bytes from len) place ys
  part_written (Ok _) bytes' ys f h e = ap (λ (xs : List ℕ). cut xs from len) e ∙ part_patched ys f h
  part_written (Err _) bytes' ys f h e = ap (λ (xs : List ℕ). cut xs from len) e

pub part_nogain : (bytes bytes' : List ℕ) (old new : Lists) (from len : ℕ) → length bytes' ≡ length bytes → NoGain old new
    → NoGain (cut_lists (length bytes) old from len) (cut_lists (length bytes') new from len)
part_nogain bytes bytes' old new from len e h = record
    { none = λ s c m. cut_more bytes old new from len s (h.none (from / 512 + s)) c (subst (λ (n : ℕ). In c (cut_lists n new from len s)) e m) }

pub part_alone : (bytes : List ℕ) (lists : Lists) (from len : ℕ) → Alone bytes lists → Alone (cut bytes from len) (cut_lists (length bytes) lists from len)
part_alone bytes lists from len h = record {
  only = λ s c m.
      ⊎_elim
      (λ (e : fits (length bytes) from len ≡ true).
      let t = from_map (take (len - 512 * s)) c _ (subst (λ (xs : List (List ℕ)). In c xs) (lists_is bytes from len lists s e) m) in
      t.2 ∙ ap (take (len - 512 * s)) (h.only (from / 512 + s) t.0 t.1) ∙ sym (sector_cut bytes from len s e))
      (λ (e : fits (length bytes) from len ≡ false).
      ⊎_elim (λ (q : c ≡ []). q ∙ sym (ap (λ (xs : List ℕ). sector xs s) (cut_none bytes from len e) ∙ sector_nil s)) absurd
      (subst (λ (xs : List (List ℕ)). In c xs) (lists_none bytes from len lists s e) m))
      (cases_Bool (fits (length bytes) from len));
}

module _ (bytes : List ℕ) (from len place count : ℕ) (f : fits (length bytes) from len ≡ true) where
  below_touched : (s : ℕ) → Touched place count s → Touched (from + place) count (from / 512 + s)
  below_touched s t =
      let b = fits_start (length bytes) from len f in
      let x = t.0 in let y = t.1 in let z = t.2 in
      (omega arith, omega arith, omega arith)

  above_touched : (s : ℕ) → Touched (from + place) count (from / 512 + s) → Touched place count s
  above_touched s t =
      let b = fits_start (length bytes) from len f in
      let x = t.0 in let y = t.1 in let z = t.2 in
      (omega arith, omega arith, omega arith)

  pub part_gain : (bytes' : List ℕ) (old new : Lists) → length bytes' ≡ length bytes → Gain bytes' (from + place) count old new
      → Gain (cut bytes' from len) place count (cut_lists (length bytes) old from len) (cut_lists (length bytes') new from len)
  part_gain bytes' old new e gain =
      let f' : fits (length bytes') from len ≡ true = ap (λ (n : ℕ). fits n from len) e ∙ f in
      record {
        touched = λ s t c m.
            let u = from_map (take (len - 512 * s)) c _ (subst (λ (xs : List (List ℕ)). In c xs) (lists_is bytes' from len new s f') m) in
            ⊎_elim
            (λ (q : u.0 ≡ sector bytes' (from / 512 + s)). inl (u.2 ∙ ap (take (len - 512 * s)) q ∙ sym (sector_cut bytes' from len s f')))
            (λ (q : In u.0 (old (from / 512 + s))). inr (subst (λ (xs : List (List ℕ)). In c xs) (sym (lists_is bytes from len old s f)) (in_same _ _ _ u.2 (in_map (take (len - 512 * s)) u.0 _ q))))
            (gain.touched (from / 512 + s) (below_touched s t) u.0 u.1);
        others = λ s un c m.
            cut_more bytes old new from len s (gain.others (from / 512 + s) (λ t. un (above_touched s t))) c (subst (λ (n : ℕ). In c (cut_lists n new from len s)) e m);
      }

  pub part_gained : (r : Result (Unit {0}) Fault) (bytes' : List ℕ) (old new : Lists) → length bytes' ≡ length bytes → Gained r bytes' (from + place) count old new
      → Gained r (cut bytes' from len) place count (cut_lists (length bytes) old from len) (cut_lists (length bytes') new from len)
  part_gained (Ok _) bytes' old new e gain = part_gain bytes' old new e gain
  part_gained (Err _) bytes' old new e gain = part_nogain bytes bytes' old new from len e gain
