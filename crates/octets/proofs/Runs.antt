-- Lists made of one part for each number from 0 on.
-- Assumes nothing.
use Rattle.std.proofs.Common.{◌≡◌, ℕ, zero, suc, ◌+◌, ◌*◌, ◌<◌, ◌≤◌, List, ◌++◌, length, sym, ap, ◌∙◌, subst, ⊎_elim, add-zero, mul_comm, add-one, arith, length-append}
use Rattle.std.specs.List.{range_with_len, flat_map}
use Rattle.std.proofs.lemmas.List.{append_assoc, append-nil}
use Rattle.std.proofs.lemmas.Bool.{cases_lt}
use Rattle.octets.proofs.Rows.{length_chain}

module _ (f : ℕ → List ℕ) where
  run_from : (a n : ℕ) → flat_map f (range_with_len a (suc n)) ≡ flat_map f (range_with_len a n) ++ f (a + n)
  run_from a zero = append-nil (f a) ∙ ap f (sym (add-zero a))
  run_from a (suc n) =
      ap (λ (l : List ℕ). f a ++ l) (run_from (a + 1) n)
      ∙ sym (append_assoc (f a) (flat_map f (range_with_len (a + 1) n)) (f (a + 1 + n)))
      ∙ ap (λ m. (f a ++ flat_map f (range_with_len (a + 1) n)) ++ f m) (omega arith)

  run_suc : (n : ℕ) → flat_map f (range_with_len 0 (suc n)) ≡ flat_map f (range_with_len 0 n) ++ f n
  run_suc n = run_from 0 n ∙ ap (λ m. flat_map f (range_with_len 0 n) ++ f m) (omega arith)

  -- one part more
  pub run_more : (n : ℕ) → flat_map f (range_with_len 0 n) ++ f n ≡ flat_map f (range_with_len 0 (n + 1))
  run_more n = sym (run_suc n) ∙ ap (λ m. flat_map f (range_with_len 0 m)) (sym (add-one n))

  -- where all parts have room, the next one has
  pub run_room : (m n : ℕ) → n < m → length (flat_map f (range_with_len 0 n)) + length (f n) ≤ length (flat_map f (range_with_len 0 m))
  run_room zero n h = omega arith
  run_room (suc m) n h =
      let e = ap length (run_suc m) ∙ length-append (flat_map f (range_with_len 0 m)) (f m) in
      ⊎_elim
      (λ less. omega (arith, e, run_room m n less))
      (λ more. let same : m ≡ n = omega arith in
      subst (λ k. length (flat_map f (range_with_len 0 k)) + length (f k) ≤ length (flat_map f (range_with_len 0 (suc m)))) same (omega (arith, e)))
      (cases_lt n m)

  -- parts of one length
  pub run_length : (s : ℕ) → ((k : ℕ) → length (f k) ≡ s) → (n : ℕ) → length (flat_map f (range_with_len 0 n)) ≡ s * n
  run_length s each n = length_chain f s n (λ k _. each k) ∙ mul_comm n s
