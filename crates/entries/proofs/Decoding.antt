-- An entry read as twelve bytes.
use Rattle.std.proofs.Common.{◌≡◌, ℕ, zero, suc, ◌+◌, ◌<◌, ◌≤◌, List, [], ◌∷◌, get_or, take, drop, refl, ap, ◌∙◌, arith}
use Rattle.std.proofs.lemmas.List.{get_or-take, get_or-drop}
use Rattle.octets.specs.Digits.{number}
use Rattle.octets.specs.Numbers.{short, long}
use Rattle.octets.specs.Rows.{byte}
use Rattle.octets.specs.declared.endian.Endian.{Endian}
use Rattle.octets.proofs.Digits.{number_same}
use Rattle.entries.specs.Entries.{entry_at, entry_of, raw_at}

-- the numbers in bytes that were taken out of a list
module _ (o : Endian) (b : List ℕ) where
  pub short_in : (j : ℕ) → number o 2 (byte (get_or b j 0 ∷ get_or b (j + 1) 0 ∷ [])) ≡ short o b j
  short_in j = number_same o 2 _ (λ i. byte b (j + i)) each
    where
      each : (t : ℕ) → t < 2 → byte (get_or b j 0 ∷ get_or b (j + 1) 0 ∷ []) t ≡ byte b (j + t)
      each zero l = ap (byte b) (let z : j ≡ j + 0 = omega arith in z)
      each (suc zero) l = ap (byte b) (let z : j + 1 ≡ j + 1 = omega arith in z)
      each (suc (suc t)) l = absurd (omega arith)

  pub long_in : (j : ℕ) → number o 4 (byte (get_or b j 0 ∷ get_or b (j + 1) 0 ∷ get_or b (j + 2) 0 ∷ get_or b (j + 3) 0 ∷ [])) ≡ long o b j
  long_in j = number_same o 4 _ (λ i. byte b (j + i)) each
    where
      each : (t : ℕ) → t < 4 → byte (get_or b j 0 ∷ get_or b (j + 1) 0 ∷ get_or b (j + 2) 0 ∷ get_or b (j + 3) 0 ∷ []) t ≡ byte b (j + t)
      each zero l = ap (byte b) (let z : j ≡ j + 0 = omega arith in z)
      each (suc zero) l = ap (byte b) (let z : j + 1 ≡ j + 1 = omega arith in z)
      each (suc (suc zero)) l = ap (byte b) (let z : j + 2 ≡ j + 2 = omega arith in z)
      each (suc (suc (suc zero))) l = ap (byte b) (let z : j + 3 ≡ j + 3 = omega arith in z)
      each (suc (suc (suc (suc t)))) l = absurd (omega arith)

-- twelve bytes that stand at a place have the numbers that stand there
module _ (o : Endian) (bs b : List ℕ) (place : ℕ) (got : b ≡ take 12 (drop place bs)) where
  same_byte : (i : ℕ) → i < 12 → byte b i ≡ byte bs (place + i)
  same_byte i h = ap (λ xs. get_or xs i 0) got ∙ get_or-take 12 (drop place bs) i 0 h ∙ get_or-drop place bs i 0

  pub same_number : (n j at : ℕ) → j + n ≤ 12 → at ≡ place + j → number o n (λ i. byte b (j + i)) ≡ number o n (λ i. byte bs (at + i))
  same_number n j at h e =
      number_same o n (λ i. byte b (j + i)) (λ i. byte bs (at + i))
      (λ t l. same_byte (j + t) (omega arith) ∙ ap (byte bs) (let z : place + (j + t) ≡ at + t = omega arith in z))

  pub short_read : (j : ℕ) → j + 1 < 12 → number o 2 (byte (get_or b j 0 ∷ get_or b (j + 1) 0 ∷ [])) ≡ short o bs (place + j)
  short_read j h = short_in o b j ∙ same_number 2 j (place + j) (omega arith) refl

  pub long_read : (j : ℕ) → j + 3 < 12 → number o 4 (byte (get_or b j 0 ∷ get_or b (j + 1) 0 ∷ get_or b (j + 2) 0 ∷ get_or b (j + 3) 0 ∷ [])) ≡ long o bs (place + j)
  long_read j h = long_in o b j ∙ same_number 4 j (place + j) (omega arith) refl

  pub raw_same : raw_at o b 0 ≡ raw_at o bs place
  raw_same =
      let t = same_number 2 0 place (omega arith) (omega arith) in
      let k = same_number 2 2 (place + 2) (omega arith) (omega arith) in
      let c = same_number 4 4 (place + 4) (omega arith) (omega arith) in
      let l = same_number 4 8 (place + 8) (omega arith) (omega arith) in
      λ i. record { tag = t i; kind = k i; count = c i; last = l i }

  pub entry_same : entry_of place (raw_at o b 0) ≡ entry_at o bs place
  unfolding entry_at
  entry_same = ap (entry_of place) raw_same
