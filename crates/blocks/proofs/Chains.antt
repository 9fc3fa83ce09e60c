-- Lists of one length but for the last, one after another, byte by byte.
use Rattle.std.proofs.Common.{◌≡◌, ℕ, zero, suc, ◌+◌, ◌-◌, ◌*◌, ◌/◌, ◌%◌, ◌<◌, ◌≤◌, List, length, sym, ap, ◌∙◌, ⊎_elim, mod-lt, suc-mul, div-lt_iff_lt-mul, div-add-mod', arith}
use Rattle.std.specs.List.{range_with_len, flat_map}
use Rattle.std.proofs.lemmas.List.{length-append, append-nil}
use Rattle.std.proofs.lemmas.Bool.{cases_lt}
use Rattle.octets.specs.Rows.{byte, Holds, chain}
use Rattle.octets.proofs.Rows.{holds_chain}

pub holds_self : (xs : List ℕ) → Holds xs 0 xs
holds_self xs = record { fits = omega arith; same = λ i l. let z : 0 + i ≡ i = omega arith in ap (byte xs) z }

length_chain_last_from : (f : ℕ → List ℕ) (c a n : ℕ) → ((i : ℕ) → i < n → length (f (a + i)) ≡ c) → length (flat_map f (range_with_len a (suc n))) ≡ n * c + length (f (a + n))
length_chain_last_from f c a zero e =
    let z : a ≡ a + 0 = omega arith in
    omega (arith, ap (λ b. length (f b)) z, ap length (append-nil (f a)))
length_chain_last_from f c a (suc n) e =
    let z : a ≡ a + 0 = omega arith in
    let len : length (f a) ≡ c = ap (λ b. length (f b)) z ∙ e 0 (omega arith) in
    let next : a + 1 + n ≡ a + suc n = omega arith in
    omega (
      arith,
      suc-mul n c,
      length-append (f a) (flat_map f (range_with_len (a + 1) (suc n))),
      ap (λ b. length (f b)) next,
      length_chain_last_from f c (a + 1) n (λ i m. let o : a + 1 + i ≡ a + suc i = omega arith in ap (λ b. length (f b)) o ∙ e (suc i) (omega arith)),
    )

pub length_chain_last : (f : ℕ → List ℕ) (c n : ℕ) → 0 < n → ((i : ℕ) → suc i < n → length (f i) ≡ c) → length (chain n f) ≡ (n - 1) * c + length (f (n - 1))
length_chain_last f c zero l e = absurd (omega arith)
length_chain_last f c (suc n) l e =
    let s : suc n - 1 ≡ n = omega arith in
    let z : 0 + n ≡ n = omega arith in
    length_chain_last_from f c 0 n (λ i m. let y : 0 + i ≡ i = omega arith in ap (λ b. length (f b)) y ∙ e i (omega arith))
    ∙ ap (λ b. n * c + length (f b)) z
    ∙ ap (λ m. m * c + length (f m)) (sym s)

-- byte j is byte j % c of list j / c
pub byte_chain : (f : ℕ → List ℕ) (c n j : ℕ) → 0 < c → 0 < n → ((i : ℕ) → suc i < n → length (f i) ≡ c) → length (f (n - 1)) ≤ c → j < length (chain n f)
    → (j / c < n) × (j % c < length (f (j / c))) × (byte (chain n f) j ≡ byte (f (j / c)) (j % c))
byte_chain f c n j z some e short l =
    let len : length (chain n f) ≡ (n - 1) * c + length (f (n - 1)) = length_chain_last f c n some e in
    let all : (n - 1) * c + c ≡ n * c = sym (suc-mul (n - 1) c) ∙ ap (λ m. m * c) (pred_suc n some) in
    let k : j / c < n = (div-lt_iff_lt-mul z).1 (omega arith) in
    let whole : j / c * c + j % c ≡ j = div-add-mod' j c in
    let r : j % c < c = mod-lt j z in
    let within : j % c < length (f (j / c)) =
    ⊎_elim (λ m. omega (arith, e (j / c) m)) (λ m. inside (j / c) (j % c) k m len whole) (cases_lt (suc (j / c)) n) in
    let place : 0 + j / c * c + j % c ≡ j = omega arith in
    (k, within, ap (byte (chain n f)) (sym place) ∙ (holds_chain (chain n f) f c 0 n (j / c) e k (holds_self (chain n f))).same (j % c) within)
  where
    pred_suc : (n : ℕ) → 0 < n → suc (n - 1) ≡ n
    pred_suc n l = omega arith

    inside : (q r : ℕ) → q < n → n ≤ suc q → length (chain n f) ≡ (n - 1) * c + length (f (n - 1)) → q * c + r ≡ j → r < length (f q)
    inside q r a b len whole =
        let same : n - 1 ≡ q = omega arith in
        let len' : length (chain n f) ≡ q * c + length (f q) = len ∙ ap (λ m. m * c + length (f m)) same in
        omega arith
