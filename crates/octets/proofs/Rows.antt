-- Lists that stand in others, and rows read back.
use Rattle.std.proofs.Common.{◌≡◌, ℕ, zero, suc, ◌+◌, ◌*◌, ◌/◌, ◌%◌, ◌^◌, ◌<◌, ltb, List, ◌++◌, length, sym, refl, ap, ◌∙◌, subst, inl, inr, mod-lt, suc-mul, div-add-mod', arith}
use Rattle.std.specs.List.{range_with_len, flat_map}
use Rattle.std.proofs.lemmas.List.{length-append, get_or_append_left, get_or-append-add}
use Rattle.std.proofs.lemmas.List.FromFn.{length-map-range_with_len, get_or-map-range_with_len}
use Rattle.std.proofs.lemmas.Bool.{lt-ltb, cond-true, cond_both, ltb-true}
use Rattle.std.proofs.lemmas.Nat.{pow_pos}
use Rattle.octets.specs.Digits.{packed, digit}
use Rattle.octets.specs.Rows.{byte, Holds, chain, Bits, per_byte, packed_size, padded, packed_row, sample_in}
use Rattle.octets.proofs.Digits.{digit_packed}

pub holds_at : (bs : List ℕ) (p q : ℕ) (xs : List ℕ) → p ≡ q → Holds bs p xs → Holds bs q xs
holds_at bs p q xs e h = subst (λ n. Holds bs n xs) e h

pub holds_front : (bs : List ℕ) (p : ℕ) (xs ys : List ℕ) → Holds bs p (xs ++ ys) → Holds bs p xs
holds_front bs p xs ys h = record {
  fits = omega (arith, h.fits, length-append xs ys);
  same = λ i l. h.same i (omega (arith, length-append xs ys)) ∙ get_or_append_left xs ys 0 i l;
}

pub holds_back : (bs : List ℕ) (p q : ℕ) (xs ys : List ℕ) → p + length xs ≡ q → Holds bs p (xs ++ ys) → Holds bs q ys
holds_back bs p q xs ys e h = record {
  fits = omega (arith, h.fits, length-append xs ys);
  same = λ i l.
      let k : p + (length xs + i) ≡ q + i = omega arith in
      ap (byte bs) (sym k) ∙ h.same (length xs + i) (omega (arith, length-append xs ys)) ∙ get_or-append-add xs ys i 0;
}

-- lists of one length but for the last
holds_chain_from : (bs : List ℕ) (f : ℕ → List ℕ) (c p a n k : ℕ) → ((i : ℕ) → suc i < n → length (f (a + i)) ≡ c) → k < n → Holds bs p (flat_map f (range_with_len a n)) → Holds bs (p + k * c) (f (a + k))
holds_chain_from bs f c p a zero k e l h = absurd (omega arith)
holds_chain_from bs f c p a (suc n) zero e l h =
    let z : a ≡ a + 0 = omega arith in
    holds_at bs p (p + 0 * c) (f (a + 0)) (omega arith)
    (subst (λ b. Holds bs p (f b)) z (holds_front bs p (f a) (flat_map f (range_with_len (a + 1) n)) h))
holds_chain_from bs f c p a (suc n) (suc k) e l h =
    let z : a ≡ a + 0 = omega arith in
    let len : length (f a) ≡ c = ap (λ b. length (f b)) z ∙ e 0 (omega arith) in
    let next : a + 1 + k ≡ a + suc k = omega arith in
    holds_at bs (p + length (f a) + k * c) (p + suc k * c) (f (a + suc k)) (omega (arith, suc-mul k c))
    (subst (λ b. Holds bs (p + length (f a) + k * c) (f b)) next
    (holds_chain_from bs f c (p + length (f a)) (a + 1) n k
    (λ i m. let o : a + 1 + i ≡ a + suc i = omega arith in ap (λ b. length (f b)) o ∙ e (suc i) (omega arith))
    (omega arith)
    (holds_back bs p (p + length (f a)) (f a) (flat_map f (range_with_len (a + 1) n)) refl h)))

pub holds_chain : (bs : List ℕ) (f : ℕ → List ℕ) (c p n k : ℕ) → ((i : ℕ) → suc i < n → length (f i) ≡ c) → k < n → Holds bs p (chain n f) → Holds bs (p + k * c) (f k)
holds_chain bs f c p n k e l h =
    let z : 0 + k ≡ k = omega arith in
    subst (λ b. Holds bs (p + k * c) (f b)) z
    (holds_chain_from bs f c p 0 n k (λ i m. let y : 0 + i ≡ i = omega arith in ap (λ b. length (f b)) y ∙ e i m) l h)

-- the length of such a list, all but the last of which have the length c
length_chain_from : (f : ℕ → List ℕ) (c a n : ℕ) → ((i : ℕ) → i < n → length (f (a + i)) ≡ c) → length (flat_map f (range_with_len a n)) ≡ n * c
length_chain_from f c a zero e = omega arith
length_chain_from f c a (suc n) e =
    let z : a ≡ a + 0 = omega arith in
    let len : length (f a) ≡ c = ap (λ b. length (f b)) z ∙ e 0 (omega arith) in
    omega (
      arith,
      suc-mul n c,
      length-append (f a) (flat_map f (range_with_len (a + 1) n)),
      length_chain_from f c (a + 1) n (λ i m. let o : a + 1 + i ≡ a + suc i = omega arith in ap (λ b. length (f b)) o ∙ e (suc i) (omega arith)),
    )

pub length_chain : (f : ℕ → List ℕ) (c n : ℕ) → ((i : ℕ) → i < n → length (f i) ≡ c) → length (chain n f) ≡ n * c
length_chain f c n e = length_chain_from f c 0 n (λ i m. let y : 0 + i ≡ i = omega arith in ap (λ b. length (f b)) y ∙ e i m)

pub by_bits : (P : ℕ → Type 0) → P 1 → P 4 → P 8 → (b : ℕ) → Bits b → P b
by_bits P p1 p4 p8 b (inl e) = subst P (sym e) p1
by_bits P p1 p4 p8 b (inr (inl e)) = subst P (sym e) p4
by_bits P p1 p4 p8 b (inr (inr e)) = subst P (sym e) p8

pub per_byte_positive : (b : ℕ) → Bits b → 0 < per_byte b
per_byte_positive = by_bits (λ b. 0 < per_byte b) (omega arith) (omega arith) (omega arith)

-- the byte of sample s is one of the row's
pub sample_within : (n s : ℕ) → s < n → (b : ℕ) → Bits b → s / per_byte b < packed_size b n
sample_within n s l = by_bits (λ b. s / per_byte b < packed_size b n) (omega arith) (omega arith) (omega arith)

pub length_packed_row : (b n : ℕ) (f : ℕ → ℕ) → length (packed_row b n f) ≡ packed_size b n
unfolding packed_row
length_packed_row b n f = length-map-range_with_len (λ i. packed (2 ^ b) (per_byte b) (λ t. padded n f (i * per_byte b + t))) 0 (packed_size b n)

pub padded_below : (base n : ℕ) (f : ℕ → ℕ) → 0 < base → ((s : ℕ) → s < n → f s < base) → (s : ℕ) → padded n f s < base
padded_below base n f z h s = cond_both (ltb s n) (f s) 0 (λ v. v < base) (λ e. h s (ltb-true s n e)) (λ e. z)

pub sample_back : (b n : ℕ) (f : ℕ → ℕ) (row : ℕ → ℕ) → Bits b → ((s : ℕ) → s < n → f s < 2 ^ b)
    → ((i : ℕ) → i < packed_size b n → row i ≡ byte (packed_row b n f) i) → (s : ℕ) → s < n → sample_in b row s ≡ f s
unfolding packed_row sample_in
sample_back b n f row bits below same s l =
    let positive : 0 < per_byte b = per_byte_positive b bits in
    let within : s / per_byte b < packed_size b n = sample_within n s l b bits in
    let t : s % per_byte b < per_byte b = mod-lt s positive in
    let here : row (s / per_byte b) ≡ packed (2 ^ b) (per_byte b) (λ t. padded n f (s / per_byte b * per_byte b + t)) =
    same (s / per_byte b) within
    ∙ get_or-map-range_with_len (λ i. packed (2 ^ b) (per_byte b) (λ t. padded n f (i * per_byte b + t))) 0 (packed_size b n) (s / per_byte b) (s / per_byte b) 0 within (omega arith) in
    ap (λ v. digit (2 ^ b) (per_byte b) v (s % per_byte b)) here
    ∙ digit_packed (2 ^ b) (per_byte b) (λ t. padded n f (s / per_byte b * per_byte b + t)) (λ t _. padded_below (2 ^ b) n f (pow_pos b) below (s / per_byte b * per_byte b + t)) (s % per_byte b) t
    ∙ ap (padded n f) (div-add-mod' s (per_byte b))
    ∙ cond-true (ltb s n) (f s) 0 (lt-ltb s n l)
