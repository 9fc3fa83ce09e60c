-- Digits put together and taken apart.
use Rattle.std.proofs.Common.{◌≡◌, ℕ, zero, suc, ◌+◌, ◌-◌, ◌*◌, ◌/◌, ◌%◌, ◌^◌, ◌<◌, refl, ap, ◌∙◌, ⊎_elim, div-lt_iff_lt-mul, pow-suc, mul-zero, div-add-mod', mul-suc, div-one, arith}
use native.Mathlib.Nat.{pow-zero, pow-succ', div-div-eq-div-mul}
use lib.Arith.{digits_lt, digits_div, digits_mod}
use Rattle.std.proofs.lemmas.Bool.{cases_eq}
use Rattle.std.proofs.lemmas.Nat.{pow-add}
use Rattle.octets.specs.Digits.{packed, digit, rank, number, byte_of}
use Rattle.octets.specs.declared.endian.Endian.{Endian}
use Rattle.octets.specs.declared.endian.Endian.TheVariants.{Little, Big}

-- a number of n digits is below base ^ n
pub packed_below : (base n : ℕ) (f : ℕ → ℕ) → ((t : ℕ) → t < n → f t < base) → packed base n f < base ^ n
unfolding packed
packed_below base zero f h = omega (arith, pow-zero base)
packed_below base (suc n) f h = rw pow-suc (digits_lt (packed_below base n f (λ t l. h t (omega arith))) (h n (omega arith)))

-- the last digit, and any other
digit_last : (base n v : ℕ) → digit base (suc n) v n ≡ v % base
unfolding digit
digit_last base n v =
    let z : suc n - suc n ≡ 0 = omega arith in
    rw (z, pow-zero, div-one)

digit_front : (base n v t : ℕ) → t < n → digit base (suc n) v t ≡ digit base n (v / base) t
unfolding digit
digit_front base n v t l =
    let z : suc n - suc t ≡ suc (n - suc t) = omega arith in
    rw (z, pow-succ', div-div-eq-div-mul)

pub digit_packed : (base n : ℕ) (f : ℕ → ℕ) → ((t : ℕ) → t < n → f t < base) → (t : ℕ) → t < n → digit base n (packed base n f) t ≡ f t
unfolding packed
digit_packed base zero f h t l = absurd (omega arith)
digit_packed base (suc n) f h t l =
    ⊎_elim
    (λ e. rw e (digit_last base n (packed base n f * base + f n) ∙ digits_mod (packed base n f) (h n (omega arith))))
    (λ e. let b : t < n = omega arith in
    digit_front base n (packed base n f * base + f n) t b
    ∙ ap (λ v. digit base n v t) (digits_div (packed base n f) (h n (omega arith)))
    ∙ digit_packed base n f (λ s k. h s (omega arith)) t b)
    (cases_eq t n)

-- two lists of equal digits
pub packed_same : (base n : ℕ) (f g : ℕ → ℕ) → ((t : ℕ) → t < n → f t ≡ g t) → packed base n f ≡ packed base n g
unfolding packed
packed_same base zero f g h = refl
packed_same base (suc n) f g h = rw (packed_same base n f g (λ t l. h t (omega arith)), h n (omega arith))

pub packed_digit : (base n v : ℕ) → v < base ^ n → packed base n (digit base n v) ≡ v
unfolding packed
packed_digit base zero v h = omega (arith, pow-zero base)
packed_digit base (suc n) v h =
    rw (
      packed_same base n (digit base (suc n) v) (digit base n (v / base)) (λ t l. digit_front base n v t l),
      packed_digit base n (v / base) (below base n v h),
      digit_last,
    )
    (div-add-mod' v base)
  where
    positive : (base n v : ℕ) → v < base ^ suc n → 0 < base
    positive zero n v h = absurd (omega (arith, pow-suc 0 n))
    positive (suc b) n v h = omega arith

    below : (base n v : ℕ) → v < base ^ suc n → v / base < base ^ n
    below base n v h = (div-lt_iff_lt-mul (positive base n v h)).1 (rw pow-suc at h)

pub rank_rank : (o : Endian) (n t : ℕ) → t < n → rank o n (rank o n t) ≡ t
rank_rank Little n t l = omega arith
rank_rank Big n t l = refl

pub number_byte_of : (o : Endian) (n v : ℕ) → v < 256 ^ n → number o n (byte_of o n v) ≡ v
unfolding number byte_of
number_byte_of o n v h =
    packed_same 256 n (λ t. digit 256 n v (rank o n (rank o n t))) (digit 256 n v) (λ t l. ap (digit 256 n v) (rank_rank o n t l))
    ∙ packed_digit 256 n v h

pub number_same : (o : Endian) (n : ℕ) (f g : ℕ → ℕ) → ((t : ℕ) → t < n → f t ≡ g t) → number o n f ≡ number o n g
unfolding number
number_same Little n f g h = packed_same 256 n (λ t. f (rank Little n t)) (λ t. g (rank Little n t)) (λ t l. h (n - suc t) (omega arith))
number_same Big n f g h = packed_same 256 n (λ t. f (rank Big n t)) (λ t. g (rank Big n t)) (λ t l. h t l)

pub pow_pow : (n a k : ℕ) → (n ^ a) ^ k ≡ n ^ (a * k)
pow_pow n a zero = rw (pow-zero, mul-zero, pow-zero)
pow_pow n a (suc k) = rw (pow-suc, pow_pow n a k, mul-suc, pow-add)

-- a digit to the base 2 ^ b, as code takes it: by a shift
pub digit_shift : (b n v t : ℕ) → digit (2 ^ b) n v t ≡ v / 2 ^ (b * (n - suc t)) % 2 ^ b
unfolding digit
digit_shift b n v t = rw pow_pow
