-- The length of a number's decimal digits.
use Rattle.std.proofs.Common.{◌≡◌, ℕ, zero, suc, ◌+◌, ◌*◌, ◌/◌, ◌%◌, ◌^◌, ◌<◌, ◌≤◌, length, max, decimal, sym, ap, ◌∙◌, pow-suc, arith}
use Rattle.std.proofs.lemmas.Fmt.{decimal_digit, decimal_step}
use Rattle.std.proofs.lemmas.List.{length_push}

pub length_decimal_step : (n : ℕ) → 10 ≤ n → n < 2 ^ 64 → length (decimal n) ≡ length (decimal (n / 10)) + 1
length_decimal_step n h small = ap length (decimal_step n h small) ∙ length_push (decimal (n / 10)) (48 + n % 10)

pub length_decimal_log : (k n : ℕ) → 10 ^ k ≤ n → n < 10 * 10 ^ k → n < 2 ^ 64 → length (decimal n) ≡ k + 1
length_decimal_log zero n low high small = ap length (decimal_digit n (omega arith))
length_decimal_log (suc k) n low high small =
    let p = pow-suc 10 k in
    let rest = length_decimal_log k (n / 10) (omega arith) (omega arith) (omega arith) in
    omega (arith, rest, length_decimal_step n (omega arith) small)

-- 0 has one digit, as 1 has
pub length_decimal_max : (k n : ℕ) → 10 ^ k ≤ max n 1 → max n 1 < 10 * 10 ^ k → n < 2 ^ 64 → length (decimal n) ≡ k + 1
length_decimal_max k zero low high small = ap length (decimal_digit 0 (omega arith)) ∙ sym (ap length (decimal_digit 1 (omega arith))) ∙ length_decimal_log k 1 low high (omega arith)
length_decimal_max k (suc n) low high small = length_decimal_log k (suc n) (omega arith) (omega arith) small
