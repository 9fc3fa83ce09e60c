-- Bits put together one after the other.
use Rattle.std.proofs.Common.{◌≡◌, ℕ, suc, ◌+◌, ◌*◌, sym, refl, ap, ◌∙◌, add-one, arith}
use Rattle.octets.specs.Digits.{packed}

pub packed_none : (f : ℕ → ℕ) → 0 ≡ packed 2 0 f
unfolding packed
packed_none f = refl

packed_suc : (f : ℕ → ℕ) (n : ℕ) → 2 * packed 2 n f + f n ≡ packed 2 (suc n) f
unfolding packed
packed_suc f n = omega arith

pub packed_more : (f : ℕ → ℕ) (n : ℕ) → 2 * packed 2 n f + f n ≡ packed 2 (n + 1) f
packed_more f n = packed_suc f n ∙ ap (λ m. packed 2 m f) (sym (add-one n))
