-- Three bytes read at once, as one number.
use Rattle.std.proofs.Common.{◌≡◌, ℕ, ◌+◌, ◌*◌, ◌%◌, ◌<◌, Bool, true, false, cond, List, length, refl, ap, ◌∙◌, arith}
use Rattle.std.proofs.lemmas.Bool.{leb-true, leb-false}
use Rattle.octets.specs.Digits.{packed}
use Rattle.octets.specs.Rows.{byte}
use Rattle.reads.specs.Reads.{inside, part}
use Rattle.reads.proofs.Parts.{part_byte, part_past}
use Rattle.stored.specs.Reading.{rgb_at}

together : (f : ℕ → ℕ) (a b c : ℕ) → a ≡ f 0 → b ≡ f 1 → c ≡ f 2 → a < 256 → b < 256 → c < 256 → 65536 * a + 256 * b + c ≡ packed 256 3 (λ i. f i % 256)
unfolding packed
together f a b c p q r l m n = omega arith

abbrev pub rgb_of : List ℕ → ℕ
rgb_of xs = 65536 * byte xs 0 + 256 * byte xs 1 + byte xs 2

pub rgb_part : (bs : List ℕ) (place : ℕ) (xs : List ℕ) → xs ≡ part bs place 3 → (byte xs 0 < 256) × (byte xs 1 < 256) × (byte xs 2 < 256) → rgb_of xs ≡ rgb_at bs place
unfolding rgb_at
rgb_part bs place xs e l = by (inside bs place 3) refl
  where
    by : (b : Bool) → inside bs place 3 ≡ b → rgb_of xs ≡ cond b (packed 256 3 (λ i. byte bs (place + i) % 256)) 0
    by true t =
        let at : (i : ℕ) → i < 3 → byte xs i ≡ byte bs (place + i) = λ i m. ap (λ ys. byte ys i) e ∙ part_byte bs place 3 i (leb-true (place + 3) (length bs) t) m in
        together (λ i. byte bs (place + i)) (byte xs 0) (byte xs 1) (byte xs 2) (at 0 (omega arith)) (at 1 (omega arith)) (at 2 (omega arith)) l.0 l.1 l.2
    by false t = ap rgb_of (e ∙ part_past bs place 3 (leb-false (place + 3) (length bs) t))
