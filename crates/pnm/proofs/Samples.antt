-- What an allowed kind says of pixel numbers.
use Rattle.std.proofs.Common.{◌≡◌, ℕ, ◌+◌, ◌-◌, ◌^◌, ◌<◌, ◌≤◌, true, eqb, ltb, sym, ap, ◌∙◌, subst, ap₂, arith}
use Rattle.std.proofs.lemmas.Bool.{cond-false, cond_both, eqb-true, ne_eqb}
use Rattle.std.proofs.lemmas.Bool.Decides.{nat_tests}
use Rattle.raster.specs.Picture.{Picture, Sound, allowed, levels, number_of}
use Rattle.raster.specs.Views.{rectangle}
use Rattle.pnm.specs.Netpbm.{bilevel, colour, grey, largest, black, pixel_bytes}
use Rattle.raster.specs.declared.grid.Kind.{Kind}
use Rattle.raster.specs.declared.grid.Area.{Area}
use Rattle.raster.specs.Soundness.{framed_below, levels_some}

pub rectangle_sample : (p : Picture) (a : Area) → Sound p → (x y : ℕ) → (rectangle p a).at x y < levels p.kind
rectangle_sample p a s x y =
    framed_below a.width a.height (λ c r. p.at (a.x + c) (a.y + r)) (levels p.kind) (levels_some p.kind)
    (λ c r. s.samples (a.x + c) (a.y + r)) x y

pub bilevel_grey : (k : Kind) → allowed k ≡ true → bilevel k ≡ true → number_of k.photometric < 2
bilevel_grey k h t = grind (arith, nat_tests)

pub bilevel_levels : (k : Kind) → allowed k ≡ true → bilevel k ≡ true → levels k ≡ 2
bilevel_levels k h t =
    cond-false (colour k) (2 ^ 24) (2 ^ k.bits) (ne_eqb (number_of k.photometric) 2 (λ e. omega (arith, bilevel_grey k h t)))
    ∙ ap (λ b. 2 ^ b) (eqb-true k.bits 1 t)

pub bilevel_bit : (k : Kind) (v : ℕ) → bilevel k ≡ true → v < 2 → grey k v ≤ 1
bilevel_bit k v t h =
    let one : largest k ≡ 1 = ap (λ b. 2 ^ b - 1) (eqb-true k.bits 1 t) in
    cond_both (eqb (number_of k.photometric) 0) (largest k - v) v (λ n. n ≤ 1) (λ _. omega arith) (λ _. omega arith)

pub black_bit : (p : Picture) (y x : ℕ) → black p y x ≤ 1
black_bit p y x = cond_both (ltb x p.width) (1 - grey p.kind (p.at x y)) 0 (λ n. n ≤ 1) (λ _. omega arith) (λ _. omega arith)

-- what is known of the pixel v that a grid shows in an area: q is its picture now, p its picture at the entry
pub record Shown (p : Picture) (a : Area) (k : Kind) (v x y : ℕ) : Type 0 where
  pub kind : k ≡ p.kind
  pub allowed_kind : allowed k ≡ true
  pub value : v ≡ (rectangle p a).at x y
  pub below : v < levels k

pub shown : (p q : Picture) (a : Area) (k : Kind) (v x y : ℕ) → Sound p → k ≡ p.kind → q ≡ p → v ≡ (rectangle q a).at x y → Shown p a k v x y
shown p q a k v x y s ek eq ev =
    let value : v ≡ (rectangle p a).at x y = ev ∙ ap (λ (r : Picture). (rectangle r a).at x y) eq in
    record {
      kind = ek;
      allowed_kind = ap allowed ek ∙ s.kinds;
      value = value;
      below = subst (λ n. v < n) (sym (ap levels ek)) (subst (λ n. n < levels p.kind) (sym value) (rectangle_sample p a s x y));
    }

pub shown_bytes : {p : Picture} {a : Area} {k : Kind} {v x y : ℕ} → Shown p a k v x y →
    pixel_bytes k v ≡ pixel_bytes p.kind ((rectangle p a).at x y)
shown_bytes h = ap₂ pixel_bytes h.kind h.value
