-- Pixels inside and outside the sides, and when two pictures are equal.
use Rattle.std.proofs.Common.{◌≡◌, ℕ, ◌+◌, ◌<◌, cond, ltb, sym, ap, ◌∙◌, ⊎_elim, zero-add, arith}
use mathlib.Core.Path.{fun_ext}
use Rattle.std.proofs.lemmas.Bool.{cond-true, cond-false, cases_Bool, and_parts, and_from, ltb-true, lt-ltb, le-leb}
use Rattle.raster.specs.Picture.{Picture, Sound, within, framed, reshaped, empty}
use Rattle.raster.specs.Views.{turn_by, crop_of, fits}
use Rattle.raster.specs.Turns.{whole, Unchanged}

pub framed_inside : (w h : ℕ) (f : ℕ → ℕ → ℕ) (x y : ℕ) → x < w → y < h → framed w h f x y ≡ f x y
framed_inside w h f x y hx hy =
    cond-true (within w h x y) (f x y) 0 (and_from (ltb x w) (ltb y h) (lt-ltb x w hx) (lt-ltb y h hy))

-- what agrees inside the sides is equal once framed
pub framed_same : (w h : ℕ) (f g : ℕ → ℕ → ℕ) → ((x y : ℕ) → x < w → y < h → f x y ≡ g x y) → framed w h f ≡ framed w h g
framed_same w h f g each = fun_ext (λ x. fun_ext (λ y. one x y))
  where
    one : (x y : ℕ) → framed w h f x y ≡ framed w h g x y
    one x y =
        ⊎_elim
        (λ t. let hs = and_parts (ltb x w) (ltb y h) t in
        ap (λ v. cond (within w h x y) v 0) (each x y (ltb-true x w hs.0) (ltb-true y h hs.1)))
        (λ e. cond-false (within w h x y) (f x y) 0 e ∙ sym (cond-false (within w h x y) (g x y) 0 e))
        (cases_Bool (within w h x y))

pub reshaped_same : (p : Picture) (w h : ℕ) (f g : ℕ → ℕ → ℕ) → ((x y : ℕ) → x < w → y < h → f x y ≡ g x y) → reshaped p w h f ≡ reshaped p w h g
reshaped_same p w h f g each = λ i. record { width = w; height = h; kind = p.kind; at = framed_same w h f g each i }

-- the pixels of a grid are framed already
framed_own : (p : Picture) → Sound p → framed p.width p.height p.at ≡ p.at
framed_own p s = fun_ext (λ x. fun_ext (λ y. one x y))
  where
    one : (x y : ℕ) → framed p.width p.height p.at x y ≡ p.at x y
    one x y =
        ⊎_elim (λ t. cond-true (within p.width p.height x y) (p.at x y) 0 t)
        (λ e. cond-false (within p.width p.height x y) (p.at x y) 0 e ∙ sym (s.outside x y e))
        (cases_Bool (within p.width p.height x y))

-- a sound picture, reshaped to what it is
pub reshaped_own : (p : Picture) → Sound p → reshaped p p.width p.height p.at ≡ p
reshaped_own p s = λ i. record { width = p.width; height = p.height; kind = p.kind; at = framed_own p s i }

pub turn_one : (p : Picture) → Sound p → turn_by 1 p ≡ p
turn_one p s = reshaped_own p s

pub crop_whole : (p : Picture) → Sound p → crop_of p (whole p) ≡ p
crop_whole p s =
    ⊎_elim
    (λ e. ap (λ (q : Picture). crop_of q (whole q)) e ∙ sym e)
    (λ some.
    cond-true {A = Picture} (fits p (whole p)) _ empty
    (and_from _ _ (and_from _ _ (lt-ltb 0 p.width some.0) (lt-ltb 0 p.height some.1))
    (and_from _ _ (le-leb (0 + p.width) p.width (omega arith)) (le-leb (0 + p.height) p.height (omega arith))))
    ∙ reshaped_same p p.width p.height _ _ (λ x y _ _. λ i. p.at (zero-add x i) (zero-add y i))
    ∙ reshaped_own p s)
    s.sides

pub unchanged : Unchanged
unchanged = record { turn_one = turn_one; crop_whole = crop_whole }

-- sound pictures of equal sides, kinds and inner pixels are equal
pub picture_same : (p q : Picture) → Sound p → Sound q → p.width ≡ q.width → p.height ≡ q.height → p.kind ≡ q.kind →
    ((x y : ℕ) → x < p.width → y < p.height → p.at x y ≡ q.at x y) → p ≡ q
picture_same p q sp sq ew eh ek each =
    sym (reshaped_own p sp)
    ∙ reshaped_same p p.width p.height p.at q.at each
    ∙ (λ i. record { width = ew i; height = eh i; kind = ek i; at = framed (ew i) (eh i) q.at })
    ∙ reshaped_own q sq
