-- One turn after another is one turn: by the law on swaps and reversals, and one test over the whole table.
use Rattle.std.specs.Prelude.{◌&&◌, nat_lt, slice_index, slice_index_or}
use Rattle.std.proofs.Common.{◌≡◌, ℕ, zero, suc, ◌+◌, ◌-◌, ◌*◌, ◌/◌, ◌%◌, ◌<◌, ◌≤◌, Bool, true, false, cond, not, T, [], get_or, sym, refl, ◌∙◌, ap₂, subst₂, add-one, arith}
use Rattle.std.proofs.lemmas.Bool.{and_parts, ltb-true}
use Rattle.std.proofs.lemmas.Bool.Decides.{nat_tests, Decides-below_and}
use Rattle.raster.specs.Picture.{Picture, framed, reshaped}
use Rattle.raster.specs.Views.{turn_by, swaps, mirrors, flips, reversed, counted}
use Rattle.raster.specs.Turns.{table, composed, Composes, Rule}
use Rattle.raster.proofs.Frames.{framed_inside, reshaped_same}

abbrev unlike : Bool → Bool → Bool
unlike true b = not b
unlike false b = b

reversed_below : (b : Bool) (n i : ℕ) → i < n → reversed b n i < n
reversed_below true n i h = omega arith
reversed_below false n i h = h

reversed_twice : (b c : Bool) (n i : ℕ) → i < n → reversed b n (reversed c n i) ≡ reversed (unlike b c) n i
reversed_twice true true n i h = omega arith
reversed_twice true false n i h = refl
reversed_twice false true n i h = refl
reversed_twice false false n i h = refl

-- a turn by what it swaps and reverses
abbrev shape : Bool → Bool → Bool → Picture → Picture
shape s m f p =
    reshaped p (cond s p.height p.width) (cond s p.width p.height)
    (λ x y. p.at (reversed m p.width (cond s y x)) (reversed f p.height (cond s x y)))

-- the inner pixel of two turns, straight and crossed
module _ (p : Picture) (m f n g : Bool) where
  straight : (x y : ℕ) → x < p.width → y < p.height →
      framed p.width p.height (λ c r. p.at (reversed m p.width c) (reversed f p.height r)) (reversed n p.width x) (reversed g p.height y)
      ≡ p.at (reversed (unlike m n) p.width x) (reversed (unlike f g) p.height y)
  straight x y hx hy =
      framed_inside p.width p.height (λ c r. p.at (reversed m p.width c) (reversed f p.height r)) _ _ (reversed_below n p.width x hx) (reversed_below g p.height y hy)
      ∙ ap₂ p.at (reversed_twice m n p.width x hx) (reversed_twice f g p.height y hy)

  crossed : (x y : ℕ) → x < p.width → y < p.height →
      framed p.height p.width (λ c r. p.at (reversed m p.width r) (reversed f p.height c)) (reversed n p.height y) (reversed g p.width x)
      ≡ p.at (reversed (unlike m g) p.width x) (reversed (unlike f n) p.height y)
  crossed x y hx hy =
      framed_inside p.height p.width (λ c r. p.at (reversed m p.width r) (reversed f p.height c)) _ _ (reversed_below n p.height y hy) (reversed_below g p.width x hx)
      ∙ ap₂ p.at (reversed_twice m g p.width x hx) (reversed_twice f n p.height y hy)

shape_shape : (s m f t n g : Bool) (p : Picture) →
    shape t n g (shape s m f p) ≡ shape (unlike s t) (unlike m (cond s g n)) (unlike f (cond s n g)) p
shape_shape false m f false n g p = reshaped_same p p.width p.height _ _ (straight p m f n g)
shape_shape false m f true n g p = reshaped_same p p.height p.width _ _ (λ x y hx hy. straight p m f n g y x hy hx)
shape_shape true m f false n g p = reshaped_same p p.height p.width _ _ (λ x y hx hy. crossed p m f n g y x hy hx)
shape_shape true m f true n g p = reshaped_same p p.width p.height _ _ (crossed p m f n g)

-- from 1 to 8 each number counts as itself
within_turns : (k : ℕ) → (1 ≤ k) × (k ≤ 8) → counted k ≡ k
within_turns k h = grind (arith, nat_tests)

counted_range : (k : ℕ) → (1 ≤ counted k) × (counted k ≤ 8)
counted_range k = grind (arith, nat_tests)

-- a number that counts as turn 1 turns as 1 does
pub turn_counted : (k : ℕ) → turn_by (counted k) ≡ turn_by k
turn_counted k = grind (arith, nat_tests)

abbrev alike : Bool → Bool → Bool
alike true b = b
alike false b = not b

same_from_alike : (a b : Bool) → alike a b ≡ true → a ≡ b
same_from_alike true b e = sym e
same_from_alike false true e = e
same_from_alike false false e = refl

true_from : (b : Bool) → T b → b ≡ true
true_from true t = refl
true_from false t = absurd t

-- t is the turn that a and then b amount to: what it swaps and reverses, and its range
module _ (a b t : ℕ) where
  abbrev swap_test : Bool
  swap_test = alike (swaps t) (unlike (swaps a) (swaps b))

  abbrev column_test : Bool
  column_test = alike (mirrors t) (unlike (mirrors a) (cond (swaps a) (flips b) (mirrors b)))

  abbrev row_test : Bool
  row_test = alike (flips t) (unlike (flips a) (cond (swaps a) (mirrors b) (flips b)))

  abbrev composes : Bool
  composes = (swap_test && (column_test && row_test)) && (nat_lt 0 t && nat_lt t 9)

  composes_turn : composes ≡ true → Composes a b t
  composes_turn test =
      let parts = and_parts (swap_test && (column_test && row_test)) (nat_lt 0 t && nat_lt t 9) test in
      let range = and_parts (nat_lt 0 t) (nat_lt t 9) parts.1 in
      let shapes = and_parts swap_test (column_test && row_test) parts.0 in
      let reversals = and_parts column_test row_test shapes.1 in
      let s = same_from_alike (swaps t) _ shapes.0 in
      let m = same_from_alike (mirrors t) _ reversals.0 in
      let f = same_from_alike (flips t) _ reversals.1 in
      record {
        range = (ltb-true 0 t range.0, omega (arith, ltb-true t 9 range.1));
        rule = λ p.
            shape_shape (swaps a) (mirrors a) (flips a) (swaps b) (mirrors b) (flips b) p
            ∙ sym (λ i. shape (s i) (m i) (f i) p);
      }

  composes_range : T composes → (1 ≤ t) × (t ≤ 8)
  composes_range test = (composes_turn (true_from composes test)).range

abbrev all_below : (ℕ → Bool) → ℕ → Bool
all_below f zero = true
all_below f (suc n) = f n && all_below f n

each_below : (f : ℕ → Bool) (n : ℕ) → all_below f n ≡ true → (k : ℕ) → k < n → f k ≡ true
each_below f n = (Decides-below_and f (λ k. f k ≡ true) (all_below f) (λ _. (λ e. e, λ e. e)) refl (λ _. refl) n).0

-- the test of the table's entry at a row and a column counted from 0
abbrev entry_test : ℕ → ℕ → Bool
entry_test a b = composes (suc a) (suc b) (slice_index (slice_index_or table a []) b)

each_entry : (a b : ℕ) → a < 8 → b < 8 → entry_test a b ≡ true
unfolding table
each_entry a b ha hb = each_below (entry_test a) 8 (each_below (λ r. all_below (entry_test r) 8) 8 refl a ha) b hb

-- the test of an entry, at its place counted from 0, row by row
abbrev entry : ℕ → ℕ → Bool
entry k t = composes (k / 8 + 1) (k % 8 + 1) t

each_place : (i : ℕ) → i < 64 → entry i (get_or (get_or table (i / 8) []) (i % 8) 0) ≡ true
each_place i h =
    subst₂ (λ (x y : ℕ). composes x y (get_or (get_or table (i / 8) []) (i % 8) 0) ≡ true) (sym (add-one (i / 8))) (sym (add-one (i % 8)))
    (each_entry (i / 8) (i % 8) (omega arith) (omega arith))

-- the rule at a place of the table
placed : (a b i : ℕ) → i ≡ 8 * (counted a - 1) + (counted b - 1) → Composes a b (get_or (get_or table (i / 8) []) (i % 8) 0)
placed a b i place =
    let ra = counted_range a in
    let rb = counted_range b in
    let t : ℕ = get_or (get_or table (i / 8) []) (i % 8) 0 in
    let test = each_place i (omega arith) in
    let row : i / 8 + 1 ≡ counted a = omega arith in
    let column : i % 8 + 1 ≡ counted b = omega arith in
    let counts = subst₂ (λ (x y : ℕ). Composes x y t) row column (composes_turn _ _ t test) in
    record {
      range = counts.range;
      rule = λ p. ap₂ (λ (f g : Picture → Picture). f (g p)) (sym (turn_counted b)) (sym (turn_counted a)) ∙ counts.rule p;
    }

pub composed_rule : (a b : ℕ) → Composes a b (composed a b)
unfolding composed
composed_rule a b =
    let rb = counted_range b in
    let i : ℕ = 8 * (counted a - 1) + (counted b - 1) in
    let row : i / 8 ≡ counted a - 1 = omega arith in
    let column : i % 8 ≡ counted b - 1 = omega arith in
    subst₂ (λ (x y : ℕ). Composes a b (get_or (get_or table x []) y 0)) row column (placed a b i refl)

pub table_rule : Rule
unfolding composed table
table_rule = record { every = composed_rule; two_six = refl; six_two = refl }
