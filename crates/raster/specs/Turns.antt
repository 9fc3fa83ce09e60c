-- The eight turns place by place, and what one after another amounts to. Assumes nothing.
use Rattle.std.specs.Prelude.{◌≡◌, ℕ, ◌-◌, ◌<◌, ◌≤◌, ◌⊎◌, List, [], ◌∷◌, slice_index, slice_index_or}
use Rattle.raster.specs.Picture.{Picture, Sound}
use Rattle.raster.specs.Views.{turn_by, crop_of, counted}
use Rattle.raster.specs.declared.grid.Area.{Area}

-- turn k makes of p a picture of these sides, which shows at (x, y) the pixel of p at `place x y`
pub record Shows (p : Picture) (k width height : ℕ) (place : ℕ → ℕ → ℕ × ℕ) : Type 0 where
  pub wide : (turn_by k p).width ≡ width
  pub high : (turn_by k p).height ≡ height
  pub pixels : (x y : ℕ) → x < width → y < height → (turn_by k p).at x y ≡ p.at (place x y).0 (place x y).1

-- the eight turns of a picture W wide and L high; any other number turns as 1 does
pub record Eight (p : Picture) (W L : ℕ) : Type 0 where
  pub turn_1 : Shows p 1 W L (λ x y. (x, y))
  pub turn_2 : Shows p 2 W L (λ x y. (W - 1 - x, y))
  pub turn_3 : Shows p 3 W L (λ x y. (W - 1 - x, L - 1 - y))
  pub turn_4 : Shows p 4 W L (λ x y. (x, L - 1 - y))
  pub turn_5 : Shows p 5 L W (λ x y. (y, x))
  pub turn_6 : Shows p 6 L W (λ x y. (y, L - 1 - x))
  pub turn_7 : Shows p 7 L W (λ x y. (W - 1 - y, L - 1 - x))
  pub turn_8 : Shows p 8 L W (λ x y. (W - 1 - y, x))
  pub others : (k : ℕ) → (k ≡ 0) ⊎ (8 < k) → turn_by k p ≡ turn_by 1 p

-- row a, column b, both counted from 1: the one turn that a turn by a and then by b amounts to
unfoldable pub table : List (List ℕ)
table =
    (1 ∷ 2 ∷ 3 ∷ 4 ∷ 5 ∷ 6 ∷ 7 ∷ 8 ∷ []) ∷
    (2 ∷ 1 ∷ 4 ∷ 3 ∷ 8 ∷ 7 ∷ 6 ∷ 5 ∷ []) ∷
    (3 ∷ 4 ∷ 1 ∷ 2 ∷ 7 ∷ 8 ∷ 5 ∷ 6 ∷ []) ∷
    (4 ∷ 3 ∷ 2 ∷ 1 ∷ 6 ∷ 5 ∷ 8 ∷ 7 ∷ []) ∷
    (5 ∷ 6 ∷ 7 ∷ 8 ∷ 1 ∷ 2 ∷ 3 ∷ 4 ∷ []) ∷
    (6 ∷ 5 ∷ 8 ∷ 7 ∷ 4 ∷ 3 ∷ 2 ∷ 1 ∷ []) ∷
    (7 ∷ 8 ∷ 5 ∷ 6 ∷ 3 ∷ 4 ∷ 1 ∷ 2 ∷ []) ∷
    (8 ∷ 7 ∷ 6 ∷ 5 ∷ 2 ∷ 1 ∷ 4 ∷ 3 ∷ []) ∷
    []

-- the turn that a turn by a and then by b amounts to
unfoldable pub composed : ℕ → ℕ → ℕ
composed a b = slice_index (slice_index_or table (counted a - 1) []) (counted b - 1)

-- one turn t that does on every picture what a and then b do
pub record Composes (a b t : ℕ) : Type 0 where
  pub range : (1 ≤ t) × (t ≤ 8)
  pub rule : (p : Picture) → turn_by b (turn_by a p) ≡ turn_by t p

-- the table's rule, for every two numbers; 2 and then 6 is 7, 6 and then 2 is 5
pub record Rule : Type 0 where
  pub every : (a b : ℕ) → Composes a b (composed a b)
  pub two_six : composed 2 6 ≡ 7
  pub six_two : composed 6 2 ≡ 5

abbrev pub whole : Picture → Area
whole p = record { x = 0; y = 0; width = p.width; height = p.height }

-- of a sound picture, turn 1 and the rectangle of the whole are the picture itself
pub record Unchanged : Type 0 where
  pub turn_one : (p : Picture) → Sound p → turn_by 1 p ≡ p
  pub crop_whole : (p : Picture) → Sound p → crop_of p (whole p) ≡ p
