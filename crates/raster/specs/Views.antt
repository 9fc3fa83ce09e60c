-- Pictures made of others: a rectangle of one, and the eight turns. Assumes nothing.
use Rattle.std.specs.Prelude.{ℕ, ◌+◌, ◌-◌, Bool, cond, ◌&&◌, ◌||◌, ◌==◌, nat_le, nat_lt}
use Rattle.raster.specs.Picture.{Picture, reshaped, empty}
use Rattle.raster.specs.declared.grid.Area.{Area}

-- a rectangle with both sides above 0 that passes no edge of a picture of these sides
abbrev pub area_fits : ℕ → ℕ → Area → Bool
area_fits width height a = (nat_lt 0 a.width && nat_lt 0 a.height) && (nat_le (a.x + a.width) width && nat_le (a.y + a.height) height)

abbrev pub fits : Picture → Area → Bool
fits p a = area_fits p.width p.height a

abbrev pub rectangle : Picture → Area → Picture
rectangle p a = reshaped p a.width a.height (λ x y. p.at (a.x + x) (a.y + y))

abbrev pub crop_of : Picture → Area → Picture
crop_of p a = cond (fits p a) (rectangle p a) empty

-- a k outside 1 to 8 counts as 1
abbrev pub counted : ℕ → ℕ
counted k = cond (nat_lt 0 k && nat_lt k 9) k 1

-- turns 5 to 8 swap the sides
abbrev pub swaps : ℕ → Bool
swaps k = nat_le 5 k && nat_le k 8

-- turns 2, 3, 7 and 8 show the columns below from the last to the first
abbrev pub mirrors : ℕ → Bool
mirrors k = (k == 2 || k == 3) || (k == 7 || k == 8)

-- turns 3, 4, 6 and 7 show the rows below from the last to the first
abbrev pub flips : ℕ → Bool
flips k = (k == 3 || k == 4) || (k == 6 || k == 7)

abbrev pub reversed : Bool → ℕ → ℕ → ℕ
reversed b n i = cond b (n - 1 - i) i

-- the column and the row below that turn k shows at (x, y), over a picture w wide and h high
abbrev pub column_below : ℕ → ℕ → ℕ → ℕ → ℕ
column_below k w x y = reversed (mirrors k) w (cond (swaps k) y x)

abbrev pub row_below : ℕ → ℕ → ℕ → ℕ → ℕ
row_below k h x y = reversed (flips k) h (cond (swaps k) x y)

abbrev pub turn_by : ℕ → Picture → Picture
turn_by k p =
    reshaped p (cond (swaps k) p.height p.width) (cond (swaps k) p.width p.height)
    (λ x y. p.at (column_below k p.width x y) (row_below k p.height x y))
