-- A place of a turned picture is shown from a place of the picture below.
use Rattle.std.proofs.Common.{ℕ, ◌<◌, Bool, true, false, cond, arith}
use Rattle.raster.specs.Views.{swaps, mirrors, flips, reversed, column_below, row_below}

reversed_below : (b : Bool) (n i : ℕ) → i < n → reversed b n i < n
reversed_below true n i l = omega arith
reversed_below false n i l = l

column_chosen : (b : Bool) (w h x y : ℕ) → x < cond b h w → y < cond b w h → cond b y x < w
column_chosen true w h x y p q = q
column_chosen false w h x y p q = p

row_chosen : (b : Bool) (w h x y : ℕ) → x < cond b h w → y < cond b w h → cond b x y < h
row_chosen true w h x y p q = p
row_chosen false w h x y p q = q

pub column_within : (k w h x y : ℕ) → x < cond (swaps k) h w → y < cond (swaps k) w h → column_below k w x y < w
column_within k w h x y p q = reversed_below (mirrors k) w (cond (swaps k) y x) (column_chosen (swaps k) w h x y p q)

pub row_within : (k w h x y : ℕ) → x < cond (swaps k) h w → y < cond (swaps k) w h → row_below k h x y < h
row_within k w h x y p q = reversed_below (flips k) h (cond (swaps k) x y) (row_chosen (swaps k) w h x y p q)
