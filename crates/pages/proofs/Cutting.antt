-- Parts that cover a length.
use Rattle.std.proofs.Common.{ℕ, zero, suc, ◌+◌, ◌-◌, ◌*◌, ◌/◌, ◌^◌, ◌<◌, ◌≤◌, div-lt_iff_lt-mul, arith}
use native.Mathlib.Nat.{div-zero, lt-div-mul-add}
use Rattle.octets.specs.Rows.{ceil}

pub ceil_covers : (n d : ℕ) → 0 < d → n ≤ ceil n d * d
ceil_covers n d z = omega (arith, lt-div-mul-add {a = n + (d - 1)} z)

pub div_below_ceil : (x n d : ℕ) → 0 < d → x < n → x / d < ceil n d
div_below_ceil x n d z l = (div-lt_iff_lt-mul z).1 (omega (arith, ceil_covers n d z))

-- a length of 32 bits is covered by so many parts that they can be counted in 32 bits
pub ceil_fits : (n b : ℕ) → n < 2 ^ 32 → ceil n b < 2 ^ 32
ceil_fits n zero h = rw div-zero (omega arith)
ceil_fits n (suc b) h =
    let k : n + (suc b - 1) < 2 ^ 32 * suc b = omega arith in
    (div-lt_iff_lt-mul (omega arith)).1 k
