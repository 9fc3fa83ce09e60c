use Rattle.std.proofs.Common.{◌≡◌, ℕ, suc, ◌-◌, ◌*◌, ◌/◌, ◌%◌, ◌^◌, sym, ap, ◌∙◌, arith}
use Rattle.octets.specs.Digits.{digit}
use Rattle.octets.specs.Rows.{per_byte}
use Rattle.octets.proofs.Digits.{digit_shift}
use Rattle.stored.specs.declared.samples.Depth.{Depth}
use Rattle.stored.specs.Depths.{bits_of}
use Rattle.stored.proofs.samples.Depth.sample.Goals as goal

-- what stands above a shift, below the levels of the bits
shifted : (b byte s shift : ℕ) → shift ≡ b * (per_byte b - 1 - s % per_byte b) → byte / 2 ^ shift % 2 ^ b ≡ digit (2 ^ b) (per_byte b) byte (s % per_byte b)
shifted b byte s shift e =
    let per : ℕ = per_byte b in
    let z : per - 1 - s % per ≡ per - suc (s % per) = omega arith in
    ap (λ n. byte / 2 ^ n % 2 ^ b) (e ∙ ap (λ n. b * n) z) ∙ sym (digit_shift b per byte (s % per))

-- the same at a depth
above : (d : Depth) (byte s shift levels : ℕ) → shift ≡ bits_of d * (per_byte (bits_of d) - 1 - s % per_byte (bits_of d)) → levels ≡ 2 ^ bits_of d
    → byte / 2 ^ shift % levels ≡ digit (2 ^ bits_of d) (per_byte (bits_of d)) byte (s % per_byte (bits_of d))
above d byte s shift levels e l = ap (λ n. byte / 2 ^ shift % n) l ∙ shifted (bits_of d) byte s shift e

pub returns-in-One : goal.returns-in-One
returns-in-One c = above c.args.self c.args.byte c.args.s c.shift.result 2 c.shift.ensures (sym (ap (λ d. 2 ^ bits_of d) c.in-One.is))

pub returns-in-Four : goal.returns-in-Four
returns-in-Four c = above c.args.self c.args.byte c.args.s c.shift.result 16 c.shift.ensures (sym (ap (λ d. 2 ^ bits_of d) c.in-Four.is))

pub returns-in-Eight : goal.returns-in-Eight
returns-in-Eight c = above c.args.self c.args.byte c.args.s c.shift.result 256 c.shift.ensures (sym (ap (λ d. 2 ^ bits_of d) c.in-Eight.is))
