use Rattle.std.proofs.Common.{◌≡◌, ℕ, ◌+◌, ◌*◌, ap, ◌∙◌, ap₂, arith, pow_mono}
use Rattle.raster.specs.Picture.{Picture}
use Rattle.pnm.specs.Netpbm.{black}
use Rattle.octets.proofs.Digits.{packed_below}
use Rattle.netpbm.specs.Asked.{asked_none, asked_then}
use Rattle.netpbm.proofs.Octets.{packed_none, packed_more}
use Rattle.pnm.proofs.Samples.{black_bit}
use Rattle.netpbm.proofs.rows.octet.Goals as goal

pub loop-i-init : goal.loop-i-init
loop-i-init g c = record { asked = asked_none _; value = packed_none _ }

pub overflow_mul-value : goal.overflow_mul-value
overflow_mul-value g c =
    let p = g.G.Grid.picture c.args.grid.now in
    let small = packed_below 2 c.loop-i.i (λ i. black p c.args.row (8 * c.args.place + i)) (λ i _. omega (arith, black_bit p c.args.row (8 * c.args.place + i))) in
    omega (arith, c.loop-i.invariant.value, small, pow_mono {i = c.loop-i.i} {j = 7} (omega arith))

pub overflow_add-value : goal.overflow_add-value
overflow_add-value g c =
    let p = g.G.Grid.picture c.args.grid.now in
    let small = packed_below 2 c.loop-i.i (λ i. black p c.args.row (8 * c.args.place + i)) (λ i _. omega (arith, black_bit p c.args.row (8 * c.args.place + i))) in
    let one = black_bit (g.G.Grid.picture c.loop-i.grid) c.args.row (8 * c.args.place + c.loop-i.i) in
    omega (arith, c.loop-i.invariant.value, small, c.bit.ensures.value, one, pow_mono {i = c.loop-i.i} {j = 7} (omega arith))

pub loop-i-preserved : goal.loop-i-preserved
loop-i-preserved g c =
    let f : ℕ → ℕ = λ i. black (g.G.Grid.picture c.args.grid.now) c.args.row (8 * c.args.place + i) in
    let bit : c.bit.result ≡ f c.loop-i.i =
    c.bit.ensures.value ∙ ap (λ (q : Picture). black q c.args.row (8 * c.args.place + c.loop-i.i)) c.loop-i.invariant.asked.kept in
    record {
      asked = asked_then c.loop-i.invariant.asked c.bit.ensures.asked;
      value = ap₂ (λ v b. 2 * v + b) c.loop-i.invariant.value bit ∙ packed_more f c.loop-i.i;
    }
