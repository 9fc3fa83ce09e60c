use Rattle.std.proofs.Common.{◌*◌, ◌%◌, ap, arith}
use native.Mathlib.Nat.{mod-le}
use Rattle.std.proofs.lemmas.Nat.{mul-le}
use Rattle.plans.proofs.Outlines.{segment_sides}
use Rattle.writer.proofs.spots.first_column.Goals as goal

pub returns : goal.returns
returns c =
    let q = c.args.outline in
    let k = c.args.k in
    record {
      value = ap (λ a. k % a * q.cut.wide) c.across-across.ensures.value;
      few = mul-le (k % c.across-across.result) q.cut.wide 1024 16384 (omega (arith, mod-le k c.across-across.result, c.requires.one)) (segment_sides q c.requires.proper).wide;
    }
