use Rattle.std.proofs.Common.{◌*◌, ◌^◌, ◌<◌, ◌≤◌, max, sym, arith, rules}
use Rattle.pnm.proofs.Decimals.{length_decimal_max}
use Rattle.pnm.proofs.cursor.decimal_len.Goals as goal

pub returns : goal.returns
returns c =
    let small : c.args.n < 2 ^ 32 = search rules in
    let low : 10 ^ c.ilog10.result ≤ max c.args.n 1 = omega (arith, c.max.ensures) in
    let high : max c.args.n 1 < 10 * 10 ^ c.ilog10.result = omega (arith, c.max.ensures) in
    record { len = sym (length_decimal_max c.ilog10.result c.args.n low high (omega arith)); short = omega (arith, c.ilog10.ensures.bound) }
