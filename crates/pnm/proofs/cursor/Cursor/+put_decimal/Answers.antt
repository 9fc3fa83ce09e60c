use Rattle.std.proofs.Common.{◌^◌, ◌<◌, sym, arith, rules}
use Rattle.std.proofs.lemmas.Fmt.{decimal_digit, decimal_step, decimal_nonempty}
use Rattle.std.proofs.lemmas.Bool.{ltb-true, ltb-false}
use Rattle.pnm.proofs.Cursors.{wrote_then, wrote_length}
use Rattle.pnm.proofs.Decimals.{length_decimal_step}
use Rattle.pnm.proofs.cursor.Cursor.+put_decimal.Goals as goal

pub put_byte-requires : goal.put_byte-requires
put_byte-requires t c =
    let small : c.args.n < 2 ^ 64 = search rules in omega (arith, decimal_nonempty c.args.n small)

pub returns-then-is_digit : goal.returns-then-is_digit
returns-then-is_digit t c = rw (decimal_digit c.args.n (ltb-true _ _ (sym c.if-is_digit.ensures))) c.put_byte.ensures

pub put_decimal-requires : goal.put_decimal-requires
put_decimal-requires t c =
    let small : c.args.n < 2 ^ 64 = search rules in
    let e = length_decimal_step c.args.n (ltb-false _ _ (sym c.if-is_digit.ensures)) small in
    let more = ltb-false _ _ (sym c.if-is_digit.ensures) in
    (omega (arith, more), omega arith)

pub put_byte-requires-2 : goal.put_byte-requires-2
put_byte-requires-2 t c =
    let small : c.args.n < 2 ^ 64 = search rules in
    let e = length_decimal_step c.args.n (ltb-false _ _ (sym c.if-is_digit.ensures)) small in
    omega (arith, wrote_length c.put_decimal.ensures)

pub returns : goal.returns
returns t c =
    let small : c.args.n < 2 ^ 64 = search rules in
    rw (decimal_step c.args.n (ltb-false _ _ (sym c.if-is_digit.ensures)) small) (wrote_then c.put_decimal.ensures c.put_byte-2.ensures)
