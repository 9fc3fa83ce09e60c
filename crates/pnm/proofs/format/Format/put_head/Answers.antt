use Rattle.std.proofs.Common.{◌≡◌, [], ◌∷◌, length, sym, ap, arith}
use Rattle.std.proofs.lemmas.Bool.{cond-true}
use Rattle.pnm.specs.Netpbm.{depth, bilevel}
use Rattle.pnm.proofs.Cursors.{wrote_none, wrote_then, wrote_as, wrote_length}
use Rattle.pnm.proofs.Heads.{length_head, depth_some}
use Rattle.pnm.proofs.format.Format.put_head.Goals as goal

pub put_byte-requires-2 : goal.put_byte-requires-2
put_byte-requires-2 c = omega (arith, wrote_length c.put_byte.ensures)

pub put_byte-requires-3 : goal.put_byte-requires-3
put_byte-requires-3 c = omega (arith, wrote_length c.put_byte.ensures, wrote_length c.put_byte-2.ensures)

pub put_number-requires : goal.put_number-requires
put_number-requires c =
    omega (
      arith,
      length_head c.args.size.width c.args.size.height c.args.self.kind,
      wrote_length c.put_byte.ensures,
      wrote_length c.put_byte-2.ensures,
      wrote_length c.put_byte-3.ensures,
    )

pub put_number-requires-2 : goal.put_number-requires-2
put_number-requires-2 c =
    omega (
      arith,
      length_head c.args.size.width c.args.size.height c.args.self.kind,
      wrote_length c.put_byte.ensures,
      wrote_length c.put_byte-2.ensures,
      wrote_length c.put_byte-3.ensures,
      wrote_length c.put_number.ensures,
    )

pub put_number-requires-in_default : goal.put_number-requires-in_default
put_number-requires-in_default c =
    let some = ap length (depth_some _ _ c.largest.result c.of-layout.ensures c.in_default.not-Bitmap c.largest.ensures.value) in
    omega (
      arith,
      some,
      length_head c.args.size.width c.args.size.height c.args.self.kind,
      wrote_length c.put_byte.ensures,
      wrote_length c.put_byte-2.ensures,
      wrote_length c.put_byte-3.ensures,
      wrote_length c.put_number.ensures,
      wrote_length c.put_number-2.ensures,
    )

pub returns-in-Bitmap : goal.returns-in-Bitmap
returns-in-Bitmap c =
    let none : [] ≡ depth c.args.self.kind = sym (cond-true (bilevel c.args.self.kind) [] _ c.in-Bitmap.ensures) in
    wrote_then c.put_byte.ensures
    (wrote_then (wrote_as (ap (λ b. b ∷ []) (c.digit.ensures _ c.of-layout.ensures)) c.put_byte-2.ensures)
    (wrote_then c.put_byte-3.ensures
    (wrote_then c.put_number.ensures
    (wrote_then c.put_number-2.ensures (wrote_as none (wrote_none _ (omega (arith, wrote_length c.put_number-2.ensures))))))))

pub returns-in_default : goal.returns-in_default
returns-in_default c =
    let some = depth_some _ _ c.largest.result c.of-layout.ensures c.in_default.not-Bitmap c.largest.ensures.value in
    wrote_then c.put_byte.ensures
    (wrote_then (wrote_as (ap (λ b. b ∷ []) (c.digit.ensures _ c.of-layout.ensures)) c.put_byte-2.ensures)
    (wrote_then c.put_byte-3.ensures
    (wrote_then c.put_number.ensures
    (wrote_then c.put_number-2.ensures (wrote_as some c.put_number-in_default.ensures)))))
