use Rattle.std.proofs.Common.{◌*◌, ◌/◌, ◌%◌, ◌^◌, ap, ◌∙◌}
use Rattle.heads.proofs.Shifts.{shifted_byte}
use Rattle.heads.proofs.numbers.number_byte.Goals as goal

pub returns : goal.returns
returns c =
    ap (λ m. c.args.number / 2 ^ (8 * m) % 256) c.lower.ensures.value
    ∙ shifted_byte c.args.endian c.args.size c.args.number c.args.t c.requires.one
