use Rattle.std.proofs.Common.{◌/◌, ◌%◌, ◌<◌, sym, subst, mod-lt, div-le_self, arith}
use Rattle.plans.proofs.Outlines.{segment_positive, segment_bounded}
use Rattle.writer.proofs.Located.{first_row_few}
use Rattle.writer.proofs.spots.locate.Goals as goal

pub nonzero_div-k : goal.nonzero_div-k
nonzero_div-k c = omega (arith, segment_positive c.args.outline c.requires.proper, c.segment_size-size.ensures)

pub nonzero_rem-inner : goal.nonzero_rem-inner
nonzero_rem-inner c = omega (arith, segment_positive c.args.outline c.requires.proper, c.segment_size-size.ensures)

pub overflow_cast-inner : goal.overflow_cast-inner
overflow_cast-inner c =
    let z : 0 < c.segment_size-size.result = omega (arith, segment_positive c.args.outline c.requires.proper, c.segment_size-size.ensures) in
    omega (arith, mod-lt c.args.j z)

pub overflow_cast-result : goal.overflow_cast-result
overflow_cast-result c =
    let q = c.args.outline in
    let few : c.args.j / c.segment_size-size.result < 1024 = subst (λ s. c.args.j / s < 1024) (sym c.segment_size-size.ensures) c.requires.segment in
    omega (arith, c.first_row.ensures, first_row_few q c.requires.proper (c.args.j / c.segment_size-size.result) few)

pub overflow_add-result : goal.overflow_add-result
overflow_add-result c =
    let q = c.args.outline in
    let z : 0 < c.segment_size-size.result = omega (arith, segment_positive c.args.outline c.requires.proper, c.segment_size-size.ensures) in
    let few : c.args.j / c.segment_size-size.result < 1024 = subst (λ s. c.args.j / s < 1024) (sym c.segment_size-size.ensures) c.requires.segment in
    omega (
      arith,
      c.first_row.ensures,
      first_row_few q c.requires.proper (c.args.j / c.segment_size-size.result) few,
      div-le_self (c.args.j % c.segment_size-size.result) c.row_bytes-row.result,
      mod-lt c.args.j z,
      c.segment_size-size.ensures,
      segment_bounded q c.requires.proper 0,
    )
