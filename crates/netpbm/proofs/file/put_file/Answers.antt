use Rattle.std.proofs.Common.{length, ap, arith}
use Rattle.pnm.proofs.Cursors.{wrote_as, wrote_length}
use Rattle.pnm.proofs.Heads.{length_body}
use Rattle.netpbm.proofs.Files.{head_same, wrote_file}
use Rattle.netpbm.proofs.file.put_file.Goals as goal

pub put_head-requires : goal.put_head-requires
put_head-requires g c =
    let p = g.G.Grid.picture c.args.grid.now in
    let front = ap length (head_same p _ _ _ c.size.ensures.width c.size.ensures.height c.format_of.ensures) in
    omega (arith, c.requires, front, length_body p)

pub put_body-requires : goal.put_body-requires
put_body-requires g c =
    let p = g.G.Grid.picture c.args.grid.now in
    let front = ap length (head_same p _ _ _ c.size.ensures.width c.size.ensures.height c.format_of.ensures) in
    omega (arith, c.requires, front, length_body p, c.put_head.ensures.put.place, wrote_length c.put_head.ensures)

pub returns-clause-wrote : goal.returns-clause-wrote
returns-clause-wrote g c =
    let p = g.G.Grid.picture c.args.grid.now in
    wrote_file p (wrote_as (head_same p _ _ _ c.size.ensures.width c.size.ensures.height c.format_of.ensures) c.put_head.ensures) c.put_body.ensures.wrote
