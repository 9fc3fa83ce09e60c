use Rattle.std.proofs.Common.{ℕ, ◌<◌, cond, arith}
use Rattle.raster.specs.Views.{swaps}
use Rattle.stored.proofs.Turned.{column_within, row_within}
use Rattle.stored.proofs.page.Page.pixel.Goals as goal

pub invariant_of-spot : goal.invariant_of-spot
invariant_of-spot g c =
    let l = c.args.self.now.layout in
    let k : ℕ = l.orientation in
    let p : c.args.x < cond (swaps k) l.height l.width = omega (arith, c.size-size.ensures.width, c.if-x-size.false) in
    let q : c.args.y < cond (swaps k) l.width l.height = omega (arith, c.size-size.ensures.height, c.if-y-size.false) in
    record {
      across = omega (arith, c.column_below.ensures, column_within k l.width l.height c.args.x c.args.y p q);
      down = omega (arith, c.row_below.ensures, row_within k l.width l.height c.args.x c.args.y p q);
    }
