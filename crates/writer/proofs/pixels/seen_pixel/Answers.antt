use Rattle.std.proofs.Common.{◌<◌, ltb, sym, ◌∙◌, ap₂, arith}
use Rattle.std.proofs.lemmas.Bool.{and_parts, ltb-true}
use Rattle.faults.specs.declared.fault.Check.TheVariants.{Outside}
use Rattle.faults.specs.Faults.{bare}
use Rattle.raster.specs.Picture.{within}
use Rattle.plans.specs.Views.{view_width, view_height}
use Rattle.writer.proofs.Below.{seen_inside, ok_value}
use Rattle.writer.proofs.pixels.seen_pixel.Goals as goal

pub returns : goal.returns
returns g c =
    let p = g.G.Grid.picture c.args.grid.now in
    let v = c.args.view in
    let inside = and_parts (ltb c.args.x c.size.result.width) (ltb c.args.y c.size.result.height) (sym c.is_inside.ensures ∙ c.if-not-is_inside.false) in
    let lx : c.args.x < view_width c.args.view = omega (arith, ltb-true c.args.x c.size.result.width inside.0, c.size.ensures.width) in
    let ly : c.args.y < view_height c.args.view = omega (arith, ltb-true c.args.y c.size.result.height inside.1, c.size.ensures.height) in
    let column = c.below-column.result.0 in
    let row = c.below-column.result.1 in
    record {
      value =
          ok_value (within p.width p.height column row) (p.at column row) c.unwrap.result (bare Outside) (sym c.pixel.ensures.answer ∙ c.unwrap.ensures)
          ∙ ap₂ p.at c.below-column.ensures.column c.below-column.ensures.row
          ∙ sym (seen_inside p v c.requires c.args.x c.args.y lx ly);
      asked = record { kept = c.pixel.ensures.kept; keeps = c.pixel.ensures.keeps };
    }
