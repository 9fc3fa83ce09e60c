use Rattle.std.specs.Prelude.{slice_index, slice_index_or}
use Rattle.std.proofs.Common.{◌≡◌, ℕ, ◌-◌, [], sym, subst, ap₂}
use Rattle.raster.specs.Turns.{table, composed, Composes}
use Rattle.raster.proofs.Compose.{composed_rule, table_rule}
use Rattle.raster.proofs.turns.then.Goals as goal

pub returns : goal.returns
unfolding composed table
returns c =
    let same : _ ≡ composed c.args.first c.args.second =
    ap₂ (λ (x y : ℕ). slice_index (slice_index_or table (x - 1) []) (y - 1)) c.counted-row.ensures c.counted-column.ensures in
    record {
      turn = same;
      composes = subst (λ t. Composes c.args.first c.args.second t) (sym same) (composed_rule c.args.first c.args.second);
      rule = table_rule;
    }
