use Rattle.std.proofs.Common.{ℕ, List, length, ap}
use Rattle.tray.specs.Parts.{cut}
use Rattle.tray.proofs.Parts.{part_alone, part_nogain}
use Rattle.tray.proofs.TrayStore.settle.Goals as goal

pub returns : goal.returns
returns g c =
    let f = c.settle.ensures in
    let t = c.args.self.now in
    record {
      same = ap (λ (xs : List ℕ). cut xs t.from t.len) f.same;
      lists = part_alone _ _ t.from t.len f.lists;
      trails = part_nogain _ _ _ _ t.from t.len (ap length f.same) f.trails;
    }
