use Rattle.std.proofs.Common.{sym, ◌∙◌}
use Rattle.hold.specs.KeptLaws.{with_below, sector_below}
use Rattle.hold.proofs.Kept.{none_overlaid}
use Rattle.hold.proofs.Hold.into_below.Goals as goal

pub returns : goal.returns
returns g c =
    let q = c.settle.ensures in
    let h = c.settle.new.self in
    let below = g.C.Store.seen h.below in
    record {
      same = sym (none_overlaid h.table.slots below q.none) ∙ q.same;
      lists = record { only = λ s x m. q.lists.only s x (with_below h.table.slots below (g.C.Store.may h.below) s x m) ∙ sector_below h.table.slots below s (q.none s) };
      trails = record { none = λ s x m. q.trails.none s x (with_below h.table.slots below (g.C.Store.trail h.below) s x m) };
    }
