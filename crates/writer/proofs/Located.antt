-- The segment and the row of a byte of the segments.
use Rattle.std.proofs.Common.{ℕ, ◌/◌, ◌<◌, ◌≤◌, div-le_self, arith}
use Rattle.std.proofs.lemmas.Nat.{mul-le}
use Rattle.pages.specs.Geometry.{across, first_row}
use Rattle.plans.specs.declared.outline.Outline.{Outline}
use Rattle.plans.specs.Outlines.{Proper}
use Rattle.plans.proofs.Outlines.{segment_sides}

pub first_row_few : (q : Outline) → Proper q → (k : ℕ) → k < 1024 → first_row q.cut q.width k ≤ 16777216
first_row_few q proper k l =
    mul-le (k / across q.cut q.width) q.cut.high 1024 16384 (omega (arith, div-le_self k (across q.cut q.width))) (segment_sides q proper).high
