use Rattle.std.proofs.Common.{◌≡◌, ℕ, ◌+◌, ◌*◌, ◌^◌, ◌<◌, sym, refl, ap, ◌∙◌, ap₂, div-mul-le_self, add-one, arith}
use Rattle.octets.specs.Digits.{packed}
use Rattle.octets.specs.Rows.{per_byte}
use Rattle.raster.specs.Picture.{Picture}
use Rattle.stored.specs.Sane.{allowed_bits}
use Rattle.plans.specs.declared.outline.Outline.{Outline}
use Rattle.plans.specs.Views.{viewed}
use Rattle.writer.specs.declared.spots.Spot.{Spot}
use Rattle.writer.specs.Spots.{padded_at}
use Rattle.writer.proofs.Samples.{levels_shifted, padded_small, next_below, byte_small}
use Rattle.writer.proofs.Asking.{asked_none, asked_both}
use Rattle.writer.proofs.canvas.Canvas.grey_byte.Goals as goal

-- sample t of a byte
sample : Outline → (ℕ → ℕ → ℕ) → Spot → ℕ → ℕ
sample q at spot t = padded_at q at spot (spot.byte * per_byte q.kind.bits + t)

below : (q : Outline) (at : ℕ → ℕ → ℕ) (spot : Spot) (t : ℕ) → t < per_byte q.kind.bits
    → packed (2 ^ q.kind.bits) t (sample q at spot) * 2 ^ q.kind.bits + sample q at spot t < 256
unfolding sample
below q at spot t l =
    next_below q.kind.bits t (per_byte q.kind.bits) (sample q at spot) l (div-mul-le_self 8 q.kind.bits)
    (λ t. padded_small q at spot (spot.byte * per_byte q.kind.bits + t))

pub loop-t-init : goal.loop-t-init
unfolding packed
loop-t-init g c = (asked_none g.G.Grid.picture g.G.Grid.keeps _, refl)

pub overflow_mul-sum : goal.overflow_mul-sum
unfolding sample
overflow_mul-sum g c =
    let q = c.args.self.head.draft.outline in
    omega (
      arith,
      below q (viewed (g.G.Grid.picture c.args.grid.now) c.args.self.view).at c.args.spot c.loop-t.t c.loop-t-test.true,
      ap₂ (λ a m. a * m) c.loop-t.invariant.1 (levels_shifted q.kind.bits (allowed_bits q.kind c.args.self.head.draft.proper.kind)),
    )

pub overflow_add-sum : goal.overflow_add-sum
unfolding sample
overflow_add-sum g c =
    let q = c.args.self.head.draft.outline in
    let p = g.G.Grid.picture c.args.grid.now in
    let v = c.grey_sample.ensures.value
    ∙ ap (padded_at c.args.self.head.draft.outline (viewed (g.G.Grid.picture c.loop-t.grid) c.args.self.view).at c.args.spot) c.sample_of.ensures
    ∙ ap (λ (r : Picture). padded_at c.args.self.head.draft.outline (viewed r c.args.self.view).at c.args.spot (c.args.spot.byte * per_byte c.args.self.head.draft.outline.kind.bits + c.loop-t.t)) c.loop-t.invariant.0.kept in
    omega (
      arith,
      v,
      below q (viewed (g.G.Grid.picture c.args.grid.now) c.args.self.view).at c.args.spot c.loop-t.t c.loop-t-test.true,
      ap₂ (λ a m. a * m) c.loop-t.invariant.1 (levels_shifted q.kind.bits (allowed_bits q.kind c.args.self.head.draft.proper.kind)),
    )

pub loop-t-preserved : goal.loop-t-preserved
unfolding packed
loop-t-preserved g c =
    let q = c.args.self.head.draft.outline in
    let p = g.G.Grid.picture c.args.grid.now in
    let f : ℕ → ℕ = λ t. padded_at c.args.self.head.draft.outline (viewed (g.G.Grid.picture c.args.grid.now) c.args.self.view).at c.args.spot (c.args.spot.byte * per_byte c.args.self.head.draft.outline.kind.bits + t) in
    let v = c.grey_sample.ensures.value
    ∙ ap (padded_at c.args.self.head.draft.outline (viewed (g.G.Grid.picture c.loop-t.grid) c.args.self.view).at c.args.spot) c.sample_of.ensures
    ∙ ap (λ (r : Picture). padded_at c.args.self.head.draft.outline (viewed r c.args.self.view).at c.args.spot (c.args.spot.byte * per_byte c.args.self.head.draft.outline.kind.bits + c.loop-t.t)) c.loop-t.invariant.0.kept in (
      asked_both g.G.Grid.picture g.G.Grid.keeps c.loop-t.invariant.0 c.grey_sample.ensures.asked,
      (λ i. c.loop-t.invariant.1 i * levels_shifted q.kind.bits (allowed_bits q.kind c.args.self.head.draft.proper.kind) i + v i)
          ∙ ap (λ n. packed (2 ^ q.kind.bits) n f) (sym (add-one c.loop-t.t)),
    )

pub overflow_cast-result : goal.overflow_cast-result
overflow_cast-result g c =
    let q = c.args.self.head.draft.outline in
    let at = (viewed (g.G.Grid.picture c.args.grid.now) c.args.self.view).at in
    let e : c.loop-t.t ≡ per_byte c.args.self.head.draft.outline.kind.bits = omega arith in
    let f : ℕ → ℕ = λ t. padded_at c.args.self.head.draft.outline (viewed (g.G.Grid.picture c.args.grid.now) c.args.self.view).at c.args.spot (c.args.spot.byte * per_byte c.args.self.head.draft.outline.kind.bits + t) in
    omega (
      arith,
      c.loop-t.invariant.1 ∙ ap (λ n. packed (2 ^ c.args.self.head.draft.outline.kind.bits) n f) e,
      byte_small q at c.args.spot (allowed_bits q.kind c.args.self.head.draft.proper.kind),
    )
