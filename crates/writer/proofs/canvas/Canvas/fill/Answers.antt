use Rattle.std.proofs.Common.{◌≡◌, ℕ, ◌+◌, ◌-◌, ◌<◌, List, [], ◌∷◌, ◌++◌, length, sym, ap, ◌∙◌, subst, ap₂, arith}
use Rattle.std.proofs.lemmas.List.{take_all, take_more_set}
use Rattle.std.proofs.lemmas.List.FromFn.{map-range_with_len_more}
use Rattle.octets.specs.Rows.{tabulate}
use Rattle.raster.specs.Picture.{Picture}
use Rattle.plans.specs.Outlines.{head_size}
use Rattle.plans.specs.Views.{viewed}
use Rattle.plans.specs.Blocks.{block_byte}
use Rattle.plans.proofs.Outlines.{block_bounded}
use Rattle.writer.specs.Painting.{Shows, Known}
use Rattle.writer.proofs.Asking.{asked_both}
use Rattle.writer.proofs.canvas.Canvas.fill.Goals as goal

pub overflow_add-first : goal.overflow_add-first
overflow_add-first g c =
    let some : 0 < length c.args.buffer.now = omega (arith, c.loop-t-test.true) in
    omega (arith, c.requires.within some, c.loop-t-test.true, block_bounded c.args.self.head.draft.outline c.args.self.head.draft.proper c.args.self.head.draft.few)

pub byte-requires : goal.byte-requires
byte-requires g c =
    let q = c.args.self.head.draft.outline in
    let same = sym c.loop-t.invariant.asked.kept in
    let some : 0 < length c.args.buffer.now = omega (arith, c.loop-t-test.true) in
    record {
      shown = subst (λ (p : Picture). Shows c.args.self p) same c.requires.shown;
      within = omega (arith, c.requires.within some, c.loop-t-test.true);
      known = subst (λ (p : Picture). Known q (viewed p c.args.self.view).at c.loop-t.last (c.args.first + c.loop-t.t - head_size q)) same c.loop-t.invariant.known;
    }

pub loop-t-preserved : goal.loop-t-preserved
loop-t-preserved g c =
    let q = c.args.self.head.draft.outline in
    let t = c.loop-t.t in
    let p = g.G.Grid.picture c.args.grid.now in
    let kept = c.loop-t.invariant.asked.kept in
    let f : ℕ → ℕ = λ i. block_byte c.args.self.head.draft.outline (viewed (g.G.Grid.picture c.args.grid.now) c.args.self.view).at c.args.self.head.place (c.args.first + i) in
    let next : c.args.first + c.loop-t.t + 1 - head_size c.args.self.head.draft.outline ≡ c.args.first + (c.loop-t.t + 1) - head_size c.args.self.head.draft.outline = omega arith in
    let byte = c.byte.ensures.byte ∙ ap (λ (r : Picture). block_byte q (viewed r c.args.self.view).at c.args.self.head.place (c.args.first + t)) kept in
    record {
      asked = asked_both g.G.Grid.picture g.G.Grid.keeps c.loop-t.invariant.asked c.byte.ensures.asked;
      known = subst (λ m. Known q (viewed p c.args.self.view).at c.byte.new.last m) next
          (subst (λ (r : Picture). Known q (viewed r c.args.self.view).at c.byte.new.last (c.args.first + t + 1 - head_size q)) kept c.byte.ensures.known);
      filled =
          take_more_set c.loop-t.buffer t c.byte.result (omega (arith, c.loop-t.auto.buffer, c.loop-t-test.true))
          ∙ ap₂ (λ (xs : List ℕ) b. xs ++ (b ∷ [])) c.loop-t.invariant.filled byte
          ∙ sym (map-range_with_len_more f 0 t t (omega arith));
    }

pub returns : goal.returns
returns g c =
    let f : ℕ → ℕ = λ i. block_byte c.args.self.head.draft.outline (viewed (g.G.Grid.picture c.args.grid.now) c.args.self.view).at c.args.self.head.place (c.args.first + i) in
    let all : c.loop-t.t ≡ length c.args.buffer.now = omega arith in
    record {
      bytes = sym (take_all c.loop-t.t c.loop-t.buffer (omega (arith, c.loop-t.auto.buffer, all))) ∙ c.loop-t.invariant.filled ∙ ap (λ n. tabulate n f) all;
      asked = c.loop-t.invariant.asked;
    }
