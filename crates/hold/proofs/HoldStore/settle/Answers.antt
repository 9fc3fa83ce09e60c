use Rattle.std.proofs.Common.{◌≡◌, ◌%◌, ap, ◌∙◌, ⊎_elim, arith}
use Rattle.std.proofs.lemmas.Bool.{cases_eq}
use Rattle.hold.specs.Kept.{overlaid}
use Rattle.store.proofs.Changes.{nogain_trans}
use Rattle.hold.proofs.Kept.{quiet_same, quiet_trans, settle_alone, below_nogain}
use Rattle.hold.proofs.HoldStore.settle.Goals as goal

pub loop-i-init : goal.loop-i-init
loop-i-init g c = (quiet_same, λ s h. absurd (omega arith))

pub loop-i-preserved : goal.loop-i-preserved
loop-i-preserved g c =
    let f = c.flush.ensures in
    let i = c.loop-i.i in (
      quiet_trans c.loop-i.invariant.0 f.quiet,
      λ s h. ⊎_elim (f.free s) (λ (un : s % 8 ≡ i → ⊥). f.others s un ∙ c.loop-i.invariant.1 s (omega (arith, un))) (cases_eq (s % 8) i),
    )

pub returns : goal.returns
returns g c =
    let f = c.settle.ensures in
    let slots = c.loop-i.self.table.slots in
    let q = c.loop-i.invariant.0 in
    let laws = g.C.Store.laws in
    let b = c.loop-i.self.below in
    record {
      same = ap (overlaid slots) f.same ∙ q.same;
      lists = settle_alone slots _ _ (λ s. c.loop-i.invariant.1 s (omega (arith, c.loop-i-test.false))) f.lists;
      trails = nogain_trans _ _ _ q.trails (below_nogain slots _ _ _ _ f.same (λ s. laws.trailed b s _ (laws.held b s)) f.trails);
      none = λ s. c.loop-i.invariant.1 s (omega (arith, c.loop-i-test.false));
    }
