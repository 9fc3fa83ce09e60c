use Rattle.std.proofs.Common.{length, sym, ap, ◌∙◌, arith}
use Rattle.std.proofs.lemmas.Result.{err_from_is_err_and}
use Rattle.hold.specs.Kept.{overlaid}
use Rattle.hold.specs.KeptLaws.{length_overlaid}
use Rattle.store.proofs.Changes.{refused, refused_filled}
use Rattle.hold.proofs.Kept.{read_over, below_nogain}
use Rattle.hold.proofs.HoldStore.read.Goals as goal

pub returns-in_err-read : goal.returns-in_err-read
returns-in_err-read g c =
    let p = err_from_is_err_and c.from_residual.result c.from_residual.ensures.1 in
    let f = c.in_err-read.ensures in
    let h = c.args.self.now in
    let below = g.C.Store.seen h.below in
    let laws = g.C.Store.laws in
    let n = length_overlaid h.table.slots below in
    record {
      answer = refused c.from_residual.result p.0 _ c.args.place _ p.1 (omega (arith, f.answer.0)) (p.2 ∙ f.answer.1);
      got = f.got ∙ sym (refused_filled c.from_residual.result p.0 _ c.args.place _ p.1);
      same = ap (overlaid h.table.slots) f.same;
      lists = below_nogain h.table.slots below _ _ _ f.same (laws.held h.below) f.lists;
      trails = below_nogain h.table.slots below _ _ _ f.same (λ s. laws.trailed h.below s _ (laws.held h.below s)) f.trails;
    }

pub overlay-requires : goal.overlay-requires
overlay-requires g c =
    let f = c.in_ok-read.ensures in
    omega (arith, f.answer, ap length f.got, g.C.Store.laws.short c.args.self.now.below)

pub returns : goal.returns
returns g c =
    let f = c.in_ok-read.ensures in
    let h = c.args.self.now in
    let below = g.C.Store.seen h.below in
    let laws = g.C.Store.laws in
    let n = length_overlaid h.table.slots below in
    record {
      answer = omega (arith, f.answer);
      got = read_over h.table.slots below c.read.new.buffer c.overlay.new.buffer c.args.place (length c.args.buffer.now) f.answer f.got (omega arith) c.overlay.ensures;
      same = ap (overlaid h.table.slots) f.same;
      lists = below_nogain h.table.slots below _ _ _ f.same (laws.held h.below) f.lists;
      trails = below_nogain h.table.slots below _ _ _ f.same (λ s. laws.trailed h.below s _ (laws.held h.below s)) f.trails;
    }
