use Rattle.std.proofs.Common.{ℕ, ◌+◌, ◌≤◌, List, length, sym, refl, ap, ◌∙◌, arith}
use Rattle.std.proofs.lemmas.Bool.{leb-true, eqb-true, eqb-false}
use Rattle.tray.specs.Parts.{cut}
use Rattle.tray.specs.PartLaws.{fits_end, length_cut}
use Rattle.tray.proofs.Parts.{cut_fits, part_answered, part_filled, part_nogain}
use Rattle.store.proofs.Changes.{none_filled, same_lists}
use Rattle.tray.proofs.TrayStore.read.Goals as goal

pub returns-then-is_empty : goal.returns-then-is_empty
returns-then-is_empty g c =
    let e = eqb-true _ _ (sym c.if-is_empty.ensures) in
    let h = leb-true _ _ (sym c.if-not-within.ensures) in
    record { answer = omega (arith, c.length.ensures); got = none_filled _ _ e; same = refl; lists = same_lists _; trails = same_lists _ }

pub overflow_add-from : goal.overflow_add-from
overflow_add-from g c =
    let e = eqb-false _ _ (sym c.if-is_empty.ensures) in
    let h = leb-true _ _ (sym c.if-not-within.ensures) in
    let t = c.args.self.now in
    let bytes = g.C.Store.seen t.below in
    let f = cut_fits bytes t.from t.len c.args.place (length c.args.buffer.now) (omega (arith, c.length.ensures)) (omega (arith, e)) in
    omega (arith, fits_end (length bytes) t.from t.len f, length_cut bytes t.from t.len f, g.C.Store.laws.short t.below, c.length.ensures)

pub returns : goal.returns
returns g c =
    let e = eqb-false _ _ (sym c.if-is_empty.ensures) in
    let h = leb-true _ _ (sym c.if-not-within.ensures) in
    let t = c.args.self.now in
    let r = c.read.result in
    let buffer = c.args.buffer.now in
    let place = c.args.place in
    let bytes = g.C.Store.seen t.below in
    let k : place + length buffer ≤ length (cut bytes t.from t.len) = omega (arith, c.length.ensures) in
    let f = cut_fits bytes t.from t.len place (length buffer) k (omega (arith, e)) in
    let q = c.read.ensures in
    record {
      answer = part_answered bytes t.from t.len place r (length buffer) f k q.answer;
      got = q.got ∙ part_filled bytes t.from t.len place r buffer f k;
      same = ap (λ (xs : List ℕ). cut xs t.from t.len) q.same;
      lists = part_nogain _ _ _ _ t.from t.len (ap length q.same) q.lists;
      trails = part_nogain _ _ _ _ t.from t.len (ap length q.same) q.trails;
    }
