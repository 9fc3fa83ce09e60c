use Rattle.std.proofs.Common.{◌+◌, ◌≤◌, length, sym, ap, ◌∙◌, arith}
use Rattle.std.proofs.lemmas.Bool.{leb-true, eqb-true, eqb-false}
use Rattle.tray.specs.Parts.{cut}
use Rattle.tray.specs.PartLaws.{fits_end, length_cut}
use Rattle.tray.proofs.Parts.{cut_fits, part_answered, part_written, part_gained}
use Rattle.octets.proofs.Laid.{none_patched}
use Rattle.store.proofs.Changes.{none_gain, length_written}
use Rattle.tray.proofs.TrayCard.write.Goals as goal

pub returns-then-is_empty : goal.returns-then-is_empty
returns-then-is_empty g c =
    let e = eqb-true _ _ (sym c.if-is_empty.ensures) in
    let h = leb-true _ _ (sym c.if-not-within.ensures) in
    record { answer = omega (arith, c.length.ensures); put = sym (none_patched _ _ _ e); lists = none_gain _ _ _ _ e; trails = none_gain _ _ _ _ e }

pub overflow_add-from : goal.overflow_add-from
overflow_add-from g c =
    let e = eqb-false _ _ (sym c.if-is_empty.ensures) in
    let h = leb-true _ _ (sym c.if-not-within.ensures) in
    let t = c.args.self.now in
    let bytes = g.C.Store.seen t.below in
    let f = cut_fits bytes t.from t.len c.args.place (length c.args.bytes.now) (omega (arith, c.length.ensures)) (omega (arith, e)) in
    omega (arith, fits_end (length bytes) t.from t.len f, length_cut bytes t.from t.len f, g.C.Store.laws.short t.below, c.length.ensures)

pub returns : goal.returns
returns g c =
    let e = eqb-false _ _ (sym c.if-is_empty.ensures) in
    let h = leb-true _ _ (sym c.if-not-within.ensures) in
    let t = c.args.self.now in
    let r = c.write.result in
    let given = c.args.bytes.now in
    let place = c.args.place in
    let bytes = g.C.Store.seen t.below in
    let k : place + length given ≤ length (cut bytes t.from t.len) = omega (arith, c.length.ensures) in
    let f = cut_fits bytes t.from t.len place (length given) k (omega (arith, e)) in
    let q = c.write.ensures in
    let n = ap length q.put ∙ length_written r bytes (t.from + place) given q.answer in
    record {
      answer = part_answered bytes t.from t.len place r (length given) f k q.answer;
      put = part_written bytes t.from t.len place r _ given f k q.put;
      lists = part_gained bytes t.from t.len place (length given) f r _ _ _ n q.lists;
      trails = part_gained bytes t.from t.len place (length given) f r _ _ _ n q.trails;
    }
