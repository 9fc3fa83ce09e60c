use Rattle.std.proofs.Common.{◌≡◌, ◌+◌, ◌-◌, ◌<◌, min, length, sym, ap, ◌∙◌, arith}
use Rattle.std.proofs.lemmas.List.{get_or_past}
use Rattle.store.proofs.Looks.{looked_none}
use Rattle.places.proofs.Entering.{zeros_byte, padded_byte}
use Rattle.places.proofs.look.read_twelve.Goals as goal

pub returns-then-place-n : goal.returns-then-place-n
returns-then-place-n g c =
    let bs = g.S.Store.seen c.args.store.now in
    let r = c.fill.ensures in
    let k : c.min-count.result ≡ min (length bs - c.args.place) 12 = c.min-count.ensures ∙ ap (λ n. min (n - c.args.place) 12) c.length-n.ensures in
    let h : c.args.place < length bs = omega (arith, c.if-place-n.true, c.length-n.ensures) in
    record {
      bytes = padded_byte bs c.fill.new.buffer c.args.place c.min-count.result 12 k h r.got;
      looked = r.looked;
    }

pub returns-else-place-n : goal.returns-else-place-n
returns-else-place-n g c =
    let bs = g.S.Store.seen c.args.store.now in
    record {
      bytes = λ i l. zeros_byte 12 i ∙ sym (get_or_past bs (c.args.place + i) 0 (omega (arith, c.if-place-n.false, c.length-n.ensures)));
      looked = looked_none g.S.Store.seen g.S.Store.may g.S.Store.trail c.args.store.now;
    }
