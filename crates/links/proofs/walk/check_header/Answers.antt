use Rattle.std.proofs.Common.{◌≡◌, ◌≤◌, true, false, ltb, length, ap, ◌∙◌, arith}
use Rattle.std.proofs.lemmas.Bool.{lt-ltb, le-ltb}
use Rattle.store.proofs.Looks.{looked_none}
use Rattle.reads.proofs.Parts.{part_inside}
use Rattle.links.specs.Links.{headed, named}
use Rattle.links.proofs.walk.check_header.Goals as goal

pub returns-then-length-lt8 : goal.returns-then-length-lt8
unfolding headed
returns-then-length-lt8 g c =
    let t : ltb (length (g.S.Store.seen c.args.store.now)) 8 ≡ true = lt-ltb _ _ (omega arith) in
    record { value = simp (t, c.fault.ensures); looked = looked_none g.S.Store.seen g.S.Store.may g.S.Store.trail c.args.store.now }

pub returns : goal.returns
unfolding headed
returns g c =
    let bs = g.S.Store.seen c.args.store.now in
    let h : 8 ≤ length bs = omega arith in
    let t : ltb (length bs) 8 ≡ false = le-ltb _ _ h in
    let e = c.order_of.ensures ∙ ap named (c.read_array.ensures.bytes ∙ part_inside bs 0 4 (omega arith)) in
    record { value = simp t e; looked = c.read_array.ensures.looked }
