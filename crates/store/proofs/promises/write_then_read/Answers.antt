use Rattle.store.proofs.Power.{found_written, found_then, echoed_after}
use Rattle.store.proofs.promises.write_then_read.Goals as goal

pub returns-in_err-write-clause-found : goal.returns-in_err-write-clause-found
returns-in_err-write-clause-found g c =
    let w = c.write.ensures in
    found_written c.write.result _ _ _ _ c.args.place c.args.bytes.now w.answer w.put w.lists

pub returns-clause-answer : goal.returns-clause-answer
returns-clause-answer g c n =
    let f = c.in_ok-write.ensures in
    let q = c.read.ensures in
    (echoed_after c.read.result _ _ _ c.args.place _ _ _ f.answer f.put q.same n q.answer q.got).0

pub returns-clause-echoed : goal.returns-clause-echoed
returns-clause-echoed g c n =
    let f = c.in_ok-write.ensures in
    let q = c.read.ensures in
    (echoed_after c.read.result _ _ _ c.args.place _ _ _ f.answer f.put q.same n q.answer q.got).1

pub returns-clause-found : goal.returns-clause-found
returns-clause-found g c =
    let w = c.write.ensures in
    let q = c.read.ensures in
    found_then _ _ _ _ _ _ c.args.place c.args.bytes.now q.same q.lists (found_written c.write.result _ _ _ _ c.args.place c.args.bytes.now w.answer w.put w.lists)
