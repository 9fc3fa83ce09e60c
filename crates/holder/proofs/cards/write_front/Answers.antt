use Rattle.std.proofs.Common.{◌≡◌, ◌-◌, take, ap, arith}
use Rattle.drafts.specs.Mem.{mem_of}
use Rattle.holder.proofs.Carries.{wrote_by}
use Rattle.holder.proofs.cards.write_front.Goals as goal

pub returns : goal.returns
returns g c =
    let e : c.args.count - 0 ≡ c.args.count = omega arith in
    let f = c.write.ensures in
    wrote_by c.write.result (mem_of g.C.Store c.args.card.now) (mem_of g.C.Store c.write.new.self) c.args.place (take (c.args.count - 0) c.args.buffer.now) (take c.args.count c.args.buffer.now)
    (ap (λ k. take k c.args.buffer.now) e) f.answer f.put f.lists f.trails
