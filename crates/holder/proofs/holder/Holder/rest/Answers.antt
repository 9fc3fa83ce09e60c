use Rattle.holder.specs.Worlds.{held_by}
use Rattle.holder.proofs.Calls.{lawful, out_at, rest_ok}
use Rattle.holder.proofs.holder.Holder.rest.Goals as goal

pub returns : goal.returns
returns g c =
    let out = out_at c.draft_at.ensures c.in-Some.is in
    record {
      step = rest_ok (held_by c.args.self.now.state) c.in-Some.draft c.at.result (lawful g.C.Store c.args.self.now.store)
          (record { seen = c.settle.ensures.same; may = c.settle.ensures.lists; trail = c.settle.ensures.trails })
          out.0 out.1 c.at.ensures;
      live = c.rested.ensures;
    }
