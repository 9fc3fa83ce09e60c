use Rattle.std.proofs.Common.{◌+◌, ◌≤◌, length, arith}
use Rattle.plans.specs.Blocks.{header}
use Rattle.holder.specs.Worlds.{held_by}
use Rattle.holder.proofs.Calls.{steady_draft, out_at, length_header, wrote_of, switch_ok}
use Rattle.holder.proofs.holder.Holder.switch.Goals as goal

pub returns : goal.returns
returns g c = record {
  step = λ s.
      let bs = g.C.Store.seen c.args.self.now.store in
      let d = c.in-Some.draft in
      let out = out_at c.draft_at.ensures c.in-Some.is in
      let fit = steady_draft bs _ _ d out.0 s in
      let room : 0 + length (header d.plan.endian d.place) ≤ length bs = omega (arith, length_header d.plan.endian d.place, fit.2.first, fit.2.ends) in
      rw c.point.ensures.state
      (switch_ok (held_by c.args.self.now.state) d c.at.result
      (wrote_of c.point.result 0 (header d.plan.endian d.place) c.point.ensures.wrote room)
      out.0 out.1 c.at.ensures);
  live = c.switched.ensures;
}
