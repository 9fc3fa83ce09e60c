use Rattle.std.proofs.Common.{length, refl, ap}
use Rattle.drafts.specs.declared.call.Call.TheVariants.{Window}
use Rattle.drafts.specs.Steps.{number}
use Rattle.drafts.proofs.Stepping.{quiet_step}
use Rattle.holder.specs.Worlds.{held_by}
use Rattle.holder.proofs.holder.Holder.window.Goals as goal

pub returns : goal.returns
returns g c =
    let e = c.window.ensures in
    record {
      step = quiet_step (Window c.args.area (length c.args.buffer.now)) (held_by c.args.self.now.state) (held_by c.window.new.grid.state) (number c.window.result)
          e.keeps.quiet (ap number e.answer) (ap held_by e.keeps.state) refl refl;
      buffer = e.buffer;
    }
