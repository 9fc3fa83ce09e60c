use Rattle.std.proofs.Common.{length, Err, sym, ap, ◌∙◌, subst}
use Rattle.std.proofs.lemmas.Result.{err_from_is_err_and}
use Rattle.drafts.specs.declared.call.Call.TheVariants.{Window}
use Rattle.drafts.specs.Steps.{Step}
use Rattle.holder.specs.Worlds.{world_of}
use Rattle.holder.proofs.holder.Holder.print.Goals as goal

pub returns-in_err-count : goal.returns-in_err-count
returns-in_err-count g c =
    let f = err_from_is_err_and c.from_residual.result c.from_residual.ensures.1 in
    let e = c.in_err-count.ensures in
    record {
      step = subst (λ r. Step (Window c.args.area (length c.args.buffer.now)) (world_of g.C.Store c.args.self.now) r (world_of g.C.Store c.window.new.self)) (sym (f.1 ∙ ap Err f.2)) e.step;
      buffer = e.buffer;
    }
