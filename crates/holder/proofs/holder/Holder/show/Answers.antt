use Rattle.std.proofs.Common.{Err, sym, ap, ◌∙◌, subst}
use Rattle.std.proofs.lemmas.Result.{err_from_is_err_and}
use Rattle.drafts.specs.declared.call.Call.TheVariants.{Open}
use Rattle.drafts.specs.Steps.{Step}
use Rattle.holder.specs.Worlds.{world_of}
use Rattle.holder.proofs.holder.Holder.show.Goals as goal

pub returns-in_err-open : goal.returns-in_err-open
returns-in_err-open g c =
    let f = err_from_is_err_and c.from_residual.result c.from_residual.ensures.1 in
    subst (λ r. Step (Open c.args.page) (world_of g.C.Store c.args.self.now) r (world_of g.C.Store c.open.new.self)) (sym (f.1 ∙ ap Err f.2)) c.in_err-open.ensures
