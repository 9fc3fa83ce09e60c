use Rattle.std.proofs.Common.{Ok, Err, sym, refl, ap, ◌∙◌, subst}
use Rattle.std.proofs.lemmas.Result.{err_from_is_err_and}
use Rattle.drafts.specs.declared.call.Call.TheVariants.{Pixel}
use Rattle.drafts.specs.declared.call.Reply.TheVariants.{Number}
use Rattle.drafts.specs.Steps.{Step, number}
use Rattle.drafts.proofs.Stepping.{quiet_step}
use Rattle.holder.specs.Worlds.{held_by, world_of}
use Rattle.holder.proofs.holder.Holder.ask.Goals as goal

pub returns-in_err-number : goal.returns-in_err-number
returns-in_err-number g c =
    let e = c.pixel.ensures in
    let f = err_from_is_err_and c.from_residual.result c.from_residual.ensures.1 in
    subst (λ r. Step (Pixel c.args.x c.args.y) (world_of g.C.Store c.args.self.now) r (world_of g.C.Store c.pixel.new.self)) (sym (f.1 ∙ ap Err f.2))
    (quiet_step (Pixel c.args.x c.args.y) (held_by c.args.self.now.state) (held_by c.pixel.new.self.state) (Err c.in_err-number.field-0.0)
    e.keeps.quiet (sym (ap number c.in_err-number.was) ∙ ap number e.answer) (ap held_by e.keeps.state) refl refl)

pub returns : goal.returns
returns g c =
    let e = c.pixel.ensures in
    quiet_step (Pixel c.args.x c.args.y) (held_by c.args.self.now.state) (held_by c.pixel.new.self.state) (Ok (Number c.in_ok-number.number))
    e.keeps.quiet (sym (ap number c.in_ok-number.was) ∙ ap number e.answer) (ap held_by e.keeps.state) refl refl
