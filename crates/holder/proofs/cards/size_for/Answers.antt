use Rattle.std.proofs.Common.{◌≡◌, Ok, Err, ok_or, sym, ap, ◌∙◌, subst}
use Rattle.std.proofs.lemmas.Result.{err_from_is_err_and}
use Rattle.plans.specs.Views.{view_checked}
use Rattle.plans.specs.Plans.{Drafts, plan_outline}
use Rattle.drafts.specs.Steps.{width_of, height_of}
use Rattle.holder.proofs.Sizes.{sized_view, sized_by, sized_draft}
use Rattle.holder.proofs.cards.size_for.Goals as goal

pub returns-in_err-check : goal.returns-in_err-check
returns-in_err-check c =
    let l = c.args.page.layout in
    let f = err_from_is_err_and c.from_residual.result c.from_residual.ensures.1 in
    let sides : view_checked c.size.result.width c.size.result.height c.args.view ≡ view_checked (width_of l) (height_of l) c.args.view =
    λ i. view_checked (c.size.ensures.width i) (c.size.ensures.height i) c.args.view in
    let told : view_checked (width_of l) (height_of l) c.args.view ≡ Err c.in_err-check.field-0.0 = sym (c.check.ensures ∙ sides) ∙ c.in_err-check.was in
    f.1 ∙ ap Err f.2 ∙ sym (sized_view l c.args.view c.args.plan c.in_err-check.field-0.0 told)

pub returns-in_err-draft : goal.returns-in_err-draft
returns-in_err-draft c =
    let l = c.args.page.layout in
    let v = c.args.view in
    let sides : view_checked c.size.result.width c.size.result.height v ≡ view_checked (width_of l) (height_of l) v =
    λ i. view_checked (c.size.ensures.width i) (c.size.ensures.height i) v in
    let drafted = subst (Drafts c.draft.result) (λ i. plan_outline c.args.plan (c.size-2.ensures.width i) (c.size-2.ensures.height i) (c.kind.ensures i)) c.draft.ensures in
    let f = err_from_is_err_and c.from_residual-in_err-draft.result c.from_residual-in_err-draft.ensures.1 in
    f.1 ∙ ap Err f.2 ∙ sym (ap sized_by c.in_err-draft.was)
    ∙ sized_draft l v c.args.plan c.draft.result c.ok_or.result c.args.page.limits (sym (c.check.ensures ∙ sides) ∙ c.in_ok-check.was) drafted
    (c.ok_or.ensures.value ∙ ap (ok_or c.draft.result) c.fault.ensures)

pub returns : goal.returns
returns c =
    let l = c.args.page.layout in
    let v = c.args.view in
    let sides : view_checked c.size.result.width c.size.result.height v ≡ view_checked (width_of l) (height_of l) v =
    λ i. view_checked (c.size.ensures.width i) (c.size.ensures.height i) v in
    let drafted = subst (Drafts c.draft.result) (λ i. plan_outline c.args.plan (c.size-2.ensures.width i) (c.size-2.ensures.height i) (c.kind.ensures i)) c.draft.ensures in
    ap Ok c.size-3.ensures ∙ sym (ap sized_by c.in_ok-draft.was)
    ∙ sized_draft l v c.args.plan c.draft.result c.ok_or.result c.args.page.limits (sym (c.check.ensures ∙ sides) ∙ c.in_ok-check.was) drafted
    (c.ok_or.ensures.value ∙ ap (ok_or c.draft.result) c.fault.ensures)
