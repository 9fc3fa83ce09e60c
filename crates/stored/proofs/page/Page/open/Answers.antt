use Rattle.std.proofs.Common.{sym, ◌∙◌}
use Rattle.stored.proofs.Accepted.{opened_sane}
use Rattle.stored.proofs.page.Page.open.Goals as goal

pub invariant_of-result : goal.invariant_of-result
invariant_of-result g c =
    let layout = c.in_ok-layout.layout in record { limits = opened_sane (g.S.Store.seen c.args.store.now) _ layout (sym c.open_page.ensures.value ∙ c.in_ok-layout.was) }
