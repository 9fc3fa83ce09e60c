use Rattle.std.proofs.Common.{◌≡◌, ap, ◌∙◌}
use Rattle.std.specs.Result.{result_ok}
use Rattle.pages.specs.Opening.{opened}
use Rattle.drafts.specs.Mem.{Mem, mem_of, Settled}
use Rattle.drafts.specs.Steps.{ok_of}
use Rattle.drafts.proofs.Stepping.{settled_quiet}
use Rattle.holder.specs.Worlds.{held_by, layout_in}
use Rattle.holder.proofs.Calls.{lawful, looked_quiet, out_at}
use Rattle.holder.proofs.Opens.{kept_page, keep_ok}
use Rattle.holder.proofs.holder.Holder.keep.Goals as goal

pub returns : goal.returns
returns g c =
    let m : Mem = mem_of g.C.Store c.args.self.now.store in
    let n : Mem = mem_of g.C.Store c.open-found.new.store in
    let s : Settled m n =
    settled_quiet (record { seen = c.settle.ensures.same; may = c.settle.ensures.lists; trail = c.settle.ensures.trails })
    (looked_quiet g.C.Store c.open-found.ensures.looked) in
    let page : layout_in c.ok-self.result ≡ ok_of (opened m.seen 0) =
    kept_page c.open-found.result (opened m.seen 0) c.ok-self.result
    (c.open-found.ensures.value ∙ ap (λ b. opened b 0) c.settle.ensures.same)
    (λ p e. c.ok-self.ensures.value ∙ ap result_ok e)
    (λ f e. c.ok-self.ensures.value ∙ ap result_ok e) in
    let out = out_at c.draft_at.ensures (c.ok_or.ensures.ok_part ∙ ap result_ok c.in_ok-draft.was) in
    keep_ok (held_by c.args.self.now.state) c.in_ok-draft.draft (layout_in c.ok-self.result) c.then-self.result
    (lawful g.C.Store c.args.self.now.store) s out.0 out.1 page c.then-self.ensures.turn
