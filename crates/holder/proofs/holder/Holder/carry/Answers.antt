use Rattle.std.proofs.Common.{◌≡◌, ℕ, ◌+◌, ◌-◌, ◌*◌, ◌^◌, ◌<◌, ◌≤◌, List, Some, Ok, sym, refl, ap, ◌∙◌, subst, arith}
use Rattle.octets.specs.Sectors.{sector}
use Rattle.stored.specs.Pixels.{picture_of}
use Rattle.writer.specs.Drafts.{draft_sector}
use Rattle.drafts.specs.declared.state.Draft.{Draft}
use Rattle.drafts.specs.Mem.{Mem, mem_of}
use Rattle.drafts.specs.Wrote.{Wrote}
use Rattle.drafts.specs.Steps.{shown_of, sized_for, sectors, size_of, block_of, staged, next_stage, Under}
use Rattle.holder.specs.Worlds.{held_by, layout_in, asked_size}
use Rattle.holder.specs.Told.{WroteBy}
use Rattle.holder.proofs.Calls.{steady_draft, wrote_of}
use Rattle.holder.proofs.Opens.{sized_is}
use Rattle.holder.proofs.Carries.{page_sane, ok_not_err, fitting_sized, carried_sector, carried_fits, carry_ok}
use Rattle.holder.proofs.holder.Holder.carry.Goals as goal

pub returns-in-Err : goal.returns-in-Err
returns-in-Err g c = record {
  step = λ s.
      let bs : List ℕ = g.C.Store.seen c.args.self.now.store in
      let d : Draft = c.in-Some.draft in
      let fit = steady_draft bs _ _ d c.in-Some.is s in
      let page : layout_in c.args.self.now.state.page ≡ Some fit.0 = fit.1 in
      absurd (ok_not_err (sym (fitting_sized bs fit.0 d fit.2) ∙ sym (ap (λ o. asked_size o d.view d.plan) page) ∙ sym c.draft_size.ensures ∙ c.in-Err.is));
  live = refl;
}

pub returns : goal.returns
returns g c = record {
  step = λ s.
      let m : Mem = mem_of g.C.Store c.args.self.now.store in
      let n : Mem = mem_of g.C.Store c.put_sector.new.self.store in
      let bs : List ℕ = m.seen in
      let d : Draft = c.in-Some.draft in
      let j = c.in-Begun.done in
      let size = c.in-Ok.size in
      let fit = steady_draft bs _ _ d c.in-Some.is s in
      let l = fit.0 in
      let page : layout_in c.args.self.now.state.page ≡ Some l = fit.1 in
      let good = page_sane c.args.self.now.state.page l page in
      let sized : sized_for l d.view d.plan ≡ Ok size = sym (ap (λ o. asked_size o d.view d.plan) page) ∙ sym c.draft_size.ensures ∙ c.in-Ok.is in
      let is : size ≡ size_of d (picture_of bs l) = sized_is l d.view d.plan size sized in
      let under : j < sectors (size_of d (picture_of bs l)) = subst (Under (sectors (size_of d (picture_of bs l)))) c.in-Begun.is fit.3 in
      let given : draft_sector d.plan (shown_of (layout_in c.args.self.now.state.page) bs) d.view d.place j ≡ sector (block_of d (picture_of bs l)) j =
      ap (λ o. draft_sector d.plan (shown_of o bs) d.view d.place j) page ∙ carried_sector bs l d j good fit.2 in
      let wrote : Wrote m (d.place + 512 * j) (sector (block_of d (picture_of bs l)) j) n =
      wrote_of c.put_sector.result (d.place + 512 * j) (sector (block_of d (picture_of bs l)) j)
      (subst (λ xs. WroteBy c.put_sector.result m (d.place + 512 * j) xs n) given c.put_sector.ensures.wrote)
      (carried_fits bs l d j good fit.2 under) in
      let few : c.sectors_of-sectors.result ≤ 2 ^ 32 = omega (arith, c.sectors_of-sectors.ensures, is, fit.2.ends, g.C.Store.laws.short c.args.self.now.store) in
      rw c.put_sector.ensures.state
      (carry_ok (held_by c.args.self.now.state) l d c.at.result j size c.left_after.result c.in-Some.is page c.in-Begun.is is wrote
      (c.at.ensures ∙ ap (staged d) (c.next_stage.ensures few ∙ ap (λ k. next_stage k j) c.sectors_of-sectors.ensures))
      (c.left_after.ensures ∙ ap (λ k. k - (j + 1)) c.sectors_of-sectors.ensures));
  live = refl;
}
