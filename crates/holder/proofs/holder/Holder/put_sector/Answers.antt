use Rattle.std.proofs.Common.{◌≡◌, ℕ, ◌+◌, ◌*◌, ◌≤◌, List, length, take, ◌∙◌, subst, arith}
use Rattle.writer.specs.Drafts.{draft_sector}
use Rattle.drafts.specs.Mem.{Mem, mem_of}
use Rattle.holder.specs.Worlds.{picture_by}
use Rattle.holder.specs.Told.{WroteBy}
use Rattle.holder.proofs.Carries.{front_put, front_within, wrote_after}
use Rattle.holder.proofs.holder.Holder.put_sector.Goals as goal

pub write_front-requires : goal.write_front-requires
write_front-requires g c =
    let f = c.fill_sector-count.ensures in
    let given : List ℕ = draft_sector c.args.draft.plan (picture_by g.C.Store.seen c.args.self.now) c.args.draft.view c.args.draft.place c.args.sector in
    let within : length given ≤ length c.fill_sector-count.new.buffer = front_within c.fill_sector-count.new.buffer _ given f.bytes in
    omega (arith, f.count, c.fill_sector-count.array_long)

pub returns : goal.returns
returns g c =
    let k : Mem = mem_of g.C.Store c.fill_sector-count.new.grid.store in
    let m : Mem = mem_of g.C.Store c.args.self.now.store in
    let n : Mem = mem_of g.C.Store c.write_front.new.card in
    let given : List ℕ = draft_sector c.args.draft.plan (picture_by g.C.Store.seen c.args.self.now) c.args.draft.view c.args.draft.place c.args.sector in
    let f = c.fill_sector-count.ensures in
    let front : take c.fill_sector-count.result c.fill_sector-count.new.buffer ≡ given = (λ i. take (f.count i) (f.bytes i)) ∙ front_put _ given in
    let here : c.in-Ok.at ≡ c.args.draft.place + 512 * c.args.sector = omega arith in
    record {
      wrote = wrote_after c.write_front.result m k n (c.args.draft.place + 512 * c.args.sector) given f.keeps.quiet
          (subst (λ xs. WroteBy c.write_front.result k (c.args.draft.place + 512 * c.args.sector) xs n) front
          (subst (λ p. WroteBy c.write_front.result k p (take c.fill_sector-count.result c.fill_sector-count.new.buffer) n) here c.write_front.ensures));
      state = f.keeps.state;
    }
