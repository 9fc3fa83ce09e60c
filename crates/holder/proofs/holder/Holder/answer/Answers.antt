use Rattle.std.proofs.Common.{◌≡◌, ℕ, List, length, vec_items, refl, ap, ◌∙◌, subst, arith}
use Rattle.std.proofs.lemmas.List.{with_items_is}
use Rattle.drafts.specs.Steps.{Sound, Step}
use Rattle.law.specs.Book.{buffer_by}
use Rattle.law.specs.Run.{roomed}
use Rattle.holder.specs.Worlds.{world_of, picture_by}
use Rattle.holder.proofs.holder.Holder.answer.Goals as goal

pub returns : goal.returns
returns g c =
    let e = c.make-line.ensures in
    let v = world_of g.C.Store c.args.self.now in
    let w = world_of g.C.Store c.make-line.new.self in
    let p = picture_by g.C.Store.seen c.args.self.now in
    let call = c.args.line.now.call in
    let old : List ℕ = vec_items c.args.line.now.buffer in
    let new : List ℕ = c.make-line.new.buffer in
    let same : c.deref_mut.result.now ≡ old = c.deref_mut.ensures.value in
    let long : length new ≡ c.args.line.now.buffer.len = omega arith in
    record {
      stepped = record {
        step = subst (λ (b : List ℕ). Sound v → Step (roomed call (length b)) v c.make-line.result w) same e.step;
        buffer = with_items_is c.args.line.now.buffer new long ∙ e.buffer ∙ ap (buffer_by p call) same;
      };
      call = refl;
    }
