use Rattle.std.proofs.Common.{◌≡◌, ◌<◌, ◌≤◌, List, [], length, get_or, take, sym, refl, ap, subst, arith, take_all}
use Rattle.drafts.specs.Mem.{Mem, mem_of}
use Rattle.drafts.specs.Steps.{Held, world}
use Rattle.law.specs.Run.{Line as RunLine, LawfulRun, Stepped}
use Rattle.law.proofs.Runs.{HeldTo, held_none, held_more, held_law}
use Rattle.holder.specs.declared.replay.Line.{Line}
use Rattle.holder.specs.Worlds.{world_of}
use Rattle.holder.specs.Lines.{line_of, lines_of}
use Rattle.holder.proofs.Lines.{replayed_more, lines_more}
use Rattle.holder.proofs.replay.replay.Goals as goal

pub loop-line-init : goal.loop-line-init
loop-line-init g c =
    let m : Mem = mem_of g.C.Store c.new-holder.result.store in (
      record { calls = refl; rest = refl },
      subst (λ (h : Held). HeldTo m [] (world h m)) (sym c.new-holder.ensures.fresh) (held_none m (g.C.Store.laws.short c.new-holder.result.store)),
    )

pub loop-line-preserved : goal.loop-line-preserved
loop-line-preserved g c =
    let sent = c.args.lines.now in
    let ls = c.loop-line.lines in
    let i = c.loop-line.line-index in
    let old : Line = c.line-item.result in
    let line : Line = c.answer.new.line in
    let here : i < length ls = omega arith in
    let start : Mem = mem_of g.C.Store c.new-holder.result.store in
    let v = world_of g.C.Store c.loop-line.holder in
    let w = world_of g.C.Store c.answer.new.self in
    let same : line.call ≡ (get_or ls i old).call = c.answer.ensures.call in
    let stepped : Stepped v (line_of (get_or ls i old) line) w = c.answer.ensures.stepped in (
      replayed_more sent ls i old line here same c.loop-line.invariant.0,
      subst (λ (z : List RunLine). HeldTo start z w) (sym (lines_more sent ls i old line here c.loop-line.invariant.0.rest))
          (held_more start (lines_of (take i sent) (take i ls)) v w (line_of (get_or ls i old) line) c.loop-line.invariant.1 stepped),
    )

pub returns : goal.returns
returns g c =
    let sent = c.args.lines.now in
    let ls = c.loop-line.lines in
    let i = c.loop-line.line-index in
    let over : length ls ≤ i = omega arith in
    let all : length sent ≤ i = omega arith in
    let n : Mem = mem_of g.C.Store c.loop-line.holder.store in
    let law = held_law _ _ _ c.loop-line.invariant.1 in
    record {
      run = subst (λ (z : Mem). LawfulRun z (lines_of sent ls) n) (ap (mem_of g.C.Store) c.new-holder.ensures.store)
          (subst (λ (z : List Line). LawfulRun (mem_of g.C.Store c.new-holder.result.store) (lines_of sent z) n) (take_all i ls over)
          (subst (λ (z : List Line). LawfulRun (mem_of g.C.Store c.new-holder.result.store) (lines_of z (take i ls)) n) (take_all i sent all) law));
      calls = c.loop-line.invariant.0.calls;
    }
