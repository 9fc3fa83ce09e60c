use Rattle.std.proofs.Common.{◌≡◌, ℕ, ◌-◌, ◌*◌, ap, ◌∙◌, ap₂, arith}
use Rattle.plans.specs.Outlines.{segments_in, segment_size, block_size}
use Rattle.plans.proofs.Outlines.{some_segments}
use Rattle.plans.proofs.outline.Outline.size.Goals as goal

pub overflow_sub-last : goal.overflow_sub-last
overflow_sub-last c = let s = some_segments c.args.self c.requires.proper in omega arith

pub returns : goal.returns
unfolding block_size
returns c =
    let last : c.segments-last.result - 1 ≡ segments_in c.args.self - 1 = ap (λ n. n - 1) c.segments-last.ensures in
    let whole : (c.segments-last.result - 1) * c.segment_size.result ≡ (segments_in c.args.self - 1) * segment_size c.args.self 0 =
    ap₂ (λ (a b : ℕ). a * b) last c.segment_size.ensures in
    let rest : c.segment_size-2.result ≡ segment_size c.args.self (segments_in c.args.self - 1) =
    c.segment_size-2.ensures ∙ ap (segment_size c.args.self) last in
    omega (arith, c.head_size.ensures)
