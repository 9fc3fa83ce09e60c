use Rattle.std.proofs.Common.{◌≡◌, ℕ, ◌+◌, ◌-◌, ◌≤◌, List, length, get_or, drop, ap, ◌∙◌, inl, inr, ⊎_elim, arith, length-drop, length-take}
use Rattle.std.proofs.lemmas.List.{get_or-take, get_or-drop}
use Rattle.std.proofs.lemmas.Bool.{cases_lt}
use Rattle.octets.proofs.Patches.{get_or_patched_in}
use Rattle.octets.proofs.Laid.{mid_patched, patched_out}
use Rattle.hold.proofs.slots.lay.Goals as goal

pub returns-then-from-to : goal.returns-then-from-to
returns-then-from-to c =
    let start = c.args.start in
    let place = c.args.place in
    let from = c.max-from.result in
    let to = c.min-to.result in
    let bytes = c.args.bytes.now in
    let buffer = c.args.buffer.now in
    let ys = c.copy_from_slice.new.self in
    let a : ℕ = c.max-from.result - c.args.place in
    let m : ℕ = c.max-from.result - c.args.start in
    let n : ℕ = c.min-to.result - c.args.start - (c.max-from.result - c.args.start) in
    let u = length-take n (drop m bytes) in
    let v = length-drop m bytes in
    let w = ap length c.copy_from_slice.ensures.after in
    let e = mid_patched a (to - place - a) buffer ys (omega (arith, c.told-bytes)) in
    record {
      inside = λ k h p q.
          ap (λ (zs : List ℕ). get_or zs k 0) e
          ∙ get_or_patched_in buffer a ys k 0 (omega arith) (omega arith) (omega (arith, c.told-bytes))
          ∙ ap (λ (zs : List ℕ). get_or zs (k - a) 0) c.copy_from_slice.ensures.after
          ∙ get_or-take n (drop m bytes) (k - a) 0 (omega arith)
          ∙ get_or-drop m bytes (k - a) 0
          ∙ ap (λ (z : ℕ). get_or bytes z 0) (let f : m + (k - a) ≡ place + k - start = omega arith in f);
      outside = λ k h un.
          ap (λ (zs : List ℕ). get_or zs k 0) e
          ∙ patched_out buffer a ys k 0 (omega arith) (⊎_elim inl (λ (z : a ≤ k). inr (omega (arith, un, c.told-bytes))) (cases_lt k a));
    }
