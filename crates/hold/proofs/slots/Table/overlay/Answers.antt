use Rattle.std.proofs.Common.{◌≡◌, ℕ, ◌+◌, ◌/◌, ◌%◌, ◌<◌, List, length, get_or, sym, ap, ◌∙◌, ⊎_elim, None, arith}
use Rattle.std.proofs.lemmas.Bool.{cases_eq}
use Rattle.hold.proofs.Kept.{over_slot, over_free, kept_is}
use Rattle.hold.proofs.slots.Table.overlay.Goals as goal
use Rattle.hold.proofs.slots.Table.overlay.Goals.{in-Some, in_default}

pub loop-i-preserved : goal.loop-i-preserved
loop-i-preserved c =
    let i = c.loop-i.i in
    let slots = c.args.self.now.slots in
    let place = c.args.place in
    elim c.match-slot.branch [
      | in-Some w ↦ λ k h.
          let f = w.overlay.ensures in
          let v = c.loop-i.invariant k h in
          let l : k < length c.loop-i.buffer = omega arith in
          let b = ap (λ (xs : List ℕ). get_or xs k 0) w.buffer-is in (
            λ m. b ∙ ⊎_elim
                (λ (e : (place + k) / 512 % 8 ≡ i). over_slot slots i w.in-Some.sector w.in-Some.is (place + k) _ _ e (f.here k l) (λ un. f.others k l un ∙ v.1 (omega arith)))
                (λ (un : (place + k) / 512 % 8 ≡ i → ⊥). f.others k l (λ z. un (omega arith)) ∙ v.0 (omega (arith, un)))
                (cases_eq ((place + k) / 512 % 8) i),
            λ m. b ∙ f.others k l (λ z. omega arith) ∙ v.1 (omega arith),
          )
      | in_default w ↦ λ k h.
          let v = c.loop-i.invariant k h in
          let b = ap (λ (xs : List ℕ). get_or xs k 0) w.buffer-is in (
            λ m. b ∙ ⊎_elim
                (λ (e : (place + k) / 512 % 8 ≡ i). v.1 (omega arith) ∙ sym (over_free slots (place + k) _ (kept_is slots i None w.in_default.is ((place + k) / 512) e)))
                (λ (un : (place + k) / 512 % 8 ≡ i → ⊥). v.0 (omega (arith, un)))
                (cases_eq ((place + k) / 512 % 8) i),
            λ m. b ∙ v.1 (omega arith),
          )
    ]
