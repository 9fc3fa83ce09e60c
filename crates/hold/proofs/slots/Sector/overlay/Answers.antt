use Rattle.std.proofs.Common.{◌≡◌, ℕ, ◌+◌, ◌-◌, ◌%◌, get_or, ap, ◌∙◌, arith}
use Rattle.hold.proofs.slots.Sector.overlay.Goals as goal

pub returns : goal.returns
returns c =
    let f = c.lay.ensures in
    let from = c.from.ensures in
    let start = c.first_byte.ensures.is in
    let place = c.args.place in
    record {
      here = λ k h e.
          f.inside k h (omega arith) (omega arith)
          ∙ ap (λ (z : ℕ). get_or c.args.self.now.bytes z 0) (let w : c.from.result + k - c.first_byte.result ≡ (place + k) % 512 = omega arith in w);
      others = λ k h un. f.outside k h (λ p q. un (omega arith));
    }
