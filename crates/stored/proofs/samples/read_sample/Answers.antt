use Rattle.std.proofs.Common.{ℕ, ◌%◌, ◌^◌, ap, ◌∙◌}
use Rattle.octets.specs.Digits.{digit}
use Rattle.octets.specs.Rows.{byte, per_byte}
use Rattle.reads.proofs.Parts.{byte_part}
use Rattle.stored.specs.Depths.{bits_of}
use Rattle.stored.specs.Reading.{sample_at}
use Rattle.stored.proofs.samples.read_sample.Goals as goal

pub returns-clause-value : goal.returns-clause-value
unfolding sample_at
returns-clause-value g c =
    let bits : ℕ = bits_of c.args.depth in
    let read = ap (λ xs. byte xs 0) c.read_array.ensures.bytes ∙ byte_part (g.S.Store.seen c.args.store.now) c.args.place in
    c.sample.ensures ∙ ap (λ b. digit (2 ^ bits) (per_byte bits) b (c.args.s % per_byte bits)) read
