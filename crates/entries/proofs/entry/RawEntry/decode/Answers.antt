use Rattle.std.proofs.Common.{◌∙◌}
use Rattle.entries.proofs.Decoding.{short_in, long_in}
use Rattle.entries.proofs.entry.RawEntry.decode.Goals as goal

pub returns : goal.returns
returns c =
    let o = c.args.endian in
    let b = c.args.b in
    let t = c.from_bytes.ensures ∙ short_in o b 0 in
    let k = c.from_bytes-2.ensures ∙ short_in o b 2 in
    let n = c.from_bytes-3.ensures ∙ long_in o b 4 in
    let l = c.from_bytes-4.ensures ∙ long_in o b 8 in
    λ i. record { tag = t i; kind = k i; count = n i; last = l i }
