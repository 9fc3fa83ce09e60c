use Rattle.std.proofs.Common.{◌+◌, ◌*◌, length, ◌∙◌, arith}
use Rattle.places.specs.Search.{outer_span}
use Rattle.places.proofs.Entering.{word_twelve}
use Rattle.places.proofs.look.ValuesExtents.read.Goals as goal

pub returns-clause-value : goal.returns-clause-value
returns-clause-value g c =
    let d = c.args.self.now.directory in
    let bs = g.S.Store.seen c.args.store.now in
    let same = word_twelve d.endian bs c.read_twelve-bytes.result (d.place + 2 + 12 * c.args.k) c.read_twelve-bytes.ensures.bytes in
    let raw = c.decode-raw.ensures in
    c.outer_extent.ensures
    ∙ (λ i. outer_span (c.length-n.ensures i) (raw i).kind (raw i).count (raw i).last)
    ∙ (λ i. outer_span (length bs) (same 2 2 (omega arith) i) (same 4 4 (omega arith) i) (same 8 4 (omega arith) i))
