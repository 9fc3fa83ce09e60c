use Rattle.std.proofs.Common.{◌≡◌, take, drop, ap, ◌∙◌}
use Rattle.reads.proofs.Parts.{part_inside}
use Rattle.entries.specs.Entries.{entry_of}
use Rattle.entries.proofs.Decoding.{entry_same}
use Rattle.entries.proofs.reading.read_entry.Goals as goal

pub returns : goal.returns
returns g c =
    let bs = g.S.Store.seen c.args.store.now in
    let place = c.args.place in
    let b = c.read_array.result in
    let got : b ≡ take 12 (drop place bs) = c.read_array.ensures.bytes ∙ part_inside bs place 12 c.requires.within in
    record {
      value = c.at.ensures ∙ ap (entry_of place) c.decode.ensures ∙ entry_same c.args.endian bs b place got;
      looked = c.read_array.ensures.looked;
    }
