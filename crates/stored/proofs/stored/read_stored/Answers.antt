use Rattle.std.proofs.Common.{◌≡◌, ℕ, ◌+◌, ◌%◌, List, ap, ◌∙◌, ap₂}
use Rattle.octets.specs.Rows.{per_byte}
use Rattle.store.proofs.Looks.{looked_on}
use Rattle.pages.specs.Segments.{offset_of}
use Rattle.stored.specs.Pixels.{segment_of, first_sample}
use Rattle.stored.specs.Reading.{start_of, pixel_from}
use Rattle.stored.proofs.Pixel.{pixel_from_lem}
use Rattle.stored.proofs.stored.read_stored.Goals as goal

pub returns : goal.returns
returns g c =
    let l = c.args.layout.now in
    let x : ℕ = c.args.x in
    let y : ℕ = c.args.y in
    let bs : List ℕ = g.S.Store.seen c.args.store.now in
    let offset = c.read_number-offset.ensures in
    let r = c.read_pixel.ensures in
    let at : c.read_number-offset.result + c.start_of.result ≡ offset_of bs l (segment_of l.cut l.width x y) + start_of l x y =
    ap₂ (λ a b. a + b) (offset.value ∙ ap (offset_of bs l) c.segment_of-segment.ensures) c.start_of.ensures in
    let read : c.read_pixel.result ≡ pixel_from bs l.kind.photometric l.kind.bits
    (offset_of bs l (segment_of l.cut l.width x y) + start_of l x y) (first_sample l x % per_byte l.kind.bits) =
    r.value c.requires.sane.bits
    ∙ (λ i. pixel_from (offset.looked.same i) l.kind.photometric l.kind.bits (at i) (c.first_sample.ensures i % per_byte l.kind.bits)) in
    record {
      value = read ∙ pixel_from_lem bs l x y c.requires.sane.kind;
      looked = looked_on _ _ _ _ _ _ offset.looked r.looked;
    }
