use Rattle.std.proofs.Common.{◌≡◌, ◌+◌, ◌*◌, ap, ◌∙◌}
use Rattle.store.proofs.Looks.{looked_on}
use Rattle.pages.specs.Extents.{directory_span, segment_span}
use Rattle.pages.specs.Geometry.{segments_of}
use Rattle.places.specs.Search.{passed, passed_each, entry_span}
use Rattle.places.proofs.Limits.{sane_from}
use Rattle.places.proofs.Looping.{extents_passed}
use Rattle.places.proofs.look.pass_extents.Goals as goal

pub invariant_of-pass_each : goal.invariant_of-pass_each
invariant_of-pass_each g c = record { limits = sane_from c.args.layout c.requires }

pub returns : goal.returns
returns g c =
    let bs = g.S.Store.seen c.args.store.now in
    let l = c.args.layout in
    let place = c.args.block.place in
    let len = c.args.block.len in
    let first = c.pass-first.result.place in
    let second = c.pass_each-second.result.place in
    let s = c.pass_each-second.ensures in
    let e = c.pass_each.ensures in
    let m : c.pass_each-second.result.len ≡ len = s.len ∙ c.pass-first.ensures.len in
    let a : first ≡ passed len place (directory_span l.directory) = c.pass-first.ensures.place ∙ ap (passed len place) c.of_directory.ensures in
    let b : second ≡ passed_each (segment_span bs l) len first 0 (segments_of l) =
    s.place ∙ ap (λ n. passed_each (segment_span bs l) n first 0 (segments_of l)) c.pass-first.ensures.len in
    let v : c.pass_each.result.place ≡ passed_each (λ k. entry_span l.directory.endian bs (l.directory.place + 2 + 12 * k)) len second 0 l.directory.entries =
    e.place ∙ (λ i. passed_each (λ k. entry_span l.directory.endian (s.looked.same i) (l.directory.place + 2 + 12 * k)) (m i) second 0 l.directory.entries) in
    record {
      place = extents_passed bs l len place _ _ _ a b v;
      len = e.len ∙ m;
      near = λ low. e.near (s.near (c.pass-first.ensures.near low));
      looked = looked_on _ _ _ _ _ _ s.looked e.looked;
    }
