use Rattle.std.proofs.Common.{Ok, Err, sym, ap, ◌∙◌}
use Rattle.faults.specs.declared.fault.Check.TheVariants.{Segment}
use Rattle.faults.specs.Faults.{fault, refused}
use Rattle.store.proofs.Looks.{looked_on}
use Rattle.entries.specs.Fields.{number_at}
use Rattle.pages.specs.Tags.{offsets_tag}
use Rattle.opening.proofs.Filling.{segment_by}
use Rattle.opening.proofs.page.check_segment.Goals as goal

pub returns-then-is_lacking : goal.returns-then-is_lacking
returns-then-is_lacking g c =
    let bs = g.S.Store.seen c.args.store.now in
    let l = c.args.layout in
    let o = c.read_number-offset.ensures in
    let n = c.read_number-count.ensures in
    let count = n.value ∙ ap (λ xs. number_at l.directory.endian xs l.counts c.args.k) o.looked.same in
    let s = segment_by bs l c.args.k _ _ _ _ _ c.length-n.ensures o.value count c.read_number-count.type_inv c.needed.ensures c.is_lacking.ensures in
    let f = c.fault_at.ensures ∙ ap (λ t. fault Segment l.directory.page t c.read_number-offset.result) c.tags-tag.ensures.offsets in
    record {
      value = ap Err f ∙ sym (s ∙ ap (λ b. refused b (fault Segment l.directory.page (offsets_tag l.cut.kind) c.read_number-offset.result) (Ok tt)) c.if-is_lacking.true);
      looked = looked_on _ _ _ _ _ _ o.looked n.looked;
    }

pub returns : goal.returns
returns g c =
    let bs = g.S.Store.seen c.args.store.now in
    let l = c.args.layout in
    let o = c.read_number-offset.ensures in
    let n = c.read_number-count.ensures in
    let count = n.value ∙ ap (λ xs. number_at l.directory.endian xs l.counts c.args.k) o.looked.same in
    let s = segment_by bs l c.args.k _ _ _ _ _ c.length-n.ensures o.value count c.read_number-count.type_inv c.needed.ensures c.is_lacking.ensures in
    record {
      value = sym (s ∙ ap (λ b. refused b (fault Segment l.directory.page (offsets_tag l.cut.kind) c.read_number-offset.result) (Ok tt)) c.if-is_lacking.false);
      looked = looked_on _ _ _ _ _ _ o.looked n.looked;
    }
