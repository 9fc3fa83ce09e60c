use Rattle.std.proofs.Common.{ap, ◌∙◌}
use Rattle.store.proofs.Looks.{looked_on}
use Rattle.entries.specs.Fields.{nth_or}
use Rattle.pages.specs.Pages.{format_of}
use Rattle.opening.proofs.values.read_format.Goals as goal

pub returns : goal.returns
unfolding format_of
returns g c =
    let o = c.args.endian in
    let fs = c.args.fields in
    let a = c.read_or.ensures in
    let b = c.read_or-2.ensures in
    let d = c.read_or-3.ensures in
    let e = c.read_or-4.ensures in
    let l2 = looked_on _ _ _ _ _ _ a.looked b.looked in
    let l3 = looked_on _ _ _ _ _ _ l2 d.looked in
    let fill = b.value ∙ ap (λ xs. nth_or o xs 1 0 fs.fill) a.looked.same in
    let planes = d.value ∙ ap (λ xs. nth_or o xs 1 0 fs.planes) l2.same in
    let orientation = e.value ∙ ap (λ xs. nth_or o xs 1 0 fs.orientation) l3.same in
    record {
      value = λ i. record { compression = a.value i; fill = fill i; planes = planes i; orientation = orientation i };
      looked = looked_on _ _ _ _ _ _ l3 e.looked;
    }
