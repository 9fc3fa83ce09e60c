use Rattle.std.proofs.Common.{ap, ◌∙◌}
use Rattle.store.proofs.Looks.{looked_on}
use Rattle.entries.specs.Fields.{nth_or, count_or}
use Rattle.pages.specs.Pages.{sampling_of}
use Rattle.opening.proofs.values.read_sampling.Goals as goal

pub returns : goal.returns
unfolding sampling_of
returns g c =
    let o = c.args.endian in
    let fs = c.args.fields in
    let s = c.read_or-samples.ensures in
    let a = c.read_or.ensures in
    let b = c.read_or-2.ensures in
    let d = c.read_or-3.ensures in
    let e = c.read_or-4.ensures in
    let l1 = looked_on _ _ _ _ _ _ s.looked a.looked in
    let l2 = looked_on _ _ _ _ _ _ l1 b.looked in
    let l3 = looked_on _ _ _ _ _ _ l2 d.looked in
    let photometric = a.value ∙ ap (λ xs. nth_or o xs 0 0 fs.photometric) s.looked.same in
    let given = c.count_or.ensures ∙ ap (λ n. count_or n fs.bits) s.value in
    let first = b.value ∙ ap (λ xs. nth_or o xs 1 0 fs.bits) l1.same in
    let second = d.value ∙ ap (λ xs. nth_or o xs 1 1 fs.bits) l2.same in
    let third = e.value ∙ ap (λ xs. nth_or o xs 1 2 fs.bits) l3.same in
    record {
      value = λ i. record { photometric = photometric i; samples = s.value i; given = given i; first = first i; second = second i; third = third i };
      looked = looked_on _ _ _ _ _ _ l3 e.looked;
    }
