use Rattle.std.proofs.Common.{ap, ◌∙◌}
use Rattle.store.proofs.Looks.{looked_on}
use Rattle.pages.specs.Pages.{sampling_of, sides_of}
use Rattle.opening.proofs.values.read_values.Goals as goal

pub returns : goal.returns
returns g c =
    let o = c.args.endian in
    let fs = c.args.fields in
    let a = c.read_format.ensures in
    let b = c.read_sampling.ensures in
    let d = c.read_sides.ensures in
    let l2 = looked_on _ _ _ _ _ _ a.looked b.looked in
    let sampling = b.value ∙ ap (λ xs. sampling_of o xs fs) a.looked.same in
    let sides = d.value ∙ ap (λ xs. sides_of o xs fs) l2.same in
    record {
      value = λ i. record { format = a.value i; sampling = sampling i; sides = sides i };
      looked = looked_on _ _ _ _ _ _ l2 d.looked;
    }
