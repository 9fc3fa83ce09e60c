use Rattle.std.proofs.Common.{ap, ◌∙◌}
use Rattle.store.proofs.Looks.{looked_on}
use Rattle.entries.specs.Fields.{nth_or}
use Rattle.pages.specs.Pages.{sides_of}
use Rattle.opening.proofs.values.read_sides.Goals as goal

pub returns : goal.returns
unfolding sides_of
returns g c =
    let o = c.args.endian in
    let fs = c.args.fields in
    let bs = g.S.Store.seen c.args.store.now in
    let h = c.read_or-height.ensures in
    let a = c.read_or.ensures in
    let b = c.read_or-2.ensures in
    let d = c.read_or-3.ensures in
    let e = c.read_or-4.ensures in
    let l1 = looked_on _ _ _ _ _ _ h.looked a.looked in
    let l2 = looked_on _ _ _ _ _ _ l1 b.looked in
    let l3 = looked_on _ _ _ _ _ _ l2 d.looked in
    let width = a.value ∙ ap (λ xs. nth_or o xs 0 0 fs.width) h.looked.same in
    let rows = b.value ∙ ap (λ xs. nth_or o xs c.read_or-height.result 0 fs.rows) l1.same ∙ ap (λ n. nth_or o bs n 0 fs.rows) h.value in
    let across = d.value ∙ ap (λ xs. nth_or o xs 0 0 fs.across) l2.same in
    let down = e.value ∙ ap (λ xs. nth_or o xs 0 0 fs.down) l3.same in
    record {
      value = λ i. record { width = width i; height = h.value i; rows = rows i; across = across i; down = down i };
      looked = looked_on _ _ _ _ _ _ l3 e.looked;
    }
