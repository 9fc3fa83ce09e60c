use Rattle.std.proofs.Common.{Err, sym, ap, ◌∙◌}
use Rattle.std.proofs.lemmas.Result.{err_from_is_err_and}
use Rattle.store.proofs.Looks.{looked_on}
use Rattle.pages.specs.Pages.{laid_out, values_of}
use Rattle.pages.specs.Segments.{filled}
use Rattle.pages.proofs.Stages.{page_1, page_2, page_3, laid_offsets}
use Rattle.opening.proofs.page.check_page.Goals as goal

pub returns-in_err-fields : goal.returns-in_err-fields
returns-in_err-fields g c =
    let bs = g.S.Store.seen c.args.store.now in
    let d = c.args.directory in
    let a = sym c.scan.ensures.value ∙ c.in_err-fields.was in
    let f = err_from_is_err_and c.from_residual.result c.from_residual.ensures.1 in
    record { value = f.1 ∙ ap Err f.2 ∙ sym (page_1 bs c.args.directories d _ a); looked = c.scan.ensures.looked }

pub returns-in_err-layout : goal.returns-in_err-layout
returns-in_err-layout g c =
    let bs = g.S.Store.seen c.args.store.now in
    let d = c.args.directory in
    let n = c.args.directories in
    let fs = c.in_ok-fields.fields in
    let a = sym c.scan.ensures.value ∙ c.in_ok-fields.was in
    let v = c.read_values-values.ensures.value ∙ ap (λ xs. values_of d.endian xs fs) c.scan.ensures.looked.same in
    let b = sym (c.lay_out.ensures ∙ ap (laid_out d n fs) v) ∙ c.in_err-layout.was in
    let f = err_from_is_err_and c.from_residual-in_err-layout.result c.from_residual-in_err-layout.ensures.1 in
    record {
      value = f.1 ∙ ap Err f.2 ∙ sym (page_2 bs n d fs a _ b);
      looked = looked_on _ _ _ _ _ _ c.scan.ensures.looked c.read_values-values.ensures.looked;
    }

pub check_segments-requires : goal.check_segments-requires
check_segments-requires g c =
    record { tally = laid_offsets c.args.directory c.args.directories c.in_ok-fields.fields c.read_values-values.result _ (sym c.lay_out.ensures ∙ c.in_ok-layout.was) }

pub returns : goal.returns
returns g c =
    let bs = g.S.Store.seen c.args.store.now in
    let d = c.args.directory in
    let n = c.args.directories in
    let fs = c.in_ok-fields.fields in
    let l = c.in_ok-layout.layout in
    let a = sym c.scan.ensures.value ∙ c.in_ok-fields.was in
    let v = c.read_values-values.ensures.value ∙ ap (λ xs. values_of d.endian xs fs) c.scan.ensures.looked.same in
    let b = sym (c.lay_out.ensures ∙ ap (laid_out d n fs) v) ∙ c.in_ok-layout.was in
    let k = looked_on _ _ _ _ _ _ c.scan.ensures.looked c.read_values-values.ensures.looked in
    record {
      value = c.check_segments.ensures.value ∙ ap (λ xs. filled xs l) k.same ∙ sym (page_3 bs n d fs a l b);
      looked = looked_on _ _ _ _ _ _ k c.check_segments.ensures.looked;
    }
