use Rattle.std.proofs.Common.{◌+◌, ◌*◌, ◌≤◌, length, Err, sym, ap, ◌∙◌, subst}
use Rattle.std.proofs.lemmas.Result.{err_from_is_err_and}
use Rattle.store.proofs.Looks.{looked_on}
use Rattle.reads.specs.Reads.{short_at}
use Rattle.reads.proofs.Parts.{short_is}
use Rattle.pages.specs.Opening.{page_of}
use Rattle.pages.proofs.Stages.{open_1, open_2, open_3, place_stands, entries_read}
use Rattle.opening.proofs.page.open_page.Goals as goal

pub returns-in_err-directories : goal.returns-in_err-directories
returns-in_err-directories g c =
    let bs = g.S.Store.seen c.args.store.now in
    let w = c.walk.ensures in
    let a = sym w.value ∙ c.in_err-directories.was in
    let f = err_from_is_err_and c.from_residual.result c.from_residual.ensures.1 in
    record { value = f.1 ∙ ap Err f.2 ∙ sym (open_1 bs c.args.page _ a); looked = w.looked }

pub returns-in_err-place : goal.returns-in_err-place
returns-in_err-place g c =
    let bs = g.S.Store.seen c.args.store.now in
    let w = c.walk.ensures in
    let ds = c.in_ok-directories.directories in
    let a = sym w.value ∙ c.in_ok-directories.was in
    let b = sym c.place.ensures ∙ c.in_err-place.was in
    let f = err_from_is_err_and c.from_residual-in_err-place.result c.from_residual-in_err-place.ensures.1 in
    record { value = f.1 ∙ ap Err f.2 ∙ sym (open_2 bs c.args.page ds a _ b); looked = w.looked }

pub check_page-requires : goal.check_page-requires
check_page-requires g c =
    let bs = g.S.Store.seen c.args.store.now in
    let w = c.walk.ensures in
    let ds = c.in_ok-directories.directories in
    let place = c.in_ok-place.place in
    let a = sym w.value ∙ c.in_ok-directories.was in
    let b = sym c.place.ensures ∙ c.in_ok-place.was in
    let r = c.read-entries.ensures in
    let n = c.read-entries.result in
    let e = entries_read ds.endian bs place n (place_stands bs ds c.args.page place a b) (r.value ∙ short_is ds.endian _ place ∙ ap (λ xs. short_at ds.endian xs place) w.looked.same) in
    record { inside = subst (λ xs. place + 2 + 12 * n ≤ length xs) (sym (r.looked.same ∙ w.looked.same)) e.1 }

pub returns : goal.returns
returns g c =
    let bs = g.S.Store.seen c.args.store.now in
    let w = c.walk.ensures in
    let ds = c.in_ok-directories.directories in
    let page = c.args.page in
    let place = c.in_ok-place.place in
    let a = sym w.value ∙ c.in_ok-directories.was in
    let b = sym c.place.ensures ∙ c.in_ok-place.was in
    let r = c.read-entries.ensures in
    let n = c.read-entries.result in
    let e = entries_read ds.endian bs place n (place_stands bs ds page place a b) (r.value ∙ short_is ds.endian _ place ∙ ap (λ xs. short_at ds.endian xs place) w.looked.same) in
    let k = looked_on _ _ _ _ _ _ w.looked r.looked in
    let p = c.check_page.ensures in
    record {
      value =
          p.value
          ∙ ap (λ xs. page_of xs ds.count record { endian = ds.endian; page = page; place = place; entries = n }) k.same
          ∙ ap (λ m. page_of bs ds.count record { endian = ds.endian; page = page; place = place; entries = m }) e.0
          ∙ sym (open_3 bs page ds a place b);
      looked = looked_on _ _ _ _ _ _ k p.looked;
    }
