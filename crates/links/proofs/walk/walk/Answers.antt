use Rattle.std.proofs.Common.{◌≤◌, length, Err, sym, ap, ◌∙◌, subst}
use Rattle.std.proofs.lemmas.Result.{err_from_is_err_and}
use Rattle.store.proofs.Looks.{looked_on}
use Rattle.links.specs.Links.{linked}
use Rattle.links.proofs.Following.{headed_long}
use Rattle.links.proofs.Listing.{walk_err, walk_on}
use Rattle.links.proofs.walk.walk.Goals as goal

pub returns-in_err-endian : goal.returns-in_err-endian
returns-in_err-endian g c =
    let bs = g.S.Store.seen c.args.store.now in
    let f = err_from_is_err_and c.from_residual.result c.from_residual.ensures.1 in
    let a = sym c.check_header.ensures.value ∙ c.in_err-endian.was in
    record {
      value = f.1 ∙ ap Err f.2 ∙ sym (walk_err bs _ a);
      looked = c.check_header.ensures.looked;
    }

pub follow_links-requires : goal.follow_links-requires
follow_links-requires g c =
    let bs = g.S.Store.seen c.args.store.now in
    let a = headed_long bs _ (sym c.check_header.ensures.value ∙ c.in_ok-endian.was) in
    subst (λ xs. 8 ≤ length xs) (sym c.check_header.ensures.looked.same) a

pub returns : goal.returns
returns g c =
    let bs = g.S.Store.seen c.args.store.now in
    let h = c.check_header.ensures in
    let w = c.follow_links.ensures in
    let o = c.in_ok-endian.endian in
    record {
      value = w.value ∙ ap (linked o) h.looked.same ∙ sym (walk_on bs o (sym h.value ∙ c.in_ok-endian.was));
      looked = looked_on _ _ _ _ _ _ h.looked w.looked;
    }
