use Rattle.std.proofs.Common.{length, Err, sym, ap, ◌∙◌}
use Rattle.std.proofs.lemmas.Result.{err_from_is_err_and}
use Rattle.store.proofs.Looks.{looked_none}
use Rattle.reads.proofs.Parts.{short_is}
use Rattle.links.specs.Links.{link_checked, directory_checked}
use Rattle.links.proofs.Following.{followed_err, followed_on}
use Rattle.links.proofs.walk.follow.Goals as goal

pub returns-in_err-check_link : goal.returns-in_err-check_link
returns-in_err-check_link g c =
    let bs = g.S.Store.seen c.args.store.now in
    let a = c.args in
    let f = err_from_is_err_and c.from_residual.result c.from_residual.ensures.1 in
    let e = ap (λ n. link_checked n a.met.now.items a.field a.link) (sym c.length-n.ensures) ∙ sym c.check_link.ensures ∙ c.in_err-check_link.was in
    record {
      value = f.1 ∙ ap Err f.2 ∙ sym (followed_err a.endian bs a.met.now.items a.field a.link _ e);
      looked = looked_none g.S.Store.seen g.S.Store.may g.S.Store.trail a.store.now;
    }

pub returns : goal.returns
returns g c =
    let bs = g.S.Store.seen c.args.store.now in
    let a = c.args in
    let r = c.read-entries.ensures in
    let e = ap (λ n. link_checked n a.met.now.items a.field a.link) (sym c.length-n.ensures) ∙ sym c.check_link.ensures ∙ c.in_ok-check_link.was in
    record {
      value =
          c.check_directory.ensures
          ∙ ap (λ k. directory_checked c.length-n.result k a.link c.read-entries.result) c.len.ensures.value
          ∙ ap (λ n. directory_checked n (length a.met.now.items) a.link c.read-entries.result) c.length-n.ensures
          ∙ ap (directory_checked (length bs) (length a.met.now.items) a.link) (r.value ∙ short_is a.endian bs a.link)
          ∙ followed_on a.endian bs a.met.now.items a.field a.link _ e;
      looked = r.looked;
    }
