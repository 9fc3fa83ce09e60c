-- What a window answers and leaves, from what was written.
use Rattle.std.proofs.Common.{◌≡◌, ℕ, ◌+◌, ◌*◌, ◌<◌, true, ◌&&◌, leb, List, ◌++◌, length, drop, Ok, Err, sym, refl, ap, ◌∙◌, zero-add, arith}
use Rattle.std.proofs.lemmas.Bool.{cond-true, cond-false, le-leb, lt-leb, and_from, and_right}
use Rattle.raster.specs.Picture.{Picture}
use Rattle.raster.specs.Views.{rectangle, fits}
use Rattle.pnm.specs.Netpbm.{head, body, stride, printed}
use Rattle.netpbm.specs.Window.{window_bytes, window_answer, window_buffer}
use Rattle.octets.specs.Sectors.{patched}
use Rattle.octets.specs.Writes.{Put}
use Rattle.raster.specs.declared.grid.Kind.{Kind}
use Rattle.raster.specs.declared.grid.Area.{Area}
use Rattle.faults.specs.declared.fault.Check.TheVariants.{Small}
use Rattle.faults.specs.Faults.{bare}
use Rattle.octets.proofs.Puts.{put_then, put_as}
use Rattle.netpbm.proofs.Files.{file_length}

pub window_length : (p : Picture) (a : Area) (k : Kind) (n r : ℕ) → k ≡ p.kind →
    n ≡ length (head a.width a.height k) → r ≡ stride k a.width → n + r * a.height ≡ length (window_bytes p a)
window_length p a k n r ek en er = file_length (rectangle p a) a.width a.height k n r refl refl ek en er

pub too_small : (p : Picture) (a : Area) (b : List ℕ) → fits p a ≡ true → length b < length (window_bytes p a) →
    (Err (bare Small) ≡ window_answer p a (length b)) × (b ≡ window_buffer p a b)
too_small p a b fit less =
    let no = lt-leb (length (window_bytes p a)) (length b) less in (
      sym (cond-true (fits p a) _ _ fit ∙ cond-false (leb (length (window_bytes p a)) (length b)) _ _ no),
      sym (cond-false (fits p a && leb (length (window_bytes p a)) (length b)) _ b (and_right (fits p a) _ no)),
    )

pub written : (p : Picture) (a : Area) (b b' : List ℕ) (n : ℕ) → fits p a ≡ true → Put b 0 (window_bytes p a) b' n →
    (Ok n ≡ window_answer p a (length b)) × (b' ≡ window_buffer p a b)
unfolding patched
written p a b b' n fit put =
    let size : n ≡ length (window_bytes p a) = put.place ∙ zero-add (length (window_bytes p a)) in
    let yes = le-leb (length (window_bytes p a)) (length b) (omega (arith, size, put.room)) in (
      ap Ok size ∙ sym (cond-true (fits p a) _ _ fit ∙ cond-true (leb (length (window_bytes p a)) (length b)) _ _ yes),
      put.bytes ∙ ap (λ m. window_bytes p a ++ drop m b) (zero-add (length (window_bytes p a)))
          ∙ sym (cond-true (fits p a && leb (length (window_bytes p a)) (length b)) _ _ (and_from (fits p a) _ fit yes)),
    )

-- a head and then a body
pub whole : (p : Picture) (a : Area) (k : Kind) {b b' b'' : List ℕ} {m n : ℕ} → k ≡ p.kind →
    Put b 0 (head a.width a.height k) b' m → Put b' m (body (rectangle p a)) b'' n → Put b 0 (window_bytes p a) b'' n
unfolding printed
whole p a k ek first second = put_then (put_as (ap (λ (q : Kind). head a.width a.height q) ek) first) second
