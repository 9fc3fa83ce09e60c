-- What the search answers where it ends.
use Rattle.std.proofs.Common.{◌≡◌, ℕ, ◌+◌, ◌*◌, ◌/◌, ◌<◌, ◌≤◌, true, List, length, Some, None, sym, refl, ap, ◌∙◌, subst, ⊎_elim, arith}
use Rattle.std.proofs.lemmas.Bool.{cases_lt}
use Rattle.pages.specs.declared.layout.Layout.{Layout}
use Rattle.pages.specs.Extents.{Span, extents}
use Rattle.places.specs.Places.{free, place_of}
use Rattle.places.specs.Search.{passed_all}
use Rattle.places.proofs.Finding.{free_from, free_past, free_unclear, place_found, place_none}
use Rattle.places.proofs.Passing.{Tried, all_same, all_tried}

-- no sector from 1 on begins below 512
pub tried_none : (all : List Span) (len : ℕ) → Tried all len 512
tried_none all len = record { multiple = refl; above = omega arith; lower = λ j a b. absurd (omega arith) }

-- a look at all extents
pub tried_more : (all : List Span) (len place next : ℕ) → next ≡ passed_all len place all → Tried all len place → Tried all len next
tried_more all len place next e t = subst (Tried all len) (sym e) (all_tried all len place all (λ q h. h) t)

module _ (bs : List ℕ) (l : Layout) (len place : ℕ) (t : Tried (extents bs l) len place) where
  pub ends_at : passed_all len place (extents bs l) ≡ place → place + len ≤ length bs → Some place ≡ place_of bs l len
  ends_at e h =
      let m = t.multiple in
      let a = t.above in
      let p : place ≡ 512 * (place / 512) = omega arith in
      ap Some p
      ∙ sym (place_found bs l len (place / 512) (omega arith)
      (subst (λ q. free bs l len q ≡ true) p (free_from bs l len place h (all_same len place (extents bs l) e)))
      (λ j b c. free_unclear bs l len (512 * j) (t.lower j b (omega arith))))

  pub ends_none : length bs < place + len → None ≡ place_of bs l len
  ends_none h =
      sym (place_none bs l len (λ j b. ⊎_elim (λ c. free_unclear bs l len (512 * j) (t.lower j b c)) (λ c. free_past bs l len (512 * j) (omega arith)) (cases_lt (512 * j) place)))
