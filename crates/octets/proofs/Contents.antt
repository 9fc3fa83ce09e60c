-- Laws of lists of contents. Assumes nothing.
use Rattle.std.proofs.Common.{◌≡◌, ℕ, List, [], ◌∷◌, map, sym, refl, ap, subst, inl, inr}
use Rattle.octets.specs.Sectors.{In}

pub in_map : (f : List ℕ → List ℕ) (c : List ℕ) (ds : List (List ℕ)) → In c ds → In (f c) (map f ds)
in_map f c [] h = h
in_map f c (d ∷ ds) (inl e) = inl (ap f e)
in_map f c (d ∷ ds) (inr h) = inr (in_map f c ds h)

-- what stands in the mapped list, from what it comes
pub from_map : (f : List ℕ → List ℕ) (c : List ℕ) (ds : List (List ℕ)) → In c (map f ds) → (d : List ℕ) × In d ds × (c ≡ f d)
from_map f c [] h = absurd h
from_map f c (d ∷ ds) (inl e) = (d, inl refl, e)
from_map f c (d ∷ ds) (inr h) = let t = from_map f c ds h in (t.0, inr t.1, t.2)

pub in_same : (c d : List ℕ) (ds : List (List ℕ)) → c ≡ d → In d ds → In c ds
in_same c d ds e h = subst (λ (x : List ℕ). In x ds) (sym e) h
