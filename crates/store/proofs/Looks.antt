-- Looks at a store, one after another. Assumes nothing.
use Rattle.std.proofs.Common.{ℕ, List, refl, ◌∙◌}
use Rattle.octets.specs.Sectors.{Lists}
use Rattle.store.specs.Looking.{Looked}

module _ {S : Type 0} (seen : S → List ℕ) (may trail : S → Lists) where
  pub looked_none : (x : S) → Looked seen may trail x x
  looked_none x = record { same = refl; lists = record { none = λ s c h. h }; trails = record { none = λ s c h. h } }

  pub looked_on : (x y z : S) → Looked seen may trail x y → Looked seen may trail y z → Looked seen may trail x z
  looked_on x y z a b = record {
    same = b.same ∙ a.same;
    lists = record { none = λ s c h. a.lists.none s c (b.lists.none s c h) };
    trails = record { none = λ s c h. a.trails.none s c (b.trails.none s c h) };
  }
