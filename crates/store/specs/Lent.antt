-- Bytes that are lent to a store.
use Rattle.std.specs.Prelude.{ℕ, ◌-◌, ◌^◌, ◌<◌, List, [], ◌∷◌, length, take, refl}
use Rattle.std.proofs.Common.{inl, arith, length-take}
use Rattle.octets.specs.Sectors.{sector, Lists}
use Rattle.store.specs.Rules.{Laws}

-- those bytes that count: no store is longer
unfoldable pub counted : List ℕ → List ℕ
counted bytes = take (2 ^ 31 - 1) bytes

-- each sector's seen content alone
abbrev pub alone : List ℕ → Lists
alone bytes s = sector bytes s ∷ []

counted_short : (bytes : List ℕ) → length (counted bytes) < 2 ^ 31
unfolding counted
counted_short bytes = omega (arith, length-take (2 ^ 31 - 1) bytes)

-- the laws of a store that has its bytes lent
pub lent_laws : {S : Type 0} (bytes : S → List ℕ) → Laws (λ x. counted (bytes x)) (λ x. alone (counted (bytes x))) (λ x. alone (counted (bytes x)))
lent_laws bytes = record { short = λ x. counted_short (bytes x); held = λ x s. inl refl; trailed = λ x s c h. h }
