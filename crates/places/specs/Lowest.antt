-- The rule by which the block of a draft is placed, in plain terms. Assumes nothing.
use Rattle.std.specs.Prelude.{◌≡◌, ℕ, ◌+◌, ◌/◌, ◌%◌, ◌<◌, ◌≤◌, List, length, Some, None, Option, ◌≢◌}
use Rattle.pages.specs.declared.layout.Layout.{Layout}
use Rattle.pages.specs.Extents.{Span, Covered, extents}

-- no byte of `len` from a place on stands in a sector in which a byte of some spans stands
abbrev pub Clear : List Span → ℕ → ℕ → Type 0
Clear spans place len = (i e : ℕ) → place ≤ i → i < place + len → Covered spans e → (i / 512 ≢ e / 512)

-- a place at which a block of `len` bytes may begin
pub record Suits (bs : List ℕ) (l : Layout) (len place : ℕ) : Type 0 where
  pub multiple : place % 512 ≡ 0
  pub above : 512 ≤ place
  pub ends : place + len ≤ length bs
  pub clear : Clear (extents bs l) place len

-- the lowest of them
pub record LowestPlace (bs : List ℕ) (l : Layout) (len place : ℕ) : Type 0 where
  pub suits : Suits bs l len place
  pub lowest : (lower : ℕ) → lower < place → Suits bs l len lower → ⊥

-- what is answered is the lowest place, and none exactly if there is none
pub record Placed (bs : List ℕ) (l : Layout) (len : ℕ) (answer : Option ℕ) : Type 0 where
  pub found : (place : ℕ) → answer ≡ Some place → LowestPlace bs l len place
  pub finds : (place : ℕ) → LowestPlace bs l len place → answer ≡ Some place
  pub none : answer ≡ None → (place : ℕ) → Suits bs l len place → ⊥
  pub refuses : ((place : ℕ) → Suits bs l len place → ⊥) → answer ≡ None
