-- Which draft it is that is handed about. Assumes nothing.
use Rattle.holder.specs.declared.token.Token.{Token}
use Rattle.holder.specs.declared.token.Token.TheVariants.{Begun, Rested, Switched}

abbrev pub IsRested : Token → Type 0
IsRested (Rested _) = Unit {0}
IsRested (Begun _) = ⊥
IsRested (Switched _) = ⊥
