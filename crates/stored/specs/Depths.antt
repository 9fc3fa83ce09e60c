-- The bits that a sample may have, as the code names them. Assumes nothing.
use Rattle.std.specs.Prelude.{ℕ, cond, ◌==◌, Some, None, Option}
use Rattle.stored.specs.declared.samples.Depth.{Depth}
use Rattle.stored.specs.declared.samples.Depth.TheVariants.{One, Four, Eight}

abbrev pub bits_of : Depth → ℕ
bits_of One = 1
bits_of Four = 4
bits_of Eight = 8

-- the depth of so many bits, if a sample may have as many
abbrev pub depth_of : ℕ → Option Depth
depth_of b = cond (b == 1) (Some One) (cond (b == 4) (Some Four) (cond (b == 8) (Some Eight) None))
