-- What holds of every block. Assumes nothing.
use Rattle.std.specs.Prelude.{◌≡◌, ℕ, ◌+◌, ◌-◌, ◌*◌, ◌<◌, ◌≤◌, min, length}
use Rattle.octets.specs.Rows.{byte, tabulate}
use Rattle.octets.specs.Sectors.{sector}
use Rattle.plans.specs.declared.outline.Outline.{Outline}
use Rattle.plans.specs.Outlines.{Proper, segments_in, block_size}
use Rattle.plans.specs.Blocks.{block, block_byte}

-- the block of an outline and pixels, at a place: how long it is, that it consists of bytes, and each byte and sector by its place
pub record BlockKnown (q : Outline) (at : ℕ → ℕ → ℕ) (place : ℕ) : Type 0 where
  pub size : length (block q at place) ≡ block_size q
  pub bytes : (i : ℕ) → byte (block q at place) i < 256
  pub each : (i : ℕ) → i < block_size q → byte (block q at place) i ≡ block_byte q at place i
  pub sectors : (s : ℕ) → 512 * s ≤ block_size q
      → sector (block q at place) s ≡ tabulate (min 512 (block_size q - 512 * s)) (λ i. block_byte q at place (512 * s + i))

-- it holds of every proper outline; at most 1,024 segments make fewer bytes than 2 ^ 40
pub record BlocksKnown : Type 0 where
  pub every : (q : Outline) (at : ℕ → ℕ → ℕ) (place : ℕ) → Proper q → BlockKnown q at place
  pub most : (q : Outline) → Proper q → segments_in q ≤ 1024 → block_size q ≤ 824633729208
