-- Bytes written into a buffer from a place on. Assumes nothing.
use Rattle.std.specs.Prelude.{◌≡◌, ℕ, ◌+◌, ◌≤◌, List, length}
use Rattle.octets.specs.Sectors.{patched}

-- bs was written into `was` from place `at` on; the buffer is now `is`, and `end` is the place after
pub record Put (was : List ℕ) (at : ℕ) (bs : List ℕ) (is : List ℕ) (end : ℕ) : Type 0 where
  pub bytes : is ≡ patched was at bs
  pub place : end ≡ at + length bs
  pub room : end ≤ length was
