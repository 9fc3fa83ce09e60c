-- The hash FNV-1a of 64 bits. Assumes nothing.
use Rattle.std.specs.Prelude.{ℕ, ◌*◌, ◌%◌, ◌^◌, List, fold, bit_xor}

-- the hash with one byte more
abbrev pub mixed : ℕ → ℕ → ℕ
mixed hash byte = bit_xor hash byte * 0x100000001b3 % 2 ^ 64

unfoldable pub hashed : List ℕ → ℕ
hashed bytes = fold mixed 0xcbf29ce484222325 bytes
