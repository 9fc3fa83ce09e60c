-- The bytes of an entry, one by one.
use Rattle.std.proofs.Common.{◌≡◌, ℕ, ◌-◌, ◌<◌, ◌≤◌, List, ◌++◌, sym, refl, ap, ◌∙◌, arith}
use Rattle.std.proofs.lemmas.List.{get_or_append_left, get_or-append_right}
use Rattle.octets.specs.declared.endian.Endian.{Endian}
use Rattle.octets.specs.Digits.{byte_of}
use Rattle.octets.specs.Numbers.{number_bytes}
use Rattle.octets.specs.Rows.{byte}
use Rattle.entries.specs.Types.{number_of}
use Rattle.heads.specs.declared.contents.Content.{Content}
use Rattle.heads.specs.Contents.{kind_of, count_of, last_of, entry_of}
use Rattle.heads.proofs.Shifts.{number_byte}

module _ (o : Endian) (tag : ℕ) (c : Content) where
  abbrev rest2 : List ℕ
  rest2 = number_bytes o 4 (count_of c) ++ last_of o c

  abbrev rest1 : List ℕ
  rest1 = number_bytes o 2 (number_of (kind_of c)) ++ rest2

  pub tag_byte : (b : ℕ) → b < 2 → byte_of o 2 tag b ≡ byte (entry_of o tag c) b
  unfolding entry_of
  tag_byte b l = number_byte o 2 tag b l ∙ sym (get_or_append_left (number_bytes o 2 tag) rest1 0 b l)

  behind : (b : ℕ) → 2 ≤ b → byte (entry_of o tag c) b ≡ byte rest1 (b - 2)
  unfolding entry_of
  behind b l = get_or-append_right (number_bytes o 2 tag) rest1 2 b 0 refl l

  pub kind_byte : (b : ℕ) → 2 ≤ b → b < 4 → byte_of o 2 (number_of (kind_of c)) (b - 2) ≡ byte (entry_of o tag c) b
  kind_byte b l m =
      let k : b - 2 < 2 = omega arith in
      number_byte o 2 (number_of (kind_of c)) (b - 2) k ∙ sym (behind b l ∙ get_or_append_left (number_bytes o 2 (number_of (kind_of c))) rest2 0 (b - 2) k)

  behind2 : (b : ℕ) → 4 ≤ b → byte (entry_of o tag c) b ≡ byte rest2 (b - 4)
  behind2 b l =
      let e : b - 2 - 2 ≡ b - 4 = omega arith in
      behind b (omega arith) ∙ get_or-append_right (number_bytes o 2 (number_of (kind_of c))) rest2 2 (b - 2) 0 refl (omega arith) ∙ ap (byte rest2) e

  pub count_byte : (b : ℕ) → 4 ≤ b → b < 8 → byte_of o 4 (count_of c) (b - 4) ≡ byte (entry_of o tag c) b
  count_byte b l m =
      let k : b - 4 < 4 = omega arith in
      number_byte o 4 (count_of c) (b - 4) k ∙ sym (behind2 b l ∙ get_or_append_left (number_bytes o 4 (count_of c)) (last_of o c) 0 (b - 4) k)

  pub last_byte : (b : ℕ) → 8 ≤ b → byte (last_of o c) (b - 8) ≡ byte (entry_of o tag c) b
  last_byte b l =
      let e : b - 8 ≡ b - 4 - 4 = omega arith in
      ap (byte (last_of o c)) e
      ∙ sym (behind2 b (omega arith) ∙ get_or-append_right (number_bytes o 4 (count_of c)) (last_of o c) 4 (b - 4) 0 refl (omega arith))
