-- What stands before the pixels of a draft, byte by byte.
use Rattle.std.proofs.Common.{◌≡◌, ℕ, ◌+◌, ◌-◌, ◌*◌, ◌<◌, ◌≤◌, List, ◌++◌, length, sym, refl, ap, ◌∙◌, arith}
use Rattle.std.specs.List.{flat_map}
use Rattle.std.proofs.lemmas.List.{get_or_append_left, get_or-append_right}
use Rattle.octets.specs.declared.endian.Endian.{Endian}
use Rattle.octets.specs.Digits.{digit, byte_of}
use Rattle.octets.specs.Numbers.{number_bytes}
use Rattle.octets.specs.Rows.{byte}
use Rattle.pages.specs.declared.layout.SegmentKind.{SegmentKind}
use Rattle.plans.specs.declared.outline.Outline.{Outline}
use Rattle.plans.specs.Outlines.{directory_size, head_size}
use Rattle.plans.specs.Directories.{Field, outer_bytes, entries_bytes, directory_bytes}
use Rattle.plans.specs.Blocks.{fields_by}
use Rattle.blocks.proofs.Directory.{length_entries}
use Rattle.blocks.proofs.Fields.{sized_fields, count_fields}
use Rattle.heads.specs.Tags.{count}
use Rattle.heads.proofs.Shifts.{number_byte}

-- every byte of 0 is 0
zero_byte : (o : Endian) (n t : ℕ) → byte_of o n 0 t ≡ 0
unfolding byte_of digit
zero_byte o n t = omega arith

module _ (q : Outline) (place : ℕ) (t : SegmentKind) where
  abbrev o : Endian
  o = q.endian

  abbrev fs : List Field
  fs = fields_by t q (place + head_size q)

  abbrev E : List ℕ
  E = entries_bytes o (place + directory_size (length fs)) fs

  abbrev X : List ℕ
  X = flat_map (outer_bytes o) fs

  length_E : length E ≡ 12 * count t
  length_E = length_entries o (place + directory_size (length fs)) fs (sized_fields t q (place + head_size q)) ∙ ap (λ n. 12 * n) (count_fields t q (place + head_size q))

  -- the number of entries
  pub first_byte : (i : ℕ) → i < 2 → byte_of o 2 (count t) i ≡ byte (directory_bytes o place fs) i
  unfolding directory_bytes
  first_byte i l =
      ap (λ n. byte_of o 2 n i) (sym (count_fields t q (place + head_size q)))
      ∙ number_byte o 2 (length fs) i l
      ∙ sym (get_or_append_left (number_bytes o 2 (length fs)) (E ++ (number_bytes o 4 0 ++ X)) 0 i l)

  past_first : (i : ℕ) → 2 ≤ i → byte (directory_bytes o place fs) i ≡ byte (E ++ (number_bytes o 4 0 ++ X)) (i - 2)
  unfolding directory_bytes
  past_first i l = get_or-append_right (number_bytes o 2 (length fs)) (E ++ (number_bytes o 4 0 ++ X)) 2 i 0 refl l

  pub middle_byte : (i : ℕ) → 2 ≤ i → i < 2 + 12 * count t → byte (entries_bytes o (place + directory_size (count t)) fs) (i - 2) ≡ byte (directory_bytes o place fs) i
  middle_byte i l m =
      ap (λ n. byte (entries_bytes o (place + directory_size n) fs) (i - 2)) (sym (count_fields t q (place + head_size q)))
      ∙ sym (past_first i l ∙ get_or_append_left E (number_bytes o 4 0 ++ X) 0 (i - 2) (omega (arith, length_E)))

  past_entries : (i : ℕ) → 2 + 12 * count t ≤ i → byte (directory_bytes o place fs) i ≡ byte (number_bytes o 4 0 ++ X) (i - (2 + 12 * count t))
  past_entries i l =
      let e : i - 2 - 12 * count t ≡ i - (2 + 12 * count t) = omega arith in
      past_first i (omega arith)
      ∙ get_or-append_right E (number_bytes o 4 0 ++ X) (12 * count t) (i - 2) 0 length_E (omega arith)
      ∙ ap (byte (number_bytes o 4 0 ++ X)) e

  pub link_byte : (i : ℕ) → 2 + 12 * count t ≤ i → i < directory_size (count t) → 0 ≡ byte (directory_bytes o place fs) i
  link_byte i l m =
      let k : i - (2 + 12 * count t) < 4 = omega arith in
      sym (past_entries i l
      ∙ get_or_append_left (number_bytes o 4 0) X 0 (i - (2 + 12 * count t)) k
      ∙ sym (number_byte o 4 0 (i - (2 + 12 * count t)) k)
      ∙ zero_byte o 4 (i - (2 + 12 * count t)))

  pub outer_byte : (i : ℕ) → directory_size (count t) ≤ i → byte X (i - directory_size (count t)) ≡ byte (directory_bytes o place fs) i
  outer_byte i l =
      let e : i - (2 + 12 * count t) - 4 ≡ i - directory_size (count t) = omega arith in
      sym (past_entries i (omega arith)
      ∙ get_or-append_right (number_bytes o 4 0) X 4 (i - (2 + 12 * count t)) 0 refl (omega arith)
      ∙ ap (byte X) e)
