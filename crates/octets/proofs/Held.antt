-- Lists that stand in others, as parts and by sectors.
use Rattle.std.proofs.Common.{◌≡◌, ℕ, ◌+◌, ◌*◌, ◌/◌, ◌%◌, ◌<◌, ◌≤◌, List, length, take, drop, sym, ap, ◌∙◌, arith}
use Rattle.std.proofs.lemmas.List.{length-drop, length-take-le, get_or-take, get_or-drop, ext_get_or}
use Rattle.octets.specs.Rows.{byte, Holds}
use Rattle.octets.specs.Sectors.{sector}
use Rattle.octets.proofs.Patches.{length_sector, get_or_sector}

-- to hold a list is to have it for a part
pub holds_part : (bs : List ℕ) (place : ℕ) (xs : List ℕ) → Holds bs place xs → take (length xs) (drop place bs) ≡ xs
holds_part bs place xs h =
    let l : length (take (length xs) (drop place bs)) ≡ length xs = length-take-le (length xs) (drop place bs) (omega (arith, length-drop place bs, h.fits)) in
    ext_get_or 0 (take (length xs) (drop place bs)) xs l
    (λ i m. let k : i < length xs = omega arith in get_or-take (length xs) (drop place bs) i 0 k ∙ get_or-drop place bs i 0 ∙ h.same i k)

pub part_holds : (bs : List ℕ) (place : ℕ) (xs : List ℕ) → place + length xs ≤ length bs → take (length xs) (drop place bs) ≡ xs → Holds bs place xs
part_holds bs place xs fits e = record {
  fits = fits;
  same = λ i l. sym (get_or-drop place bs i 0) ∙ sym (get_or-take (length xs) (drop place bs) i 0 l) ∙ ap (λ ys. byte ys i) e;
}

-- what is not written stays held
pub holds_still : (bs cs : List ℕ) (place : ℕ) (xs : List ℕ) → length cs ≡ length bs → ((i : ℕ) → i < length xs → byte cs (place + i) ≡ byte bs (place + i)) → Holds bs place xs → Holds cs place xs
holds_still bs cs place xs e same h = record { fits = omega (arith, h.fits); same = λ i l. same i l ∙ h.same i l }

-- a list is held if each of its sectors is
pub holds_by_sectors : (bs : List ℕ) (place : ℕ) (xs : List ℕ) → place + length xs ≤ length bs
    → ((s : ℕ) → 512 * s < length xs → Holds bs (place + 512 * s) (sector xs s)) → Holds bs place xs
holds_by_sectors bs place xs fits h = record {
  fits = fits;
  same = λ i l.
      let whole : place + 512 * (i / 512) + i % 512 ≡ place + i = omega arith in
      let again : 512 * (i / 512) + i % 512 ≡ i = omega arith in
      let within : i % 512 < length (sector xs (i / 512)) = omega (arith, length_sector xs (i / 512)) in
      ap (byte bs) (sym whole)
      ∙ (h (i / 512) (omega arith)).same (i % 512) within
      ∙ get_or_sector xs (i / 512) (i % 512) 0 (omega arith)
      ∙ ap (byte xs) again;
}
