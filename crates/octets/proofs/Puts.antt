-- Writes one after the other are one write.
-- Assumes nothing.
use Rattle.std.proofs.Common.{◌≡◌, ℕ, ◌+◌, ◌<◌, ◌≤◌, List, [], ◌∷◌, ◌++◌, length, take, drop, set, sym, refl, ap, ◌∙◌, subst, add-zero, add-one, arith, length-append}
use Rattle.std.proofs.lemmas.List.{set_split}
use Rattle.octets.specs.Writes.{Put}
use Rattle.octets.specs.Sectors.{patched}
use Rattle.octets.proofs.Laid.{none_patched}
use Rattle.octets.proofs.Patches.{length_patched, patched_append}

pub patched_nil : (b : List ℕ) (at : ℕ) → b ≡ patched b at []
patched_nil b at = sym (none_patched b at [] refl)

pub patched_one : (b : List ℕ) (at v : ℕ) → at < length b → set b at v ≡ patched b at (v ∷ [])
unfolding patched
patched_one b at v h = set_split b at v h ∙ ap (λ n. take at b ++ (v ∷ drop n b)) (sym (add-one at))

pub put_none : (b : List ℕ) (at : ℕ) → at ≤ length b → Put b at [] b at
put_none b at h = record { bytes = patched_nil b at; place = sym (add-zero at); room = h }

pub put_one : (b : List ℕ) (at v : ℕ) → at < length b → Put b at (v ∷ []) (set b at v) (at + 1)
put_one b at v h = record { bytes = patched_one b at v h; place = refl; room = omega arith }

pub put_length : {b : List ℕ} {at : ℕ} {xs b' : List ℕ} {end : ℕ} → Put b at xs b' end → length b' ≡ length b
put_length {b} {at} {xs} p = ap length p.bytes ∙ length_patched b at xs (omega (arith, p.place, p.room))

pub put_then : {b : List ℕ} {at : ℕ} {xs b' : List ℕ} {mid : ℕ} {ys b'' : List ℕ} {end : ℕ} →
    Put b at xs b' mid → Put b' mid ys b'' end → Put b at (xs ++ ys) b'' end
put_then {b} {at} {xs} {b'} {mid} {ys} {b''} {end} p q = record {
  bytes = q.bytes ∙ ap (λ (l : List ℕ). patched l mid ys) p.bytes ∙ ap (λ n. patched (patched b at xs) n ys) p.place ∙ patched_append b at xs ys (omega (arith, p.place, p.room));
  place = omega (arith, p.place, q.place, length-append xs ys);
  room = omega (arith, q.room, put_length p);
}

-- the same write under another name of its bytes
pub put_as : {b : List ℕ} {at : ℕ} {xs ys b' : List ℕ} {end : ℕ} → xs ≡ ys → Put b at xs b' end → Put b at ys b' end
put_as {b} {at} {xs} {ys} {b'} {end} e p = subst (λ (l : List ℕ). Put b at l b' end) e p
