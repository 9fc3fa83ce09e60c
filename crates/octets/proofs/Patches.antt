-- Laws of parts of bytes, of bytes replaced, and of sectors. Assumes nothing.
use Rattle.std.proofs.Common.{◌≡◌, ℕ, ◌+◌, ◌-◌, ◌*◌, ◌<◌, ◌≤◌, min, ◌⊎◌, List, ◌++◌, length, get_or, take, drop, sym, refl, ap, ◌∙◌, inl, inr, ⊎_elim, arith, length-append, length-drop, length-take}
use Rattle.std.proofs.lemmas.List.{append_assoc, take_at, drop_at, get_or_append_left, get_or-append_right, get_or-take, get_or-drop, ext_get_or, length-take-le, drop-drop}
use borrow.Rule.Slice.PartMut.{put_mid}
use Rattle.std.proofs.lemmas.Bool.{cases_lt}
use Rattle.octets.specs.Sectors.{sector, patched, Touched}

pub length_patched : (xs : List ℕ) (p : ℕ) (ys : List ℕ) → p + length ys ≤ length xs → length (patched xs p ys) ≡ length xs
unfolding patched
length_patched xs p ys h =
    simp (length-append, length-take, length-drop) (omega arith)

pub get_or_patched_below : (xs : List ℕ) (p : ℕ) (ys : List ℕ) (i d : ℕ) → p ≤ length xs → i < p → get_or (patched xs p ys) i d ≡ get_or xs i d
unfolding patched
get_or_patched_below xs p ys i d h l =
    let n : length (take p xs) ≡ p = length-take-le p xs h in
    let m : i < length (take p xs) = omega arith in
    get_or_append_left (take p xs) (ys ++ drop (p + length ys) xs) d i m ∙ get_or-take p xs i d l

pub get_or_patched_in : (xs : List ℕ) (p : ℕ) (ys : List ℕ) (i d : ℕ) → p ≤ length xs → p ≤ i → i < p + length ys → get_or (patched xs p ys) i d ≡ get_or ys (i - p) d
unfolding patched
get_or_patched_in xs p ys i d h l m =
    get_or-append_right (take p xs) (ys ++ drop (p + length ys) xs) p i d (length-take-le p xs h) l
    ∙ get_or_append_left ys (drop (p + length ys) xs) d (i - p) (omega arith)

pub get_or_patched_above : (xs : List ℕ) (p : ℕ) (ys : List ℕ) (i d : ℕ) → p ≤ length xs → p + length ys ≤ i → get_or (patched xs p ys) i d ≡ get_or xs i d
unfolding patched
get_or_patched_above xs p ys i d h l =
    get_or-append_right (take p xs) (ys ++ drop (p + length ys) xs) p i d (length-take-le p xs h) (omega arith)
    ∙ get_or-append_right ys (drop (p + length ys) xs) (length ys) (i - p) d refl (omega arith)
    ∙ get_or-drop (p + length ys) xs (i - p - length ys) d
    ∙ ap (λ (k : ℕ). get_or xs k d) (let e : p + length ys + (i - p - length ys) ≡ i = omega arith in e)

-- two replaced lists agree at a place where they agree outside what is replaced
pub patched_same : (xs zs : List ℕ) (p q : ℕ) (ys : List ℕ) (i j d : ℕ) → p ≤ length xs → q ≤ length zs → i + q ≡ j + p
    → ((i < p) ⊎ (p + length ys ≤ i) → get_or xs i d ≡ get_or zs j d) → get_or (patched xs p ys) i d ≡ get_or (patched zs q ys) j d
patched_same xs zs p q ys i j d h k e out =
    ⊎_elim
    (λ (l : i < p). get_or_patched_below xs p ys i d h l ∙ out (inl l) ∙ sym (get_or_patched_below zs q ys j d k (omega arith)))
    (λ (l : p ≤ i). ⊎_elim
    (λ (m : i < p + length ys). get_or_patched_in xs p ys i d h l m ∙ ap (λ (n : ℕ). get_or ys n d) (let f : i - p ≡ j - q = omega arith in f) ∙ sym (get_or_patched_in zs q ys j d k (omega arith) (omega arith)))
    (λ (m : p + length ys ≤ i). get_or_patched_above xs p ys i d h m ∙ out (inr m) ∙ sym (get_or_patched_above zs q ys j d k (omega arith)))
    (cases_lt i (p + length ys)))
    (cases_lt i p)

-- a front of the bytes, replaced inside
pub take_patched : (n : ℕ) (xs : List ℕ) (p : ℕ) (ys : List ℕ) → p + length ys ≤ length (take n xs) → take n (patched xs p ys) ≡ patched (take n xs) p ys
take_patched n xs p ys h =
    let t = length-take n xs in
    let k : p + length ys ≤ length xs = omega arith in
    let len = length_patched xs p ys k in
    let len' = length_patched (take n xs) p ys h in
    let lt : length (take n (patched xs p ys)) ≡ length (patched (take n xs) p ys) = length-take n (patched xs p ys) ∙ (let e : min n (length (patched xs p ys)) ≡ length (patched (take n xs) p ys) = omega arith in e) in
    ext_get_or 0 _ _ lt
    (λ i l. let m : i < n = omega (arith, length-take n (patched xs p ys)) in
    get_or-take n (patched xs p ys) i 0 m ∙
    patched_same xs (take n xs) p p ys i i 0 (omega arith) (omega arith) refl (λ _. sym (get_or-take n xs i 0 m)))

pub length_sector : (xs : List ℕ) (s : ℕ) → length (sector xs s) ≡ min 512 (length xs - 512 * s)
unfolding sector
length_sector xs s = simp (length-take, length-drop)

pub get_or_sector : (xs : List ℕ) (s i d : ℕ) → i < 512 → get_or (sector xs s) i d ≡ get_or xs (512 * s + i) d
unfolding sector
get_or_sector xs s i d l = get_or-take 512 (drop (512 * s) xs) i d l ∙ get_or-drop (512 * s) xs i d

-- a sector that no replaced byte lies in
pub sector_untouched : (xs : List ℕ) (p : ℕ) (ys : List ℕ) (s : ℕ) → p + length ys ≤ length xs → (Touched p (length ys) s → ⊥) → sector (patched xs p ys) s ≡ sector xs s
sector_untouched xs p ys s h un =
    let len = length_patched xs p ys h in
    let a = length_sector xs s in
    let b = length_sector (patched xs p ys) s in
    let same : length (sector (patched xs p ys) s) ≡ length (sector xs s) = omega arith in
    ext_get_or 0 _ _ same (λ i l.
    let m : i < 512 = omega arith in
    get_or_sector (patched xs p ys) s i 0 m ∙
    ⊎_elim
    (λ (k : 512 * s + i < p). get_or_patched_below xs p ys (512 * s + i) 0 (omega arith) k)
    (λ (k : p ≤ 512 * s + i). ⊎_elim
    (λ (n : 512 * s + i < p + length ys). absurd (un (omega arith, omega arith, omega arith)))
    (λ (n : p + length ys ≤ 512 * s + i). get_or_patched_above xs p ys (512 * s + i) 0 (omega arith) n)
    (cases_lt (512 * s + i) (p + length ys)))
    (cases_lt (512 * s + i) p)
    ∙ sym (get_or_sector xs s i 0 m))

-- a part overwritten in place
pub overwritten : (xs ys zs : List ℕ) (p : ℕ) → zs ≡ ys → put_mid p (p + length ys - p) xs zs ≡ patched xs p ys
unfolding patched
overwritten xs ys zs p e =
    let f : p + (p + length ys - p) ≡ p + length ys = omega arith in
    rw (e, drop-drop) (ap (λ (k : ℕ). take p xs ++ (ys ++ drop k xs)) f)

-- two parts replaced, the second right after the first
pub patched_append : (b : List ℕ) (at : ℕ) (xs ys : List ℕ) → at + length xs ≤ length b → patched (patched b at xs) (at + length xs) ys ≡ patched b at (xs ++ ys)
unfolding patched
patched_append b at xs ys h =
    let t = length-take-le at b (omega arith) in
    let front : length (take at b ++ xs) ≡ at + length xs = length-append (take at b) xs ∙ ap (λ n. n + length xs) t in
    let rest : List ℕ = drop (at + length xs) b in
    let whole : take at b ++ (xs ++ rest) ≡ (take at b ++ xs) ++ rest = sym (append_assoc (take at b) xs rest) in
    let taken : take (at + length xs) (take at b ++ (xs ++ rest)) ≡ take at b ++ xs =
    ap (take (at + length xs)) whole ∙ take_at (take at b ++ xs) rest (at + length xs) front in
    let left : drop (at + length xs + length ys) (take at b ++ (xs ++ rest)) ≡ drop (at + length (xs ++ ys)) b =
    sym (drop-drop (length ys) (at + length xs) (take at b ++ (xs ++ rest)))
    ∙ ap (drop (length ys)) (ap (drop (at + length xs)) whole ∙ drop_at (take at b ++ xs) rest (at + length xs) front)
    ∙ drop-drop (length ys) (at + length xs) b
    ∙ ap (λ n. drop n b) (omega (arith, length-append xs ys)) in
    ap (λ (l : List ℕ). l ++ (ys ++ drop (at + length xs + length ys) (take at b ++ (xs ++ rest)))) taken
    ∙ ap (λ (l : List ℕ). (take at b ++ xs) ++ (ys ++ l)) left
    ∙ append_assoc (take at b) xs _
    ∙ ap (λ (l : List ℕ). take at b ++ l) (sym (append_assoc xs ys _))
