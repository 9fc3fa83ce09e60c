-- Laws of bytes replaced one after the other, as far as there is room, and sector by sector. Assumes nothing.
use Rattle.std.proofs.Common.{◌≡◌, ℕ, ◌+◌, ◌-◌, ◌*◌, ◌/◌, ◌%◌, ◌<◌, ◌≤◌, ◌⊎◌, List, ◌++◌, length, get_or, take, drop, sym, ap, ◌∙◌, ⊎_elim, arith, length-drop, take-append-drop, length-take, take-add}
use Rattle.std.proofs.lemmas.List.{ext_get_or, get_or-take, get_or-drop, drop-drop, nil_from_length}
use Rattle.std.proofs.lemmas.Bool.{cases_lt}
use borrow.Rule.Slice.PartMut.{put_mid}
use Rattle.octets.specs.Sectors.{sector, patched, laid}
use Rattle.octets.proofs.Patches.{length_patched, patched_append, get_or_patched_below, get_or_patched_in, get_or_patched_above, get_or_sector}

pub none_patched : (xs : List ℕ) (p : ℕ) (ys : List ℕ) → length ys ≡ 0 → patched xs p ys ≡ xs
unfolding patched
none_patched xs p ys e =
    let n : p + length ys ≡ p = omega arith in
    ap (λ (zs : List ℕ). take p xs ++ (zs ++ drop (p + length ys) xs)) (nil_from_length ys e)
    ∙ ap (λ (k : ℕ). take p xs ++ drop k xs) n ∙ take-append-drop p xs

pub length_laid : (xs : List ℕ) (p : ℕ) (ys : List ℕ) → length (laid xs p ys) ≡ length xs
unfolding laid
length_laid xs p ys =
    let n = length-take (length xs - p) ys in
    ⊎_elim
    (λ (h : p < length xs). length_patched xs p (take (length xs - p) ys) (omega arith))
    (λ (h : length xs ≤ p). ap length (none_patched xs p (take (length xs - p) ys) (omega arith)))
    (cases_lt p (length xs))

pub laid_out_lem : (xs : List ℕ) (p : ℕ) (ys : List ℕ) (j : ℕ) → (j < p) ⊎ (p + length ys ≤ j) → get_or (laid xs p ys) j 0 ≡ get_or xs j 0
unfolding laid
laid_out_lem xs p ys j out =
    let n = length-take (length xs - p) ys in
    ⊎_elim
    (λ (h : p < length xs). ⊎_elim
    (λ (k : j < p). get_or_patched_below xs p (take (length xs - p) ys) j 0 (omega arith) k)
    (λ (k : p + length ys ≤ j). get_or_patched_above xs p (take (length xs - p) ys) j 0 (omega arith) (omega arith))
    out)
    (λ (h : length xs ≤ p). ap (λ (zs : List ℕ). get_or zs j 0) (none_patched xs p (take (length xs - p) ys) (omega arith)))
    (cases_lt p (length xs))

pub laid_in : (xs : List ℕ) (p : ℕ) (ys : List ℕ) (j : ℕ) → p ≤ j → j < p + length ys → j < length xs → get_or (laid xs p ys) j 0 ≡ get_or ys (j - p) 0
unfolding laid
laid_in xs p ys j h k l =
    let n = length-take (length xs - p) ys in
    get_or_patched_in xs p (take (length xs - p) ys) j 0 (omega arith) h (omega arith) ∙ get_or-take (length xs - p) ys (j - p) 0 (omega arith)

pub laid_past : (xs : List ℕ) (p : ℕ) (ys : List ℕ) → length xs ≤ p → laid xs p ys ≡ xs
unfolding laid
laid_past xs p ys h = none_patched xs p (take (length xs - p) ys) (omega (arith, length-take (length xs - p) ys))

pub patched_out : (xs : List ℕ) (p : ℕ) (ys : List ℕ) (j d : ℕ) → p ≤ length xs → (j < p) ⊎ (p + length ys ≤ j) → get_or (patched xs p ys) j d ≡ get_or xs j d
patched_out xs p ys j d h out = ⊎_elim (λ (k : j < p). get_or_patched_below xs p ys j d h k) (λ (k : p + length ys ≤ j). get_or_patched_above xs p ys j d h k) out

-- a part overwritten
pub mid_patched : (a k : ℕ) (xs ys : List ℕ) → k ≡ length ys → put_mid a k xs ys ≡ patched xs a ys
unfolding patched
mid_patched a k xs ys e = rw drop-drop (ap (λ (n : ℕ). take a xs ++ (ys ++ drop (a + n) xs)) e)

pub patched_more : (xs : List ℕ) (p : ℕ) (ys : List ℕ) (n m : ℕ) → n + m ≤ length ys → p + length ys ≤ length xs
    → patched (patched xs p (take n ys)) (p + n) (take m (drop n ys)) ≡ patched xs p (take (n + m) ys)
patched_more xs p ys n m h fit =
    let a = length-take n ys in
    let b = length-take m (drop n ys) in
    let d = length-drop n ys in
    ap (λ (k : ℕ). patched (patched xs p (take n ys)) k (take m (drop n ys))) (let q : p + n ≡ p + length (take n ys) = omega arith in q)
    ∙ patched_append xs p (take n ys) (take m (drop n ys)) (omega arith)
    ∙ ap (patched xs p) (sym (take-add n m ys))

-- what was put in stands there
pub patched_here : (xs : List ℕ) (p : ℕ) (ys : List ℕ) → p + length ys ≤ length xs → take (length ys) (drop p (patched xs p ys)) ≡ ys
patched_here xs p ys h =
    let n = length_patched xs p ys h in
    let u = length-drop p (patched xs p ys) in
    let v = length-take (length ys) (drop p (patched xs p ys)) in
    ext_get_or 0 _ _ (omega arith) (λ i l.
    let m : i < length ys = omega arith in
    get_or-take (length ys) (drop p (patched xs p ys)) i 0 m
    ∙ get_or-drop p (patched xs p ys) i 0
    ∙ get_or_patched_in xs p ys (p + i) 0 (omega arith) (omega arith) (omega arith)
    ∙ ap (λ (k : ℕ). get_or ys k 0) (let e : p + i - p ≡ i = omega arith in e))

-- bytes of one length are alike where each sector is
pub sectors_alike : (xs ys : List ℕ) → length xs ≡ length ys → ((s : ℕ) → sector xs s ≡ sector ys s) → xs ≡ ys
sectors_alike xs ys n h =
    ext_get_or 0 xs ys n (λ i l.
    let e : 512 * (i / 512) + i % 512 ≡ i = omega arith in
    let m : i % 512 < 512 = omega arith in
    ap (λ (k : ℕ). get_or xs k 0) (sym e) ∙ sym (get_or_sector xs (i / 512) (i % 512) 0 m)
    ∙ ap (λ (zs : List ℕ). get_or zs (i % 512) 0) (h (i / 512))
    ∙ get_or_sector ys (i / 512) (i % 512) 0 m ∙ ap (λ (k : ℕ). get_or ys k 0) e)
