-- The values of an entry, by the twelve bytes of the entry.
use Rattle.std.proofs.Common.{◌≡◌, ℕ, ◌+◌, ◌-◌, ◌*◌, ◌/◌, ◌<◌, ◌≤◌, min, Bool, true, false, cond, ◌&&◌, ltb, leb, ◌⊎◌, List, ◌++◌, length, get_or, take, drop, sym, refl, ap, ◌∙◌, inl, inr, ⊎_elim, add_assoc, arith}
use Rattle.std.proofs.lemmas.List.{get_or-take, get_or-drop, get_or_past, get_or-replicate, get_or_append_left, get_or-append_right, length-take-le, length-drop, length-replicate}
use Rattle.std.proofs.lemmas.Bool.{cond-false, and_left, and_right, le-ltb, lt-leb, cases_lt}
use Rattle.octets.specs.Numbers.{word, short, long}
use Rattle.octets.specs.Rows.{byte}
use Rattle.octets.specs.declared.endian.Endian.{Endian}
use Rattle.octets.proofs.Digits.{number_same}
use Rattle.reads.specs.Reads.{part_or, zeros}
use Rattle.reads.proofs.Parts.{part_or_inside}
use Rattle.entries.specs.declared.entry.Entry.{Entry}
use Rattle.entries.specs.Entries.{entry_at, size, home_of}
use Rattle.pages.specs.Extents.{span, outer}
use Rattle.places.specs.Places.{behind, shares}
use Rattle.places.specs.Search.{passed, outer_span}

-- a span of no bytes moves no place
passed_none : (len place at : ℕ) → passed len place (span at 0) ≡ place
passed_none len place at =
    let rest : Bool = ltb (place / 512) (behind at 0) && ltb (at / 512) (behind place len) in
    cond-false (shares place len (span at 0)) (512 * behind at 0) place
    (and_left (ltb 0 len && ltb 0 0) rest (and_right (ltb 0 len) (ltb 0 0) refl))

passed_part : (b : Bool) (len place at size : ℕ) → cond b (passed len place (span at size)) place ≡ passed len place (span at (cond b size 0))
passed_part true len place at size = refl
passed_part false len place at size = sym (passed_none len place at)

-- the place once an entry among n bytes is looked at
abbrev pub passed_value : ℕ → ℕ → ℕ → Entry → ℕ
passed_value n len place e = cond (outer n e) (passed len place (span e.values (size e))) place

-- an entry whose values begin as the numbers in it say
pub value_passed : (n len place : ℕ) (e : Entry) (last : ℕ) → e.values ≡ home_of e.place (size e) last
    → passed len place (outer_span n e.kind e.count last) ≡ passed_value n len place e
value_passed n len place e last v = by (cases_lt 4 (size e))
  where
    by : (4 < size e) ⊎ (size e ≤ 4) → passed len place (outer_span n e.kind e.count last) ≡ cond (outer n e) (passed len place (span e.values (size e))) place
    by (inl h) =
        let w : e.values ≡ last = v ∙ cond-false (leb (size e) 4) (e.place + 8) last (lt-leb (size e) 4 h) in
        sym (passed_part (ltb 4 (size e) && leb (last + size e) n) len place last (size e))
        ∙ ap (λ at. cond (ltb 4 (size e) && leb (at + size e) n) (passed len place (span at (size e))) place) (sym w)
    by (inr h) =
        let f = le-ltb 4 (size e) h in
        ap (λ c. passed len place (span last c)) (cond-false (ltb 4 (size e) && leb (last + size e) n) (size e) 0 (and_left (ltb 4 (size e)) (leb (last + size e) n) f))
        ∙ passed_none len place last
        ∙ sym (cond-false (outer n e) (passed len place (span e.values (size e))) place (and_left (ltb 4 (size e)) (leb (e.values + size e) n) f))

-- the entry at a place among n bytes, by the numbers in it
pub entry_passed : (o : Endian) (bs : List ℕ) (at n len place kind count last : ℕ)
    → kind ≡ short o bs (at + 2) → count ≡ long o bs (at + 4) → last ≡ long o bs (at + 8)
    → passed len place (outer_span n kind count last) ≡ passed_value n len place (entry_at o bs at)
unfolding entry_at
entry_passed o bs at n len place kind count last k c l =
    (λ i. passed len place (outer_span n (k i) (c i) (l i))) ∙ value_passed n len place (entry_at o bs at) (long o bs (at + 8)) refl

-- the number in some of twelve bytes, each of which is the one at its place
pub word_twelve : (o : Endian) (bs b : List ℕ) (at : ℕ) → ((i : ℕ) → i < 12 → get_or b i 0 ≡ byte bs (at + i))
    → (j n : ℕ) → j + n ≤ 12 → word o b j n ≡ word o bs (at + j) n
word_twelve o bs b at each j n h =
    number_same o n (λ i. byte b (j + i)) (λ i. byte bs (at + j + i)) (λ t l. each (j + t) (omega arith) ∙ ap (byte bs) (sym (add_assoc at j t)))

-- zeros are 0 wherever they are read
pub zeros_byte : (n i : ℕ) → get_or (zeros n) i 0 ≡ 0
zeros_byte n i =
    ⊎_elim (λ h. get_or-replicate n i 0 0 h)
    (λ h. let e = length-replicate {A = ℕ} n 0 in get_or_past (zeros n) i 0 (omega arith))
    (cases_lt i n)

-- as many bytes as there are, and then zeros
pub padded_byte : (bs xs : List ℕ) (place k n : ℕ) → k ≡ min (length bs - place) n → place < length bs → xs ≡ part_or (take k (zeros n)) bs place (length (take k (zeros n)))
    → (i : ℕ) → i < n → get_or (xs ++ drop k (zeros n)) i 0 ≡ byte bs (place + i)
padded_byte bs xs place k n e h got i l = by (cases_lt i k)
  where
    few : k ≤ n
    few = omega arith

    zs : length (take k (zeros n)) ≡ k
    zs = let r = length-replicate {A = ℕ} n 0 in length-take-le k (zeros n) (omega arith)

    is : xs ≡ take k (drop place bs)
    is = got ∙ ap (part_or (take k (zeros n)) bs place) zs ∙ part_or_inside (take k (zeros n)) bs place k (omega arith)

    long_enough : length xs ≡ k
    long_enough = ap length is ∙ length-take-le k (drop place bs) (let r = length-drop place bs in omega arith)

    by : (i < k) ⊎ (k ≤ i) → get_or (xs ++ drop k (zeros n)) i 0 ≡ byte bs (place + i)
    by (inl c) =
        get_or_append_left xs (drop k (zeros n)) 0 i (let z = long_enough in omega arith)
        ∙ ap (λ ys. get_or ys i 0) is ∙ get_or-take k (drop place bs) i 0 c ∙ get_or-drop place bs i 0
    by (inr c) =
        get_or-append_right xs (drop k (zeros n)) k i 0 long_enough c
        ∙ get_or-drop k (zeros n) (i - k) 0 ∙ zeros_byte n (k + (i - k))
        ∙ sym (get_or_past bs (place + i) 0 (omega arith))
