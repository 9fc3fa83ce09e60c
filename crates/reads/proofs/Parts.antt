-- Laws of reads: within the bytes, and past their end.
use Rattle.std.proofs.Common.{◌≡◌, ℕ, zero, suc, ◌+◌, ◌<◌, ◌≤◌, Bool, true, false, cond, ◌⊎◌, List, length, take, drop, Ok, Err, Result, sym, refl, ap, ◌∙◌, inl, inr, add-zero, zero-mul, arith}
use Rattle.std.proofs.lemmas.List.{get_or-take, get_or-drop, get_or_past, get_or-replicate}
use Rattle.std.proofs.lemmas.Bool.{cond-true, cond-false, le-leb, lt-leb, leb-true, leb-false, cases_lt}
use Rattle.octets.specs.declared.endian.Endian.{Endian}
use Rattle.octets.specs.Digits.{number, packed}
use Rattle.octets.specs.Numbers.{word, short, long}
use Rattle.octets.specs.Rows.{byte}
use Rattle.octets.proofs.Digits.{number_same}
use Rattle.faults.specs.declared.fault.Fault.{Fault}
use Rattle.store.specs.Rules.{Answered, filled}
use Rattle.reads.specs.Reads.{inside, zeros, part_or, part, word_at, short_at, long_at}

pub part_or_inside : (old bs : List ℕ) (place n : ℕ) → place + n ≤ length bs → part_or old bs place n ≡ take n (drop place bs)
unfolding part_or
part_or_inside old bs place n h = cond-true (inside bs place n) (take n (drop place bs)) old (le-leb (place + n) (length bs) h)

pub part_or_past : (old bs : List ℕ) (place n : ℕ) → length bs < place + n → part_or old bs place n ≡ old
unfolding part_or
part_or_past old bs place n h = cond-false (inside bs place n) (take n (drop place bs)) old (lt-leb (place + n) (length bs) h)

pub part_inside : (bs : List ℕ) (place n : ℕ) → place + n ≤ length bs → part bs place n ≡ take n (drop place bs)
part_inside bs place n h = part_or_inside (zeros n) bs place n h

pub part_past : (bs : List ℕ) (place n : ℕ) → length bs < place + n → part bs place n ≡ zeros n
part_past bs place n h = part_or_past (zeros n) bs place n h

pub word_inside : (o : Endian) (bs : List ℕ) (place n : ℕ) → place + n ≤ length bs → word_at o bs place n ≡ word o bs place n
word_inside o bs place n h = cond-true (inside bs place n) (word o bs place n) 0 (le-leb (place + n) (length bs) h)

pub short_inside : (o : Endian) (bs : List ℕ) (place : ℕ) → place + 2 ≤ length bs → short_at o bs place ≡ short o bs place
unfolding short_at
short_inside o bs place h = word_inside o bs place 2 h

pub long_inside : (o : Endian) (bs : List ℕ) (place : ℕ) → place + 4 ≤ length bs → long_at o bs place ≡ long o bs place
unfolding long_at
long_inside o bs place h = word_inside o bs place 4 h

-- the instances for two and for four bytes
pub short_is : (o : Endian) (bs : List ℕ) (place : ℕ) → word_at o bs place 2 ≡ short_at o bs place
unfolding short_at
short_is o bs place = refl

pub long_is : (o : Endian) (bs : List ℕ) (place : ℕ) → word_at o bs place 4 ≡ long_at o bs place
unfolding long_at
long_is o bs place = refl

-- byte i of a part
pub part_byte : (bs : List ℕ) (place n i : ℕ) → place + n ≤ length bs → i < n → byte (part bs place n) i ≡ byte bs (place + i)
part_byte bs place n i h l =
    ap (λ xs. byte xs i) (part_inside bs place n h) ∙ get_or-take n (drop place bs) i 0 l ∙ get_or-drop place bs i 0

-- what a read of a store leaves in a buffer
pub part_read : (r : Result (Unit {0}) Fault) (old bs : List ℕ) (place : ℕ) → Answered r bs place (length old) → filled r bs place old ≡ part_or old bs place (length old)
part_read (Ok _) old bs place h = sym (part_or_inside old bs place (length old) h)
part_read (Err _) old bs place h = sym (part_or_past old bs place (length old) h.0)

packed_zeros : (base n : ℕ) → packed base n (λ t. 0) ≡ 0
unfolding packed
packed_zeros base zero = refl
packed_zeros base (suc n) = rw (packed_zeros base n, zero-mul)

number_zeros : (o : Endian) (n : ℕ) → number o n (byte (zeros n)) ≡ 0
unfolding number
number_zeros o n = number_same o n (byte (zeros n)) (λ t. 0) (λ t l. get_or-replicate n t 0 0 l) ∙ packed_zeros 256 n

-- the number in a part
pub word_part : (o : Endian) (bs : List ℕ) (place n : ℕ) → number o n (byte (part bs place n)) ≡ word_at o bs place n
word_part o bs place n = by (inside bs place n) refl
  where
    by : (b : Bool) → inside bs place n ≡ b → number o n (byte (part bs place n)) ≡ cond b (word o bs place n) 0
    by true e = number_same o n (byte (part bs place n)) (λ i. byte bs (place + i)) (λ i l. part_byte bs place n i (leb-true (place + n) (length bs) e) l)
    by false e = ap (λ xs. number o n (byte xs)) (part_past bs place n (leb-false (place + n) (length bs) e)) ∙ number_zeros o n

-- the byte in a part of one
pub byte_part : (bs : List ℕ) (place : ℕ) → byte (part bs place 1) 0 ≡ byte bs place
byte_part bs place = by (cases_lt (length bs) (place + 1))
  where
    by : (length bs < place + 1) ⊎ (place + 1 ≤ length bs) → byte (part bs place 1) 0 ≡ byte bs place
    by (inl l) = ap (λ xs. byte xs 0) (part_past bs place 1 l) ∙ sym (get_or_past bs place 0 (omega arith))
    by (inr l) = part_byte bs place 1 0 l (omega arith) ∙ ap (byte bs) (add-zero place)
