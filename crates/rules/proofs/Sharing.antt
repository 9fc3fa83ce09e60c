-- Values in bytes that agree on a page's extents are equal.
use Rattle.std.proofs.Common.{◌≡◌, ℕ, zero, suc, ◌+◌, ◌-◌, ◌*◌, ◌<◌, ◌≤◌, Bool, true, false, cond, eqb, ltb, leb, ◌⊎◌, List, [], ◌∷◌, length, is_some, Some, None, Option, sym, refl, ◌∙◌, subst, inl, inr, arith}
use Rattle.std.specs.List.{AllByRecursion}
use Rattle.std.proofs.lemmas.Bool.{cases_lt, cond_both, cond-true, le-leb, lt-ltb, ltb-true, eqb-true, and_from, true≢false}
use Rattle.octets.specs.Numbers.{short, long}
use Rattle.octets.specs.declared.endian.Endian.{Endian}
use Rattle.reads.specs.Agree.{Agree}
use Rattle.reads.specs.Reads.{short_at, long_at}
use Rattle.reads.proofs.Agreeing.{short_agrees, long_agrees, agree_in}
use Rattle.entries.specs.declared.entry.Entry.{Entry}
use Rattle.entries.specs.declared.entry.Shape.{Shape}
use Rattle.entries.specs.declared.entry.Shape.TheVariants.{One, OneShort, Bits, Many}
use Rattle.entries.specs.declared.fields.Numbers.{Numbers}
use Rattle.entries.specs.Entries.{entry_at, entries_from, shape_of, size, size_of, home_of}
use Rattle.entries.specs.Fields.{form_of, numbers_of, chosen, sought_from, number_at, nth_or}
use Rattle.pages.specs.Extents.{Span, span, outer, value_spans, AgreeOn}
use Rattle.rules.specs.Rules.{IsNumber, Typed, Stored, EntryRules}

-- the entries of two files that agree on them
entry_same : (o : Endian) (bs cs : List ℕ) (at : ℕ) → Agree bs cs at 12 → entry_at o bs at ≡ entry_at o cs at
unfolding entry_at
entry_same o bs cs at a =
    let t : short o bs at ≡ short o cs at = short_agrees o bs cs at (agree_in bs cs at 12 at 2 (omega arith) (omega arith) a) in
    let k = short_agrees o bs cs (at + 2) (agree_in bs cs at 12 (at + 2) 2 (omega arith) (omega arith) a) in
    let c = long_agrees o bs cs (at + 4) (agree_in bs cs at 12 (at + 4) 4 (omega arith) (omega arith) a) in
    let v = long_agrees o bs cs (at + 8) (agree_in bs cs at 12 (at + 8) 4 (omega arith) (omega arith) a) in
    λ i. record { tag = t i; kind = k i; count = c i; place = at; values = home_of at (size_of (k i) (c i)) (v i) }

pub entries_same : (o : Endian) (bs cs : List ℕ) (k at : ℕ) → Agree bs cs at (12 * k) → entries_from k o bs at ≡ entries_from k o cs at
entries_same o bs cs zero at a = refl
entries_same o bs cs (suc k) at a =
    let x = entry_same o bs cs at (agree_in bs cs at (12 * suc k) at 12 (omega arith) (omega arith) a) in
    let y = entries_same o bs cs k (at + 12) (agree_in bs cs at (12 * suc k) (at + 12) (12 * k) (omega arith) (omega arith) a) in
    λ i. x i ∷ y i

-- where an entry stands, and its values if they fit it
pub record Within (place end : ℕ) (e : Entry) : Type 0 where
  pub from : place ≤ e.place
  pub to : e.place + 12 ≤ end
  pub home : size e ≤ 4 → e.values ≡ e.place + 8

entry_within : (o : Endian) (bs : List ℕ) (at place end : ℕ) → place ≤ at → at + 12 ≤ end → Within place end (entry_at o bs at)
unfolding entry_at
entry_within o bs at place end h k = record {
  from = h;
  to = k;
  home = λ s. cond-true (leb (size_of (short o bs (at + 2)) (long o bs (at + 4))) 4) (at + 8) (long o bs (at + 8)) (le-leb (size_of (short o bs (at + 2)) (long o bs (at + 4))) 4 s);
}

pub entries_within : (o : Endian) (bs : List ℕ) (k at place end : ℕ) → place ≤ at → at + 12 * k ≤ end → AllByRecursion (Within place end) (entries_from k o bs at)
entries_within o bs zero at place end h l = tt
entries_within o bs (suc k) at place end h l = (entry_within o bs at place end h (omega arith), entries_within o bs k (at + 12) place end (omega arith) (omega arith))

-- values longer than 4 bytes that lie in the file are extents
abbrev pub Kept : List ℕ → List ℕ → ℕ → Entry → Type 0
Kept bs cs n e = outer n e ≡ true → Agree bs cs e.values (size e)

kept_here : (bs cs : List ℕ) (s : Span) (ss : List Span) → AgreeOn (s ∷ ss) bs cs → Agree bs cs s.place s.count
kept_here bs cs s ss a i h = a (s.place + i) (inl (omega arith, omega arith))

-- by whether the first is one
kept_by : (bs cs : List ℕ) (n : ℕ) (e : Entry) (es : List Entry) (b : Bool) → outer n e ≡ b → AgreeOn (cond b (span e.values (size e) ∷ value_spans n es) (value_spans n es)) bs cs
    → Kept bs cs n e × AgreeOn (value_spans n es) bs cs
kept_by bs cs n e es true w a = ((λ _. kept_here bs cs (span e.values (size e)) (value_spans n es) a), (λ i h. a i (inr h)))
kept_by bs cs n e es false w a = ((λ h. absurd (true≢false (sym h ∙ w))), a)

pub all_kept : (bs cs : List ℕ) (n : ℕ) (es : List Entry) → AgreeOn (value_spans n es) bs cs → AllByRecursion (Kept bs cs n) es
unfolding value_spans
all_kept bs cs n [] a = tt
all_kept bs cs n (e ∷ es) a =
    let p = kept_by bs cs n e es (outer n e) refl a in
    (p.0, all_kept bs cs n es p.1)

-- numbers within bytes that agree
abbrev pub Same : Endian → List ℕ → List ℕ → Numbers → Type 0
Same o bs cs v = (k : ℕ) → k < v.count → number_at o bs v k ≡ number_at o cs v k

module _ (o : Endian) (bs cs : List ℕ) (len : length cs ≡ length bs) where
  numbers_same : (kind count values : ℕ) → IsNumber kind → Agree bs cs values (size_of kind count) → Same o bs cs record { form = form_of kind; count = count; place = values }
  unfolding number_at short_at long_at
  numbers_same kind count values (inl e) a k h =
      let b : Agree bs cs values (2 * count) = subst (λ x. Agree bs cs values (size_of x count)) e a in
      let p = values + 2 * k in
      let s = short_agrees o bs cs p (agree_in bs cs values (2 * count) p 2 (omega arith) (omega arith) b) in
      subst (λ x. number_at o bs record { form = form_of x; count = count; place = values } k ≡ number_at o cs record { form = form_of x; count = count; place = values } k) (sym e)
      (λ i. cond (leb (p + 2) (sym len i)) (s i) 0)
  numbers_same kind count values (inr e) a k h =
      let b : Agree bs cs values (4 * count) = subst (λ x. Agree bs cs values (size_of x count)) e a in
      let p = values + 4 * k in
      let s = long_agrees o bs cs p (agree_in bs cs values (4 * count) p 4 (omega arith) (omega arith) b) in
      subst (λ x. number_at o bs record { form = form_of x; count = count; place = values } k ≡ number_at o cs record { form = form_of x; count = count; place = values } k) (sym e)
      (λ i. cond (leb (p + 4) (sym len i)) (s i) 0)

  typed_number : (s : Shape) (kind count : ℕ) → Typed s kind count → IsNumber kind
  typed_number One kind count t = t.0
  typed_number OneShort kind count t = inl t.0
  typed_number Bits kind count t = inl t.0
  typed_number Many kind count t = t.0

  some_shape : (m : Option Shape) → is_some m ≡ true → (s : Shape) × (m ≡ Some s)
  some_shape (Some s) h = (s, refl)
  some_shape None h = absurd (true≢false (sym h))

  -- the values of a listed entry
  pub entry_shares : (place end : ℕ) (e : Entry) → Agree bs cs place (end - place) → Within place end e → Kept bs cs (length bs) e → EntryRules (length bs) e → is_some (shape_of e.tag) ≡ true → Same o bs cs (numbers_of e)
  entry_shares place end e a w k r l =
      let s = some_shape (shape_of e.tag) l in
      let f = r s.0 s.1 in
      numbers_same e.kind e.count e.values (typed_number s.0 e.kind e.count f.typed) (by (cases_lt 4 (size e)) f.stored)
    where
      by : (4 < size e) ⊎ (size e ≤ 4) → (4 < size e → Stored (length bs) e) → Agree bs cs e.values (size e)
      by (inl h) st = k (and_from (ltb 4 (size e)) (leb (e.values + size e) (length bs)) (lt-ltb 4 (size e) h) (le-leb (e.values + size e) (length bs) (st h).within))
      by (inr h) st =
          let v = w.home h in
          agree_in bs cs place (end - place) e.values (size e) (omega (arith, v, w.from)) (omega (arith, v, w.from, w.to)) a

-- what holds of the values under a tag, where it is present
abbrev pub On : (Numbers → Type 0) → Option Numbers → Type 0
On P None = Unit {0}
On P (Some v) = P v

pub sought_on : (P : Numbers → Type 0) (tag : ℕ) (es : List Entry) (before : Option Numbers) → On P before → AllByRecursion (λ e. e.tag ≡ tag → P (numbers_of e)) es → On P (sought_from before tag es)
sought_on P tag [] before b h = b
sought_on P tag (e ∷ es) before b h =
    sought_on P tag es (chosen e.tag tag (numbers_of e) before)
    (cond_both (eqb e.tag tag) (Some (numbers_of e)) before (On P) (λ q. h.0 (eqb-true e.tag tag q)) (λ _. b))
    h.1

nth_by : (o : Endian) (bs cs : List ℕ) (default k : ℕ) (v : Numbers) (b : Bool) → ltb k v.count ≡ b → Same o bs cs v → cond b (number_at o bs v k) default ≡ cond b (number_at o cs v k) default
nth_by o bs cs default k v true e s = s k (ltb-true k v.count e)
nth_by o bs cs default k v false e s = refl

pub nth_same : (o : Endian) (bs cs : List ℕ) (default k : ℕ) (m : Option Numbers) → On (Same o bs cs) m → nth_or o bs default k m ≡ nth_or o cs default k m
nth_same o bs cs default k None s = refl
nth_same o bs cs default k (Some v) s = nth_by o bs cs default k v (ltb k v.count) refl s
