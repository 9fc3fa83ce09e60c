-- The checks of entries accept just what the rules allow.
use Rattle.std.proofs.Common.{◌≡◌, ℕ, ◌+◌, ◌%◌, ◌<◌, ◌≤◌, false, not, ◌&&◌, ◌||◌, eqb, ltb, ◌⊎◌, List, [], ◌∷◌, length, Some, None, Ok, Decides, Option, Result, sym, refl, ap, ◌∙◌, subst, inl, inr, arith}
use Rattle.std.specs.List.{AllByRecursion}
use Rattle.std.proofs.lemmas.Bool.{or_parts, and_left, lt-ltb, le-ltb, ltb-false, eqb-false, ne_eqb, or_from, not-false, cases_lt}
use Rattle.std.proofs.lemmas.Bool.Decides.{Decides-and, Decides-or, Decides-eqb, Decides-ltb}
use Rattle.faults.specs.declared.fault.Check.TheVariants.{Order, Field, Value}
use Rattle.faults.specs.declared.fault.Fault.{Fault}
use Rattle.faults.specs.Faults.{refused, fault}
use Rattle.links.proofs.Chaining.{then_was, then_ok, passed}
use Rattle.entries.specs.declared.entry.Directory.{Directory}
use Rattle.entries.specs.declared.entry.Entry.{Entry}
use Rattle.entries.specs.declared.entry.Shape.{Shape}
use Rattle.entries.specs.declared.entry.Shape.TheVariants.{One, OneShort, Bits, Many}
use Rattle.entries.specs.declared.fields.Fields.{Fields}
use Rattle.entries.specs.Entries.{entries_of, accepted, shaped, shape_of, fits, astray, scanned, size}
use Rattle.entries.specs.Fields.{gathered, fielded}
use Rattle.entries.proofs.Accepting.{accepted_by, accepted_listed}
use Rattle.rules.specs.Rules.{Ascending, Typed, Stored, FieldRules, EntryRules}

decides_number : (kind : ℕ) → Decides (eqb kind 3 || eqb kind 4) ((kind ≡ 3) ⊎ (kind ≡ 4))
decides_number kind = Decides-or (eqb kind 3) (eqb kind 4) (Decides-eqb kind 3) (Decides-eqb kind 4)

-- the type and the count
pub decides_typed : (s : Shape) (kind count : ℕ) → Decides (fits s kind count) (Typed s kind count)
decides_typed One kind count = Decides-and (eqb kind 3 || eqb kind 4) (eqb count 1) (decides_number kind) (Decides-eqb count 1)
decides_typed OneShort kind count = Decides-and (eqb kind 3) (eqb count 1) (Decides-eqb kind 3) (Decides-eqb count 1)
decides_typed Bits kind count =
    Decides-and (eqb kind 3) (eqb count 1 || eqb count 3) (Decides-eqb kind 3) (Decides-or (eqb count 1) (eqb count 3) (Decides-eqb count 1) (Decides-eqb count 3))
decides_typed Many kind count = Decides-and (eqb kind 3 || eqb kind 4) (ltb 0 count) (decides_number kind) (Decides-ltb 0 count)

-- where the values stand
stray_parts : (n v z : ℕ) → (eqb (v % 2) 1 || (ltb v 8 || ltb n (v + z))) ≡ false → (v % 2 ≡ 0) × (8 ≤ v) × (v + z ≤ n)
stray_parts n v z h =
    let a = or_parts (eqb (v % 2) 1) (ltb v 8 || ltb n (v + z)) h in
    let b = or_parts (ltb v 8) (ltb n (v + z)) a.1 in
    let odd = eqb-false (v % 2) 1 a.0 in
    (omega arith, ltb-false v 8 b.0, ltb-false n (v + z) b.1)

pub astray_stored : (n : ℕ) (e : Entry) → astray n e ≡ false → 4 < size e → Stored n e
astray_stored n e h l =
    let w = lt-ltb 4 (size e) l in
    let t : (eqb (e.values % 2) 1 || (ltb e.values 8 || ltb n (e.values + size e))) ≡ false = sym (ap (λ b. b && (eqb (e.values % 2) 1 || (ltb e.values 8 || ltb n (e.values + size e)))) w) ∙ h in
    let p = stray_parts n e.values (size e) t in
    record { even = p.0; past = p.1; within = p.2 }

stored_astray : (n : ℕ) (e : Entry) → (4 < size e → Stored n e) → astray n e ≡ false
stored_astray n e h = by (cases_lt 4 (size e))
  where
    by : (4 < size e) ⊎ (size e ≤ 4) → astray n e ≡ false
    by (inr l) = and_left (ltb 4 (size e)) _ (le-ltb 4 (size e) l)
    by (inl l) =
        let s = h l in
        let odd : (e.values % 2 ≡ 1) → ⊥ = λ q. omega (arith, q, s.even) in
        ap (λ b. b && (eqb (e.values % 2) 1 || (ltb e.values 8 || ltb n (e.values + size e)))) (lt-ltb 4 (size e) l)
        ∙ or_from (eqb (e.values % 2) 1) (ltb e.values 8 || ltb n (e.values + size e)) (ne_eqb (e.values % 2) 1 odd)
        (or_from (ltb e.values 8) (ltb n (e.values + size e)) (le-ltb e.values 8 s.past) (le-ltb n (e.values + size e) s.within))

some_some : {A : Type 0} (x y : A) → ◌≡◌ {A = Option A} (Some x) (Some y) → x ≡ y
some_some x y e = cc

ok_ok : {A : Type 0} (x y : A) → ◌≡◌ {A = Result A Fault} (Ok x) (Ok y) → x ≡ y
ok_ok x y e = cc

-- one entry
shaped_was : (n page : ℕ) (e : Entry) (m : Option Shape) (x : ℕ) → shaped n page e m ≡ Ok x → ((s : Shape) → m ≡ Some s → FieldRules n e s) × (x ≡ e.tag + 1)
shaped_was n page e None x q = ((λ s h. absurd (let z : ◌≡◌ {A = ℕ} 0 1 = cc in omega arith)), sym (ok_ok (e.tag + 1) x q))
shaped_was n page e (Some s) x q =
    let rest : Result ℕ Fault = refused (astray n e) (fault Value page e.tag e.place) (Ok (e.tag + 1)) in
    let a = passed (not (fits s e.kind e.count)) (fault Field page e.tag e.place) rest x q in
    let b = passed (astray n e) (fault Value page e.tag e.place) (Ok (e.tag + 1)) x a.1 in
    let rules : FieldRules n e s = record { typed = (decides_typed s e.kind e.count).0 (not-false _ a.0); stored = astray_stored n e b.0 } in
    ((λ t h. let w : s ≡ t = some_some s t h in subst (FieldRules n e) w rules), sym (ok_ok (e.tag + 1) x b.1))

accepted_was : (n page least : ℕ) (e : Entry) (x : ℕ) → accepted n page least e ≡ Ok x → (least ≤ e.tag) × EntryRules n e × (x ≡ e.tag + 1)
unfolding accepted
accepted_was n page least e x q =
    let a = passed (ltb e.tag least) (fault Order page 0 e.place) (shaped n page e (shape_of e.tag)) x q in
    let b = shaped_was n page e (shape_of e.tag) x a.1 in
    (ltb-false e.tag least a.0, b.0, b.1)

accepted_ok : (n page least : ℕ) (e : Entry) → least ≤ e.tag → EntryRules n e → accepted n page least e ≡ Ok (e.tag + 1)
accepted_ok n page least e h r = by (shape_of e.tag) refl
  where
    by : (m : Option Shape) → m ≡ shape_of e.tag → accepted n page least e ≡ Ok (e.tag + 1)
    by None k = accepted_by n page least e None h k
    by (Some s) k =
        let f = r s (sym k) in
        accepted_listed n page least e s h k ((decides_typed s e.kind e.count).1 f.typed) (stored_astray n e f.stored)

-- all entries
pub scanned_was : (n page least : ℕ) (es : List Entry) → scanned n page least es ≡ Ok tt → Ascending least es × AllByRecursion (EntryRules n) es
scanned_was n page least [] q = (tt, tt)
scanned_was n page least (e ∷ es) q =
    let t = then_was (accepted n page least e) (λ next. scanned n page next es) tt q in
    let a = accepted_was n page least e t.0 t.1 in
    let r = scanned_was n page t.0 es t.2 in
    ((a.0, subst (λ x. Ascending x es) a.2 r.0), (a.1, r.1))

pub scanned_ok : (n page least : ℕ) (es : List Entry) → Ascending least es → AllByRecursion (EntryRules n) es → scanned n page least es ≡ Ok tt
scanned_ok n page least [] a r = refl
scanned_ok n page least (e ∷ es) a r =
    then_ok (accepted n page least e) (λ next. scanned n page next es) (e.tag + 1) (accepted_ok n page least e a.0 r.0)
    ∙ scanned_ok n page (e.tag + 1) es a.1 r.1

pub fielded_was : (bs : List ℕ) (d : Directory) (fs : Fields) → fielded bs d ≡ Ok fs → (scanned (length bs) d.page 0 (entries_of bs d) ≡ Ok tt) × (gathered (entries_of bs d) ≡ fs)
unfolding fielded
fielded_was bs d fs e =
    let t = then_was (scanned (length bs) d.page 0 (entries_of bs d)) (λ _. Ok (gathered (entries_of bs d))) fs e in
    (t.1, ok_ok (gathered (entries_of bs d)) fs t.2)

pub fielded_ok : (bs : List ℕ) (d : Directory) → scanned (length bs) d.page 0 (entries_of bs d) ≡ Ok tt → fielded bs d ≡ Ok (gathered (entries_of bs d))
unfolding fielded
fielded_ok bs d e = then_ok (scanned (length bs) d.page 0 (entries_of bs d)) (λ _. Ok (gathered (entries_of bs d))) tt e
