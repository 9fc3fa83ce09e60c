-- The walk finds a chain of directories exactly where there is one.
use Rattle.std.proofs.Common.{◌≡◌, ℕ, zero, suc, ◌+◌, ◌*◌, ◌%◌, ◌<◌, ◌≤◌, Bool, true, false, cond, ltb, ◌⊎◌, List, [], ◌∷◌, ◌++◌, length, get_or, take, Ok, Err, Result, sym, refl, ap, ◌∙◌, subst, inl, inr, ⊎_elim, add-one, arith}
use Rattle.std.specs.Str.{bytes_eq}
use Rattle.std.proofs.lemmas.Slice.Eq.{bytes_eq-Decides}
use Rattle.std.proofs.lemmas.List.{get_or_append_left, get_or_push, length_push, length-take-le, get_or-take, take_all, take_more}
use Rattle.std.proofs.lemmas.Bool.{cases_lt, both_ways, le-ltb}
use Rattle.std.proofs.lemmas.Bool.Decides.{nat_tests}
use Rattle.octets.specs.declared.endian.Endian.{Endian}
use Rattle.octets.specs.declared.endian.Endian.TheVariants.{Little, Big}
use Rattle.octets.specs.Numbers.{short, long}
use Rattle.faults.specs.declared.fault.Fault.{Fault}
use Rattle.faults.specs.declared.fault.Check.TheVariants.{Short, Magic}
use Rattle.faults.specs.Faults.{bare, then}
use Rattle.links.specs.declared.directories.Directories.{Directories}
use Rattle.links.specs.Links.{magic, named, headed, has, ended, followed, walk_from, chained, listed, places_of, walked}
use Rattle.links.specs.Chain.{Stands, link_of, link_to, WellLinked, ChainFound}
use Rattle.links.proofs.Chaining.{then_ok, then_was, passed}
use Rattle.links.proofs.Following.{turn_ends, turn_goes}
use Rattle.links.proofs.Listing.{walk_on, walk_was, places_listed, endian_listed}

-- what stands in a list
has_at : (xs : List ℕ) (x k : ℕ) → k < length xs → get_or xs k 0 ≡ x → has xs x ≡ true
has_at [] x k l e = absurd (omega arith)
has_at (y ∷ ys) x zero l e = grind (arith, nat_tests)
has_at (y ∷ ys) x (suc k) l e = let h = has_at ys x k (omega arith) e in grind (arith, nat_tests)

has_not : (xs : List ℕ) (x : ℕ) → ((k : ℕ) → k < length xs → get_or xs k 0 ≡ x → ⊥) → has xs x ≡ false
has_not [] x h = refl
has_not (y ∷ ys) x h =
    let t = has_not ys x (λ k l. h (suc k) (omega arith)) in
    let z : y ≡ x → ⊥ = h 0 (omega arith) in
    grind (arith, nat_tests)

-- what a followed link says of its directory
followed_stands : (o : Endian) (bs met : List ℕ) (field link next : ℕ) → followed o bs met field link ≡ Ok next → Stands o bs link × (next ≡ link_of o bs link) × (has met link ≡ false) × (length met < 32)
unfolding followed
followed_stands o bs met field link next e =
    let a : link % 2 ≡ 0 = grind (arith, nat_tests) in
    let b : 8 ≤ link = grind (arith, nat_tests) in
    let c : 1 ≤ short o bs link = grind (arith, nat_tests) in
    let d : short o bs link ≤ 64 = grind (arith, nat_tests) in
    let w : link + 6 + 12 * short o bs link ≤ length bs = grind (arith, nat_tests) in
    let n : next ≡ link_of o bs link = grind (arith, nat_tests) in
    let h : has met link ≡ false = grind (arith, nat_tests) in
    let l : length met < 32 = grind (arith, nat_tests) in
    (record { even = a; past = b; some = c; few = d; within = w }, n, h, l)

stands_followed : (o : Endian) (bs met : List ℕ) (field link : ℕ) → Stands o bs link → has met link ≡ false → length met < 32 → followed o bs met field link ≡ Ok (link_of o bs link)
unfolding followed
stands_followed o bs met field link s h l = grind (arith, nat_tests)

-- the links to the directories met, and one more
link_to_push : (o : Endian) (bs met : List ℕ) (x k : ℕ) → k ≤ length met → link_to o bs (met ++ x ∷ []) k ≡ link_to o bs met k
link_to_push o bs met x zero h = refl
link_to_push o bs met x (suc k) h = ap (link_of o bs) (get_or_append_left met (x ∷ []) 0 k (omega arith))

-- what holds of the directories met when the link at a field is to be followed
record Met (o : Endian) (bs met : List ℕ) (field : ℕ) : Type 0 where
  few : length met ≤ 32
  at : field ≡ link_to o bs met (length met)
  linked : (k : ℕ) → k < length met → long o bs (link_to o bs met k) ≡ get_or met k 0
  distinct : (i k : ℕ) → i < k → k < length met → get_or met i 0 ≡ get_or met k 0 → ⊥
  each : (k : ℕ) → k < length met → Stands o bs (get_or met k 0)

-- a fact of each index below, and of the last
push_each : (P : ℕ → ℕ → Type 0) (met : List ℕ) (x : ℕ) → ((k : ℕ) → k < length met → P k (get_or met k 0)) → P (length met) x → (k : ℕ) → k < length (met ++ x ∷ []) → P k (get_or (met ++ x ∷ []) k 0)
push_each P met x each last k l =
    ⊎_elim
    (λ m. subst (P k) (sym (get_or_append_left met (x ∷ []) 0 k m)) (each k m))
    (λ m. let e : k ≡ length met = omega (arith, length_push met x) in
    subst (λ j. P j (get_or (met ++ x ∷ []) j 0)) (sym e) (subst (P (length met)) (sym (get_or_push met x 0 (length met) refl)) last))
    (cases_lt k (length met))

link_to_last : (o : Endian) (bs met : List ℕ) (x : ℕ) → link_to o bs (met ++ x ∷ []) (length (met ++ x ∷ [])) ≡ link_of o bs x
link_to_last o bs met x =
    let len : length (met ++ x ∷ []) ≡ suc (length met) = omega (arith, length_push met x) in
    ap (link_to o bs (met ++ x ∷ [])) len ∙ ap (link_of o bs) (get_or_push met x 0 (length met) refl)

distinct_push : (met : List ℕ) (x : ℕ) → ((i k : ℕ) → i < k → k < length met → get_or met i 0 ≡ get_or met k 0 → ⊥) → has met x ≡ false
    → (i k : ℕ) → i < k → k < length (met ++ x ∷ []) → get_or (met ++ x ∷ []) i 0 ≡ get_or (met ++ x ∷ []) k 0 → ⊥
distinct_push met x old fresh i k h l q =
    let len = length_push met x in
    let below : i < length met = omega arith in
    let a = get_or_append_left met (x ∷ []) 0 i below in
    ⊎_elim
    (λ m. old i k h m (sym a ∙ q ∙ get_or_append_left met (x ∷ []) 0 k m))
    (λ m. let e : length met ≡ k = omega arith in
    both_ways (has met x) fresh (has_at met x i below (sym a ∙ q ∙ get_or_push met x 0 k e)))
    (cases_lt k (length met))

met_more : (o : Endian) (bs met : List ℕ) (field next : ℕ) → Met o bs met field → followed o bs met field (long o bs field) ≡ Ok next → Met o bs (met ++ long o bs field ∷ []) next
met_more o bs met field next m e =
    let x = long o bs field in
    let f = followed_stands o bs met field x next e in
    let len = length_push met x in
    record {
      few = omega (arith, f.3);
      at = f.1 ∙ sym (link_to_last o bs met x);
      linked =
          push_each (λ k y. long o bs (link_to o bs (met ++ x ∷ []) k) ≡ y) met x
          (λ k l. ap (long o bs) (link_to_push o bs met x k (omega arith)) ∙ m.linked k l)
          (ap (long o bs) (link_to_push o bs met x (length met) (omega arith) ∙ sym m.at));
      distinct = distinct_push met x m.distinct f.2;
      each = push_each (λ _ y. Stands o bs y) met x m.each f.0;
    }

-- a walk that has come to its end
abbrev Ended : Endian → List ℕ → List ℕ → Type 0
Ended o bs ds = (field : ℕ) × Met o bs ds field × (ended ds (long o bs field) ≡ true)

-- by whether the walk ends here
sound_by : (o : Endian) (bs met : List ℕ) (field : ℕ) (ds : List ℕ) (after : ℕ → Result (List ℕ) Fault) (b : Bool) → ended met (long o bs field) ≡ b → Met o bs met field
    → ((next : ℕ) → Met o bs (met ++ long o bs field ∷ []) next → after next ≡ Ok ds → Ended o bs ds)
    → cond b (Ok met) (then (followed o bs met field (long o bs field)) after) ≡ Ok ds → Ended o bs ds
sound_by o bs met field ds after true q m h e = let w : met ≡ ds = cc in subst (Ended o bs) w (field, m, q)
sound_by o bs met field ds after false q m h e =
    let t = then_was (followed o bs met field (long o bs field)) after ds e in
    h t.0 (met_more o bs met field t.0 m t.1) t.2

walk_sound : (turns : ℕ) (o : Endian) (bs met : List ℕ) (field : ℕ) (ds : List ℕ) → Met o bs met field → walk_from turns o bs met field ≡ Ok ds → Ended o bs ds
unfolding walk_from
walk_sound zero o bs met field ds m e = absurd (let z : ◌≡◌ {A = ℕ} 0 1 = cc in omega arith)
walk_sound (suc turns) o bs met field ds m e =
    sound_by o bs met field ds (λ next. walk_from turns o bs (met ++ long o bs field ∷ []) next) (ended met (long o bs field)) refl m
    (λ next n q. walk_sound turns o bs (met ++ long o bs field ∷ []) next ds n q) e

met_none : (o : Endian) (bs : List ℕ) → Met o bs [] 4
met_none o bs = record {
  few = omega arith;
  at = refl;
  linked = λ k l. absurd (omega arith);
  distinct = λ i k h l _. absurd (omega arith);
  each = λ k l. absurd (omega arith);
}

-- the byte order that is named, and its bytes
named_by : (a b : Bool) (f : Fault) (o : Endian) → cond a (Ok Little) (cond b (Ok Big) (Err f)) ≡ Ok o → ((a ≡ true) × (o ≡ Little)) ⊎ ((b ≡ true) × (o ≡ Big))
named_by true b f o e = let w : o ≡ Little = cc in inl (refl, w)
named_by false true f o e = let w : o ≡ Big = cc in inr (refl, w)
named_by false false f o e = absurd (let z : ◌≡◌ {A = ℕ} 0 1 = cc in omega arith)

named_magic : (head : List ℕ) (o : Endian) → named head ≡ Ok o → head ≡ magic o
named_magic head o e =
    ⊎_elim
    (λ p. (bytes_eq-Decides head (magic Little)).0 p.0 ∙ ap magic (sym p.1))
    (λ p. (bytes_eq-Decides head (magic Big)).0 p.0 ∙ ap magic (sym p.1))
    (named_by (bytes_eq head (magic Little)) (bytes_eq head (magic Big)) (bare Magic) o e)

magic_named : (o : Endian) → named (magic o) ≡ Ok o
magic_named Little = refl
magic_named Big = refl

headed_magic : (bs : List ℕ) (o : Endian) → headed bs ≡ Ok o → take 4 bs ≡ magic o
unfolding headed
headed_magic bs o e = named_magic (take 4 bs) o (passed (ltb (length bs) 8) (bare Short) (named (take 4 bs)) o e).1

magic_headed : (bs : List ℕ) (o : Endian) → 8 ≤ length bs → take 4 bs ≡ magic o → headed bs ≡ Ok o
unfolding headed
magic_headed bs o h e =
    let t : ltb (length bs) 8 ≡ false = le-ltb (length bs) 8 h in
    let n : named (take 4 bs) ≡ Ok o = ap named e ∙ magic_named o in
    simp (t, n)

-- what is found is well linked
pub found_linked : (bs : List ℕ) (o : Endian) (ds : List ℕ) → headed bs ≡ Ok o → chained o bs ≡ Ok ds → WellLinked bs o ds
found_linked bs o ds a e =
    let s = walk_sound 33 o bs [] 4 ds (met_none o bs) e in
    let m = s.1 in
    let z : long o bs s.0 ≡ 0 = grind (arith, nat_tests) in
    let some : 1 ≤ length ds = grind (arith, nat_tests) in
    record {
      header = headed_magic bs o a;
      some = some;
      few = m.few;
      linked = m.linked;
      ends = ap (long o bs) (sym m.at) ∙ z;
      distinct = m.distinct;
      each = m.each;
    }

-- what is well linked is found
module _ (bs : List ℕ) (o : Endian) (ds : List ℕ) (w : WellLinked bs o ds) where
  linked_long : 8 ≤ length bs
  linked_long = omega (arith, (w.each 0 w.some).past, (w.each 0 w.some).within)

  goes_on : (n t : ℕ) → n < length ds → walk_from (suc t) o bs (take n ds) (link_to o bs ds n) ≡ walk_from t o bs (take (suc n) ds) (link_to o bs ds (suc n))
  goes_on n t l =
      let d = get_or ds n 0 in
      let link = w.linked n l in
      let len : length (take n ds) ≡ n = length-take-le n ds (omega arith) in
      let s = w.each n l in
      let big : 8 ≤ d = s.past in
      let fresh = has_not (take n ds) d (λ k m q. w.distinct k n (omega arith) l (sym (get_or-take n ds k 0 (omega arith)) ∙ q)) in
      let room : length (take n ds) < 32 = omega (arith, w.few) in
      let more : ended (take n ds) d ≡ false = grind (arith, nat_tests) in
      let one : take n ds ++ d ∷ [] ≡ take (suc n) ds = sym (take_more ds n 0 l) ∙ ap (λ j. take j ds) (add-one n) in
      let f = stands_followed o bs (take n ds) (link_to o bs ds n) d s fresh room in
      turn_goes o bs (take n ds) (link_to o bs ds n) t (link_of o bs d) (ap (ended (take n ds)) link ∙ more) (ap (followed o bs (take n ds) (link_to o bs ds n)) link ∙ f)
      ∙ ap (λ x. walk_from t o bs (take n ds ++ x ∷ []) (link_of o bs d)) link
      ∙ ap (λ xs. walk_from t o bs xs (link_of o bs d)) one

  -- m directories are left, of which n are met
  found_from : (m n t : ℕ) → n + m ≡ length ds → m ≤ t → walk_from (suc t) o bs (take n ds) (link_to o bs ds n) ≡ Ok ds
  found_from zero n t e h =
      let all : take n ds ≡ ds = take_all n ds (omega arith) in
      let z : long o bs (link_to o bs ds n) ≡ 0 = ap (λ k. long o bs (link_to o bs ds k)) (omega arith) ∙ w.ends in
      let some : 1 ≤ length (take n ds) = omega (arith, ap length all, w.some) in
      let end : ended (take n ds) 0 ≡ true = grind (arith, nat_tests) in
      turn_ends o bs (take n ds) (link_to o bs ds n) t (ap (ended (take n ds)) z ∙ end) ∙ ap Ok all
  found_from (suc m) n zero e h = absurd (omega arith)
  found_from (suc m) n (suc t) e h = goes_on n (suc t) (omega arith) ∙ found_from m (suc n) t (omega arith) (omega arith)

  pub linked_found : walked bs ≡ Ok (listed o ds)
  linked_found =
      walk_on bs o (magic_headed bs o linked_long w.header)
      ∙ then_ok (chained o bs) (λ ds. Ok (listed o ds)) ds (found_from (length ds) 0 32 (omega arith) w.few)

listed_linked : (bs : List ℕ) (o : Endian) (ds : List ℕ) → WellLinked bs o ds → WellLinked bs (listed o ds).endian (places_of (listed o ds)) × (listed o ds ≡ listed (listed o ds).endian (places_of (listed o ds)))
listed_linked bs o ds w = (
  subst (λ p. WellLinked bs p (places_of (listed o ds))) (sym (endian_listed o ds)) (subst (WellLinked bs o) (sym (places_listed o ds)) w),
  sym (ap (λ p. listed p (places_of (listed o ds))) (endian_listed o ds) ∙ ap (listed o) (places_listed o ds)),
)

pub walked_linked : (bs : List ℕ) (d : Directories) → walked bs ≡ Ok d → WellLinked bs d.endian (places_of d) × (d ≡ listed d.endian (places_of d))
walked_linked bs d e =
    let t = walk_was bs d e in
    subst (λ x. WellLinked bs x.endian (places_of x) × (x ≡ listed x.endian (places_of x))) (sym t.4) (listed_linked bs t.0 t.1 (found_linked bs t.0 t.1 t.2 t.3))

pub chain_found : (bs : List ℕ) → ChainFound bs
chain_found bs = record { sound = walked_linked bs; complete = λ o ds w. linked_found bs o ds w }
