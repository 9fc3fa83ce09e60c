-- Laws of the header, of a followed link and of the walk, and what the code's tests say of them.
use Rattle.std.proofs.Common.{◌≡◌, ℕ, suc, ◌+◌, ◌-◌, ◌<◌, ◌≤◌, Bool, true, false, eqb, ltb, List, [], ◌∷◌, ◌++◌, length, take, Ok, Err, Result, sym, refl, ap, ◌∙◌, arith}
use Rattle.std.specs.List.{IsAnyAnswer}
use Rattle.std.proofs.lemmas.List.Elements.{contains_decides}
use Rattle.std.proofs.lemmas.List.{length_push}
use Rattle.std.proofs.lemmas.Bool.{ltb-false}
use Rattle.std.proofs.lemmas.Bool.Decides.{same_from_decides, Decides-by_or, Decides-eqb, nat_tests}
use Rattle.octets.specs.declared.endian.Endian.{Endian}
use Rattle.octets.specs.Numbers.{short, long}
use Rattle.faults.specs.declared.fault.Check.TheVariants.{Short}
use Rattle.faults.specs.declared.fault.Fault.{Fault}
use Rattle.faults.specs.Faults.{bare}
use Rattle.reads.specs.Reads.{short_at, long_at}
use Rattle.reads.proofs.Parts.{short_inside, long_inside}
use Rattle.links.specs.Links.{named, headed, has, ended, link_checked, directory_checked, followed, walk_from}
use Rattle.links.proofs.Chaining.{then_err, then_ok, passed}

-- a file with an accepted header has 8 bytes or more
pub headed_long : (bs : List ℕ) (o : Endian) → headed bs ≡ Ok o → 8 ≤ length bs
unfolding headed
headed_long bs o e = ltb-false (length bs) 8 (passed (ltb (length bs) 8) (bare Short) (named (take 4 bs)) o e).0

-- what `contains` answers
pub has_is : (xs : List ℕ) (x : ℕ) (r : Bool) → IsAnyAnswer (λ y t. eqb y x ≡ t) xs r → r ≡ has xs x
has_is xs x r h =
    same_from_decides r (has xs x) (contains_decides eqb Decides-eqb xs x r h)
    (Decides-by_or (λ y. eqb y x) (λ y. y ≡ x) (λ ys. has ys x) (λ y. Decides-eqb y x) refl (λ _ _. refl) xs)

module _ (o : Endian) (bs met : List ℕ) (field : ℕ) where
  -- the two stages of a followed link
  pub followed_err : (link : ℕ) (f : Fault) → link_checked (length bs) met field link ≡ Err f → followed o bs met field link ≡ Err f
  unfolding followed
  followed_err link f e = then_err (link_checked (length bs) met field link) (λ _. directory_checked (length bs) (length met) link (short o bs link)) f e

  pub followed_on : (link : ℕ) (u : Unit {0}) → link_checked (length bs) met field link ≡ Ok u → directory_checked (length bs) (length met) link (short_at o bs link) ≡ followed o bs met field link
  unfolding followed
  followed_on link u e =
      let h : link + 2 ≤ length bs = grind (arith, nat_tests) in
      ap (directory_checked (length bs) (length met) link) (short_inside o bs link h)
      ∙ sym (then_ok (link_checked (length bs) met field link) (λ _. directory_checked (length bs) (length met) link (short o bs link)) u e)

  -- a followed link is one of the first 32, and its directory lies in the store
  pub followed_ok : (link next : ℕ) → followed o bs met field link ≡ Ok next → (length met < 32) × (next + 4 ≤ length bs)
  unfolding followed
  followed_ok link next e = grind (arith, nat_tests)

  -- one turn of the walk: it ends, it fails, or it goes on
  pub turn_ends : (turns : ℕ) → ended met (long o bs field) ≡ true → walk_from (suc turns) o bs met field ≡ Ok met
  unfolding walk_from
  turn_ends turns e = simp e

  pub turn_fails : (turns : ℕ) (f : Fault) → ended met (long o bs field) ≡ false → followed o bs met field (long o bs field) ≡ Err f → walk_from (suc turns) o bs met field ≡ Err f
  unfolding walk_from
  turn_fails turns f e q = simp (e, q)

  pub turn_goes : (turns next : ℕ) → ended met (long o bs field) ≡ false → followed o bs met field (long o bs field) ≡ Ok next → walk_from (suc turns) o bs met field ≡ walk_from turns o bs (met ++ long o bs field ∷ []) next
  unfolding walk_from
  turn_goes turns next e q = simp (e, q)

-- the turns that are left after n of 33
pub turns_left : (o : Endian) (bs met : List ℕ) (field n : ℕ) → n ≤ 32 → walk_from (33 - n) o bs met field ≡ walk_from (suc (32 - n)) o bs met field
turns_left o bs met field n h = let k : 33 - n ≡ suc (32 - n) = omega arith in ap (λ t. walk_from t o bs met field) k

-- what the code reads where a link stands
pub link_is : (o : Endian) (bs cs : List ℕ) (field link : ℕ) → field + 4 ≤ length bs → cs ≡ bs → link ≡ long_at o cs field → link ≡ long o bs field
link_is o bs cs field link h e k = k ∙ ap (λ xs. long_at o xs field) e ∙ long_inside o bs field h

-- what the code's `follow` answers in a turn of its loop
pub follow_tells : (o : Endian) (bs cs met : List ℕ) (field link : ℕ) (r : Result ℕ Fault) → cs ≡ bs → link ≡ long o bs field → r ≡ followed o cs met field link → followed o bs met field (long o bs field) ≡ r
follow_tells o bs cs met field link r e k h = cc

-- a turn that goes on
pub walk_turns : (o : Endian) (bs met : List ℕ) (field next : ℕ) → length met ≤ 32 → ended met (long o bs field) ≡ false → followed o bs met field (long o bs field) ≡ Ok next
    → walk_from (33 - length (met ++ long o bs field ∷ [])) o bs (met ++ long o bs field ∷ []) next ≡ walk_from (33 - length met) o bs met field
walk_turns o bs met field next h e q =
    let ds = met ++ long o bs field ∷ [] in
    let j : 33 - length ds ≡ 32 - length met = omega (arith, length_push met (long o bs field)) in
    ap (λ m. walk_from m o bs ds next) j ∙ sym (turns_left o bs met field (length met) h ∙ turn_goes o bs met field (32 - length met) next e q)
