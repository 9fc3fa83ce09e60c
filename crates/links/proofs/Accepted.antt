-- What holds of the directories of an accepted file.
use Rattle.std.proofs.Common.{◌≡◌, ℕ, zero, suc, ◌<◌, ◌≤◌, min, true, false, leb, List, [], ◌∷◌, length, get_or, take, Ok, Err, sym, ap, ◌∙◌, subst, ⊎_elim, arith}
use Rattle.std.proofs.lemmas.List.{get_or-take, length-take}
use Rattle.std.proofs.lemmas.Bool.{le-leb, lt-leb, cases_lt}
use Rattle.octets.specs.declared.endian.Endian.{Endian}
use Rattle.octets.specs.Numbers.{long}
use Rattle.faults.specs.declared.fault.Check.TheVariants.{Page}
use Rattle.faults.specs.Faults.{bare}
use Rattle.links.specs.declared.directories.Directories.{Directories}
use Rattle.links.specs.Links.{magic, listed, places_of, placed, walked}
use Rattle.links.specs.Chain.{Stands, link_of, link_to}
use Rattle.links.proofs.Found.{walked_linked, linked_found}
use Rattle.links.proofs.Listing.{count_listed}

module _ (bs : List ℕ) (d : Directories) (e : walked bs ≡ Ok d) where
  -- as many places as are counted
  pub accepted_count : length (places_of d) ≡ d.count
  accepted_count = sym (ap (λ x. x.count) (walked_linked bs d e).1 ∙ count_listed d.endian (places_of d))

  -- 1 to 32 directories
  pub accepted_some : 1 ≤ d.count
  accepted_some = omega (arith, accepted_count, (walked_linked bs d e).0.some)

  pub accepted_few : d.count ≤ 32
  accepted_few = omega (arith, accepted_count, (walked_linked bs d e).0.few)

  -- each stands in the file
  pub accepted_stands : (k : ℕ) → k < d.count → Stands d.endian bs (get_or d.places k 0)
  accepted_stands k h =
      subst (Stands d.endian bs) (get_or-take d.count d.places k 0 h)
      ((walked_linked bs d e).0.each k (omega (arith, accepted_count)))

  -- there is room for a header
  pub accepted_long : 8 ≤ length bs
  accepted_long = let s = accepted_stands 0 accepted_some in omega (arith, s.past, s.within)

  -- the place of a page
  pub accepted_page : (page : ℕ) → page < d.count → placed d page ≡ Ok (get_or d.places page 0)
  accepted_page page h =
      let a : leb d.count page ≡ false = lt-leb d.count page h in
      let b : leb 32 page ≡ false = lt-leb 32 page (omega (arith, accepted_few)) in
      simp (a, b)

  pub accepted_no_page : (page : ℕ) → d.count ≤ page → placed d page ≡ Err (bare Page)
  accepted_no_page page h = let a : leb d.count page ≡ true = le-leb d.count page h in simp a

-- the place of a page of any directories, accepted or not: their array has 32 places, as `count` says of each value
module _ (d : Directories) (whole : length d.places ≡ 32) (page : ℕ) where
  held : length (places_of d) ≡ min d.count 32
  held = length-take d.count d.places ∙ ap (min d.count) whole

  pub page_placed : page < length (places_of d) → placed d page ≡ Ok (get_or (places_of d) page 0)
  page_placed h =
      let c : page < d.count = omega (arith, held, h) in
      let a : leb d.count page ≡ false = lt-leb d.count page c in
      let b : leb 32 page ≡ false = lt-leb 32 page (omega (arith, held, h)) in
      let p = get_or-take d.count d.places page 0 c in
      simp (a, b, p)

  pub page_missing : length (places_of d) ≤ page → placed d page ≡ Err (bare Page)
  page_missing h =
      ⊎_elim
      (λ l. let a : leb d.count page ≡ false = lt-leb d.count page l in let b : leb 32 page ≡ true = le-leb 32 page (omega (arith, held, h, l)) in simp (a, b))
      (λ l. let a : leb d.count page ≡ true = le-leb d.count page l in simp a)
      (cases_lt page d.count)

-- a file whose header links to a directory with a link of 0 has that one directory
pub one_directory : (bs : List ℕ) (o : Endian) (place : ℕ) → take 4 bs ≡ magic o → long o bs 4 ≡ place → Stands o bs place → long o bs (link_of o bs place) ≡ 0 → walked bs ≡ Ok (listed o (place ∷ []))
one_directory bs o place header link stands end =
    linked_found bs o (place ∷ []) record {
      header = header;
      some = omega arith;
      few = omega arith;
      linked = only (λ k. long o bs (link_to o bs (place ∷ []) k) ≡ get_or (place ∷ []) k 0) link;
      ends = end;
      distinct = λ i k h l _. absurd (omega arith);
      each = only (λ k. Stands o bs (get_or (place ∷ []) k 0)) stands;
    }
  where
    only : (P : ℕ → Type 0) → P 0 → (k : ℕ) → k < 1 → P k
    only P p zero l = p
    only P p (suc k) l = absurd (omega arith)
