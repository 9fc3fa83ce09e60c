-- The directories as the code holds them, and the stages of a walk.
use Rattle.std.proofs.Common.{◌≡◌, ℕ, ◌-◌, ◌<◌, ◌≤◌, List, ◌++◌, length, get_or, take, drop, replicate, Ok, Err, sym, refl, ap, ◌∙◌, arith}
use Rattle.std.proofs.lemmas.List.{take-append-drop, take_at, drop-replicate, length-take-le, get_or_append_left}
use Rattle.octets.specs.declared.endian.Endian.{Endian}
use Rattle.faults.specs.declared.fault.Fault.{Fault}
use Rattle.links.specs.declared.directories.Directories.{Directories}
use Rattle.links.specs.Links.{headed, chained, linked, listed, places_of, walked}
use Rattle.links.proofs.Chaining.{then_err, then_ok, then_was}

-- the places of the directories held are those listed
pub places_listed : (o : Endian) (ds : List ℕ) → places_of (listed o ds) ≡ ds
unfolding listed
places_listed o ds = take_at ds (replicate (32 - length ds) 0) (length ds) refl

pub endian_listed : (o : Endian) (ds : List ℕ) → (listed o ds).endian ≡ o
unfolding listed
endian_listed o ds = refl

pub count_listed : (o : Endian) (ds : List ℕ) → (listed o ds).count ≡ length ds
unfolding listed
count_listed o ds = refl

-- the place of one of them
pub place_listed : (o : Endian) (ds : List ℕ) (k : ℕ) → k < length ds → get_or (listed o ds).places k 0 ≡ get_or ds k 0
unfolding listed
place_listed o ds k h = get_or_append_left ds (replicate (32 - length ds) 0) 0 k h

-- an array of which n places are noted, over zeros
pub listed_array : (o : Endian) (xs : List ℕ) (n : ℕ) → length xs ≡ 32 → n ≤ 32 → drop n xs ≡ drop n (replicate 32 0) → record { endian = o; count = n; places = xs } ≡ listed o (take n xs)
unfolding listed
listed_array o xs n l h e =
    let t : length (take n xs) ≡ n = length-take-le n xs (omega arith) in
    let r : xs ≡ take n xs ++ replicate (32 - length (take n xs)) 0 =
    sym (take-append-drop n xs)
    ∙ ap (λ ys. take n xs ++ ys) (e ∙ drop-replicate n 32 0 ∙ ap (λ m. replicate (32 - m) 0) (sym t)) in
    ap (λ m. record { endian = o; count = m; places = xs }) (sym t) ∙ ap (λ ys. record { endian = o; count = length (take n xs); places = ys }) r

-- the places ds, written over zeros
pub listed_over : (o : Endian) (ds xs : List ℕ) (n m : ℕ) → xs ≡ ds → n ≡ length ds → m ≡ length ds → record { endian = o; count = m; places = xs ++ drop n (replicate 32 0) } ≡ listed o ds
unfolding listed
listed_over o ds xs n m x e c =
    (λ i. record { endian = o; count = c i; places = x i ++ drop (e i) (replicate 32 0) })
    ∙ ap (λ ys. record { endian = o; count = length ds; places = ds ++ ys }) (drop-replicate (length ds) 32 0)

-- the stages of a walk
module _ (bs : List ℕ) where
  pub walk_err : (f : Fault) → headed bs ≡ Err f → walked bs ≡ Err f
  unfolding walked
  walk_err f a = then_err (headed bs) (λ o. linked o bs) f a

  pub walk_on : (o : Endian) → headed bs ≡ Ok o → walked bs ≡ linked o bs
  unfolding walked
  walk_on o a = then_ok (headed bs) (λ o. linked o bs) o a

  pub walk_was : (d : Directories) → walked bs ≡ Ok d → (o : Endian) × (ds : List ℕ) × (headed bs ≡ Ok o) × (chained o bs ≡ Ok ds) × (d ≡ listed o ds)
  unfolding walked
  walk_was d e =
      let t = then_was (headed bs) (λ o. linked o bs) d e in
      let u = then_was (chained t.0 bs) (λ ds. Ok (listed t.0 ds)) d t.2 in
      let q : d ≡ listed t.0 u.0 = cc u.2 in
      (t.0, u.0, t.1, u.1, q)
