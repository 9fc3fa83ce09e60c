-- The directories of a file depend on its header and on their counts and links alone.
use Rattle.std.proofs.Common.{◌≡◌, ℕ, zero, suc, ◌+◌, ◌*◌, ◌<◌, ◌≤◌, min, List, length, get_or, take, Ok, sym, ap, ◌∙◌, subst, zero-add, arith}
use Rattle.std.proofs.lemmas.List.{ext_get_or, get_or-take, length-take}
use Rattle.octets.specs.declared.endian.Endian.{Endian}
use Rattle.octets.specs.Numbers.{short, long}
use Rattle.octets.specs.Rows.{byte}
use Rattle.reads.specs.Agree.{Agree}
use Rattle.reads.proofs.Agreeing.{short_agrees, long_agrees, agree_in}
use Rattle.links.specs.declared.directories.Directories.{Directories}
use Rattle.links.specs.Links.{entries_end, places_of}
use Rattle.links.specs.Chain.{Stands, link_of, link_to, WellLinked, ChainLocal}
use Rattle.links.proofs.Found.{walked_linked, linked_found}

same_head : (bs cs : List ℕ) → length bs ≡ length cs → Agree bs cs 0 8 → take 4 bs ≡ take 4 cs
same_head bs cs l a =
    ext_get_or 0 (take 4 bs) (take 4 cs) (length-take 4 bs ∙ ap (min 4) l ∙ sym (length-take 4 cs))
    (λ i h.
    let k : i < 4 = omega (arith, length-take 4 bs) in
    get_or-take 4 bs i 0 k ∙ subst (λ q. byte bs q ≡ byte cs q) (zero-add i) (a i (omega arith)) ∙ sym (get_or-take 4 cs i 0 k))

pub stands_same : (o : Endian) (bs cs : List ℕ) (place : ℕ) → length bs ≡ length cs → short o bs place ≡ short o cs place → Stands o bs place → Stands o cs place
stands_same o bs cs place l e s = record {
  even = s.even;
  past = s.past;
  some = subst (λ n. 1 ≤ n) e s.some;
  few = subst (λ n. n ≤ 64) e s.few;
  within = subst (λ n. place + 6 + 12 * n ≤ length cs) e (subst (λ n. place + 6 + 12 * short o bs place ≤ n) l s.within);
}

module _ (bs cs : List ℕ) (o : Endian) (ds : List ℕ) (l : length bs ≡ length cs) (header : Agree bs cs 0 8)
    (counts : (k : ℕ) → k < length ds → Agree bs cs (get_or ds k 0) 2) (links : (k : ℕ) → k < length ds → Agree bs cs (link_of o bs (get_or ds k 0)) 4) where
  same_count : (k : ℕ) → k < length ds → short o bs (get_or ds k 0) ≡ short o cs (get_or ds k 0)
  same_count k h = short_agrees o bs cs (get_or ds k 0) (counts k h)

  same_link : (k : ℕ) → k ≤ length ds → long o bs (link_to o bs ds k) ≡ long o cs (link_to o cs ds k)
  same_link zero h = long_agrees o bs cs 4 (agree_in bs cs 0 8 4 4 (omega arith) (omega arith) header)
  same_link (suc k) h =
      let m : k < length ds = omega arith in
      long_agrees o bs cs (link_of o bs (get_or ds k 0)) (links k m) ∙ ap (λ n. long o cs (entries_end (get_or ds k 0) n)) (same_count k m)

  pub linked_same : WellLinked bs o ds → WellLinked cs o ds
  linked_same w = record {
    header = sym (same_head bs cs l header) ∙ w.header;
    some = w.some;
    few = w.few;
    linked = λ k h. sym (same_link k (omega arith)) ∙ w.linked k h;
    ends = sym (same_link (length ds) (omega arith)) ∙ w.ends;
    distinct = w.distinct;
    each = λ k h. stands_same o bs cs (get_or ds k 0) l (same_count k h) (w.each k h);
  }

-- a place among those that are held
place_held : (d : Directories) (k : ℕ) → k < length (places_of d) → (k < d.count) × (get_or d.places k 0 ≡ get_or (places_of d) k 0)
place_held d k h =
    let m : k < d.count = omega (arith, length-take d.count d.places) in
    (m, sym (get_or-take d.count d.places k 0 m))

pub chain_local : ChainLocal
chain_local bs cs d e s =
    let w = walked_linked bs d e in
    let o = d.endian in
    let counts : (k : ℕ) → k < length (places_of d) → Agree bs cs (get_or (places_of d) k 0) 2 =
    λ k h. let p = place_held d k h in subst (λ x. Agree bs cs x 2) p.1 (s.counts k p.0) in
    let links : (k : ℕ) → k < length (places_of d) → Agree bs cs (link_of o bs (get_or (places_of d) k 0)) 4 =
    λ k h. let p = place_held d k h in subst (λ x. Agree bs cs (link_of o bs x) 4) p.1 (s.links k p.0) in
    linked_found cs o (places_of d) (linked_same bs cs o (places_of d) s.long s.header counts links w.0) ∙ ap Ok (sym w.1)
