-- The checks of format, kind, sides, tally and segments accept just what the rules allow.
use Rattle.std.proofs.Common.{◌≡◌, ℕ, zero, suc, ◌+◌, ◌<◌, ◌≤◌, true, false, cond, not, ◌&&◌, ◌||◌, eqb, ltb, ◌⊎◌, List, length, Ok, Decides, Result, sym, refl, ◌∙◌, subst, ⊎_elim, arith}
use Rattle.std.proofs.lemmas.Bool.{not-false, eqb-true, eqb-false, eq-eqb, ne_eqb, le-ltb, ltb-false, or_parts, or_from, or_left, or_right}
use Rattle.std.proofs.lemmas.Bool.Decides.{nat_tests, Decides-and, Decides-or, Decides-eqb, Decides-ltb, Decides-like}
use Rattle.faults.specs.declared.fault.Check.TheVariants.{Kind as KindCheck, Size, Segment}
use Rattle.faults.specs.declared.fault.Fault.{Fault}
use Rattle.faults.specs.Faults.{refused, fault}
use Rattle.raster.specs.declared.grid.Kind.{Kind}
use Rattle.raster.specs.Picture.{kind_of}
use Rattle.links.proofs.Chaining.{then_was, then_ok, passed}
use Rattle.entries.specs.declared.entry.Directory.{Directory}
use Rattle.pages.specs.declared.layout.Cut.{Cut}
use Rattle.pages.specs.declared.layout.Format.{Format}
use Rattle.pages.specs.declared.layout.Layout.{Layout}
use Rattle.pages.specs.declared.layout.Sampling.{Sampling}
use Rattle.pages.specs.declared.layout.Sides.{Sides}
use Rattle.pages.specs.declared.layout.SegmentKind.{SegmentKind}
use Rattle.pages.specs.declared.layout.SegmentKind.TheVariants.{Strip, Tile}
use Rattle.pages.specs.Tags.{are_tiles, offsets_tag}
use Rattle.pages.specs.Geometry.{segments_of, needed}
use Rattle.pages.specs.Pages.{fault_in, formatted, grey, rgb, interpreted, sampled, page_side, tile_side, tile_cut, strip_cut, cut_of, tallied}
use Rattle.pages.specs.Segments.{offset_of, byte_count_of, lacking, segment_at, segments_from, filled}
use Rattle.pages.proofs.Stages.{tallied_was}
use Rattle.rules.specs.Rules.{FormatRules, Grey, Rgb, KindRules, PageSide, TileSide, SideRules, cut_by, TallyRules, SegmentRules}

pub formatted_was : (d : Directory) (f : Format) (x : ℕ) → formatted d f ≡ Ok x → FormatRules f × (f.orientation ≡ x)
unfolding formatted
formatted_was d f x e = (
  record { compression = grind (arith, nat_tests); fill = grind (arith, nat_tests); planes = grind (arith, nat_tests); oriented = grind (arith, nat_tests); orientations = grind (arith, nat_tests) },
  grind (arith, nat_tests),
)

pub formatted_ok : (d : Directory) (f : Format) → FormatRules f → formatted d f ≡ Ok f.orientation
unfolding formatted
formatted_ok d f r = grind (arith, nat_tests)

-- the kind
decides_grey : (s : Sampling) → Decides (grey s) (Grey s)
decides_grey s =
    let bits = Decides-or (eqb s.first 1) (eqb s.first 4 || eqb s.first 8) (Decides-eqb s.first 1) (Decides-or (eqb s.first 4) (eqb s.first 8) (Decides-eqb s.first 4) (Decides-eqb s.first 8)) in
    let rest = Decides-and (eqb s.samples 1) (eqb s.first 1 || (eqb s.first 4 || eqb s.first 8)) (Decides-eqb s.samples 1) bits in
    Decides-like (grey s) (λ p. record { photometric = p.0; samples = p.1.0; bits = p.1.1 }) (λ g. (g.photometric, (g.samples, g.bits)))
    (Decides-and (ltb s.photometric 2) (eqb s.samples 1 && (eqb s.first 1 || (eqb s.first 4 || eqb s.first 8))) (Decides-ltb s.photometric 2) rest)

decides_rgb : (s : Sampling) → Decides (rgb s) (Rgb s)
decides_rgb s =
    let two = Decides-and (eqb s.second 8) (eqb s.third 8) (Decides-eqb s.second 8) (Decides-eqb s.third 8) in
    let three = Decides-and (eqb s.first 8) (eqb s.second 8 && eqb s.third 8) (Decides-eqb s.first 8) two in
    let four = Decides-and (eqb s.samples 3) (eqb s.first 8 && (eqb s.second 8 && eqb s.third 8)) (Decides-eqb s.samples 3) three in
    Decides-like (rgb s) (λ p. record { photometric = p.0; samples = p.1.0; first = p.1.1.0; second = p.1.1.1.0; third = p.1.1.1.1 })
    (λ r. (r.photometric, (r.samples, (r.first, (r.second, r.third)))))
    (Decides-and (eqb s.photometric 2) (eqb s.samples 3 && (eqb s.first 8 && (eqb s.second 8 && eqb s.third 8))) (Decides-eqb s.photometric 2) four)

decides_allowed : (s : Sampling) → Decides (grey s || rgb s) (Grey s ⊎ Rgb s)
decides_allowed s = Decides-or (grey s) (rgb s) (decides_grey s) (decides_rgb s)

module _ (d : Directory) (s : Sampling) where
  abbrev kind_in : Kind
  kind_in = kind_of (interpreted s.photometric) s.first

  abbrev third : Result Kind Fault
  third = refused (not (grey s || rgb s)) (fault_in KindCheck d 262) (Ok kind_in)

  abbrev second : Result Kind Fault
  second = refused (not (eqb s.given s.samples)) (fault_in KindCheck d 258) third

  pub sampled_was : (k : Kind) → sampled d s ≡ Ok k → KindRules s × (kind_in ≡ k)
  unfolding sampled
  sampled_was k e =
      let a = passed (not (eqb s.samples 1 || eqb s.samples 3)) (fault_in KindCheck d 277) second k e in
      let b = passed (not (eqb s.given s.samples)) (fault_in KindCheck d 258) third k a.1 in
      let c = passed (not (grey s || rgb s)) (fault_in KindCheck d 262) (Ok kind_in) k b.1 in
      let z : ◌≡◌ {A = Result Kind Fault} (Ok kind_in) (Ok k) = c.1 in (
        record { given = eqb-true s.given s.samples (not-false _ b.0); allowed = (decides_allowed s).0 (not-false _ c.0) },
        cc,
      )

  pub sampled_ok : KindRules s → sampled d s ≡ Ok kind_in
  unfolding sampled
  sampled_ok r =
      let one : (eqb s.samples 1 || eqb s.samples 3) ≡ true =
      ⊎_elim (λ g. or_left (eqb s.samples 1) (eqb s.samples 3) (eq-eqb s.samples 1 g.samples))
      (λ g. or_right (eqb s.samples 1) (eqb s.samples 3) (eq-eqb s.samples 3 g.samples)) r.allowed in
      let two = eq-eqb s.given s.samples r.given in
      let three = (decides_allowed s).1 r.allowed in
      simp (one, two, three)

-- the sides
page_side_was : (n : ℕ) → page_side n ≡ true → PageSide n
page_side_was n e = (grind (arith, nat_tests), grind (arith, nat_tests))

page_side_ok : (n : ℕ) → PageSide n → page_side n ≡ true
page_side_ok n h = grind (arith, nat_tests)

tile_side_was : (n : ℕ) → tile_side n ≡ true → TileSide n
tile_side_was n e = (grind (arith, nat_tests), grind (arith, nat_tests), grind (arith, nat_tests))

tile_side_ok : (n : ℕ) → TileSide n → tile_side n ≡ true
tile_side_ok n h = grind (arith, nat_tests)

tiles_was : (d : Directory) (s : Sides) (c : Cut) → tile_cut d s ≡ Ok c → TileSide s.across × TileSide s.down × (cut_by Tile s ≡ c)
unfolding tile_cut
tiles_was d s c e =
    let made : Result Cut Fault = Ok (cut_by Tile s) in
    let a = passed (not (tile_side s.across)) (fault_in Size d 322) (refused (not (tile_side s.down)) (fault_in Size d 323) made) c e in
    let b = passed (not (tile_side s.down)) (fault_in Size d 323) made c a.1 in
    let z : ◌≡◌ {A = Result Cut Fault} (Ok (cut_by Tile s)) (Ok c) = b.1 in
    (tile_side_was s.across (not-false _ a.0), tile_side_was s.down (not-false _ b.0), cc)

tiles_ok : (d : Directory) (s : Sides) → TileSide s.across → TileSide s.down → tile_cut d s ≡ Ok (cut_by Tile s)
unfolding tile_cut
tiles_ok d s a b =
    let x = tile_side_ok s.across a in
    let y = tile_side_ok s.down b in
    simp (x, y)

strips_was : (d : Directory) (s : Sides) (c : Cut) → strip_cut d s ≡ Ok c → (1 ≤ s.rows) × (cut_by Strip s ≡ c)
unfolding strip_cut
strips_was d s c e =
    let a = passed (eqb s.rows 0) (fault_in Size d 278) (Ok (cut_by Strip s)) c e in
    let z : ◌≡◌ {A = Result Cut Fault} (Ok (cut_by Strip s)) (Ok c) = a.1 in
    let ne = eqb-false s.rows 0 a.0 in
    (omega arith, cc)

strips_ok : (d : Directory) (s : Sides) → 1 ≤ s.rows → strip_cut d s ≡ Ok (cut_by Strip s)
unfolding strip_cut
strips_ok d s h = let x = ne_eqb s.rows 0 (λ q. omega (arith, q)) in simp x

record Cutting (kind : SegmentKind) (s : Sides) (c : Cut) : Type 0 where
  pub strips : kind ≡ Strip → 1 ≤ s.rows
  pub tiles : kind ≡ Tile → TileSide s.across × TileSide s.down
  pub is : cut_by kind s ≡ c

cutting_was : (d : Directory) (kind : SegmentKind) (s : Sides) (c : Cut) → cond (are_tiles kind) (tile_cut d s) (strip_cut d s) ≡ Ok c → Cutting kind s c
cutting_was d Tile s c e = let a = tiles_was d s c e in record { strips = λ h. absurd cc; tiles = λ _. (a.0, a.1); is = a.2 }
cutting_was d Strip s c e = let a = strips_was d s c e in record { strips = λ _. a.0; tiles = λ h. absurd cc; is = a.1 }

cutting_ok : (d : Directory) (kind : SegmentKind) (s : Sides) → SideRules kind s → cond (are_tiles kind) (tile_cut d s) (strip_cut d s) ≡ Ok (cut_by kind s)
cutting_ok d Tile s r = let a = r.tiles refl in tiles_ok d s a.0 a.1
cutting_ok d Strip s r = strips_ok d s (r.strips refl)

module _ (d : Directory) (kind : SegmentKind) (s : Sides) where
  pub cut_was : (c : Cut) → cut_of d kind s ≡ Ok c → SideRules kind s × (cut_by kind s ≡ c)
  unfolding cut_of
  cut_was c e =
      let last : Result Cut Fault = cond (are_tiles kind) (tile_cut d s) (strip_cut d s) in
      let a = passed (not (page_side s.width)) (fault_in Size d 256) (refused (not (page_side s.height)) (fault_in Size d 257) last) c e in
      let b = passed (not (page_side s.height)) (fault_in Size d 257) last c a.1 in
      let k = cutting_was d kind s c b.1 in (
        record { width = page_side_was s.width (not-false _ a.0); height = page_side_was s.height (not-false _ b.0); strips = k.strips; tiles = k.tiles },
        k.is,
      )

  pub cut_ok : SideRules kind s → cut_of d kind s ≡ Ok (cut_by kind s)
  unfolding cut_of
  cut_ok r =
      let a = page_side_ok s.width r.width in
      let b = page_side_ok s.height r.height in
      let c = cutting_ok d kind s r in
      simp (a, b, c)

-- the tally
pub tally_was : (m l : Layout) → tallied m ≡ Ok l → TallyRules m × (m ≡ l)
tally_was m l e =
    let t = tallied_was m l e in
    (record { offsets = t.1.offsets; counts = t.1.counts; few = t.1.few }, sym t.0)

pub tally_ok : (m : Layout) → TallyRules m → tallied m ≡ Ok m
unfolding tallied
tally_ok m r =
    let a : eqb m.offsets.count (segments_of m) ≡ true = eq-eqb m.offsets.count (segments_of m) r.offsets in
    let b : eqb m.counts.count (segments_of m) ≡ true = eq-eqb m.counts.count (segments_of m) r.counts in
    let c : ltb 1024 (segments_of m) ≡ false = le-ltb 1024 (segments_of m) r.few in
    simp (a, b, c)

-- the segments
module _ (bs : List ℕ) (l : Layout) where
  segment_was : (k : ℕ) → segment_at bs l k ≡ Ok tt → SegmentRules bs l k
  unfolding segment_at
  segment_was k e =
      let o = offset_of bs l k in
      let a = passed (lacking (length bs) o (byte_count_of bs l k) (needed l k)) (fault Segment l.directory.page (offsets_tag l.cut.kind) o) (Ok tt) tt e in
      let b = or_parts (ltb o 8) (ltb (byte_count_of bs l k) (needed l k) || ltb (length bs) (o + needed l k)) a.0 in
      let c = or_parts (ltb (byte_count_of bs l k) (needed l k)) (ltb (length bs) (o + needed l k)) b.1 in
      record { past = ltb-false o 8 b.0; counted = ltb-false (byte_count_of bs l k) (needed l k) c.0; within = ltb-false (length bs) (o + needed l k) c.1 }

  segment_ok : (k : ℕ) → SegmentRules bs l k → segment_at bs l k ≡ Ok tt
  unfolding segment_at
  segment_ok k r =
      let o = offset_of bs l k in
      let n : lacking (length bs) o (byte_count_of bs l k) (needed l k) ≡ false =
      or_from (ltb o 8) (ltb (byte_count_of bs l k) (needed l k) || ltb (length bs) (o + needed l k)) (le-ltb o 8 r.past)
      (or_from (ltb (byte_count_of bs l k) (needed l k)) (ltb (length bs) (o + needed l k)) (le-ltb (byte_count_of bs l k) (needed l k) r.counted) (le-ltb (length bs) (o + needed l k) r.within)) in
      simp n

  segments_was : (left k : ℕ) → segments_from left bs l k ≡ Ok tt → (j : ℕ) → j < left → SegmentRules bs l (k + j)
  unfolding segments_from
  segments_was zero k e j h = absurd (omega arith)
  segments_was (suc left) k e zero h =
      let t = then_was (segment_at bs l k) (λ _. segments_from left bs l (k + 1)) tt e in
      let z : k ≡ k + 0 = omega arith in
      subst (SegmentRules bs l) z (segment_was k t.1)
  segments_was (suc left) k e (suc j) h =
      let t = then_was (segment_at bs l k) (λ _. segments_from left bs l (k + 1)) tt e in
      let z : k + 1 + j ≡ k + suc j = omega arith in
      subst (SegmentRules bs l) z (segments_was left (k + 1) t.2 j (omega arith))

  segments_ok : (left k : ℕ) → ((j : ℕ) → j < left → SegmentRules bs l (k + j)) → segments_from left bs l k ≡ Ok tt
  unfolding segments_from
  segments_ok zero k r = refl
  segments_ok (suc left) k r =
      let z : k + 0 ≡ k = omega arith in
      then_ok (segment_at bs l k) (λ _. segments_from left bs l (k + 1)) tt (segment_ok k (subst (SegmentRules bs l) z (r 0 (omega arith))))
      ∙ segments_ok left (k + 1) (λ j h. let y : k + suc j ≡ k + 1 + j = omega arith in subst (SegmentRules bs l) y (r (suc j) (omega arith)))

  pub filled_was : (m : Layout) → filled bs l ≡ Ok m → ((k : ℕ) → k < segments_of l → SegmentRules bs l k) × (l ≡ m)
  unfolding filled
  filled_was m e =
      let t = then_was (segments_from (segments_of l) bs l 0) (λ _. Ok l) m e in
      let z : ◌≡◌ {A = Result Layout Fault} (Ok l) (Ok m) = t.2 in
      ((λ k h. let y : 0 + k ≡ k = omega arith in subst (SegmentRules bs l) y (segments_was (segments_of l) 0 t.1 k h)), cc)

  pub filled_ok : ((k : ℕ) → k < segments_of l → SegmentRules bs l k) → filled bs l ≡ Ok l
  unfolding filled
  filled_ok r =
      then_ok (segments_from (segments_of l) bs l 0) (λ _. Ok l) tt
      (segments_ok (segments_of l) 0 (λ j h. let y : j ≡ 0 + j = omega arith in subst (SegmentRules bs l) y (r j h)))
