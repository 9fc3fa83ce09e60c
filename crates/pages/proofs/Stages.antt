-- The stages of a page's checks, one after another.
use Rattle.std.proofs.Common.{◌≡◌, ℕ, ◌+◌, ◌*◌, ◌≤◌, not, ◌||◌, eqb, ltb, leb, List, length, get_or, Ok, Err, Result, sym, ap, ◌∙◌, subst, arith}
use Rattle.std.proofs.lemmas.Bool.{not-false, eqb-true, or_parts, leb-false, ltb-false}
use Rattle.faults.specs.declared.fault.Fault.{Fault}
use Rattle.faults.specs.declared.fault.Check.TheVariants.{Page, Tally}
use Rattle.faults.specs.Faults.{bare, refused, then}
use Rattle.octets.specs.Numbers.{short}
use Rattle.octets.specs.declared.endian.Endian.{Endian}
use Rattle.reads.specs.Reads.{short_at}
use Rattle.reads.proofs.Parts.{short_inside}
use Rattle.links.proofs.Chaining.{then_was, passed}
use Rattle.links.proofs.Accepted.{accepted_stands}
use Rattle.links.specs.Chain.{Stands}
use Rattle.links.specs.declared.directories.Directories.{Directories}
use Rattle.links.specs.Links.{walked, placed}
use Rattle.entries.specs.declared.entry.Directory.{Directory}
use Rattle.entries.specs.declared.fields.Fields.{Fields}
use Rattle.entries.specs.Fields.{fielded}
use Rattle.pages.specs.declared.layout.Layout.{Layout}
use Rattle.pages.specs.declared.layout.Values.{Values}
use Rattle.pages.specs.Geometry.{segments_of}
use Rattle.pages.specs.Pages.{laid_out, values_of, tallied, complete, formatted, sampled, cut_of, segment_kind, layout_of, fault_in}
use Rattle.pages.specs.Tags.{offsets_tag, counts_tag}
use Rattle.pages.specs.Segments.{filled}
use Rattle.pages.specs.Opening.{page_of, page_at, opened}

module _ (bs : List ℕ) (directories : ℕ) (d : Directory) where
  pub page_1 : (f : Fault) → fielded bs d ≡ Err f → page_of bs directories d ≡ Err f
  unfolding page_of
  page_1 f a = simp a

  module _ (fs : Fields) (a : fielded bs d ≡ Ok fs) where
    pub page_2 : (f : Fault) → laid_out d directories fs (values_of d.endian bs fs) ≡ Err f → page_of bs directories d ≡ Err f
    unfolding page_of
    page_2 f b = simp (a, b)

    pub page_3 : (l : Layout) → laid_out d directories fs (values_of d.endian bs fs) ≡ Ok l → page_of bs directories d ≡ filled bs l
    unfolding page_of
    page_3 l b = simp (a, b)

module _ (bs : List ℕ) (page : ℕ) where
  pub open_1 : (f : Fault) → walked bs ≡ Err f → opened bs page ≡ Err f
  unfolding opened
  open_1 f a = simp a

  module _ (ds : Directories) (a : walked bs ≡ Ok ds) where
    pub open_2 : (f : Fault) → placed ds page ≡ Err f → opened bs page ≡ Err f
    unfolding opened
    open_2 f b = ap (λ r. then r (λ ds. then (placed ds page) (λ place. page_at ds.endian bs ds.count page place))) a ∙ ap (λ r. then r (λ place. page_at ds.endian bs ds.count page place)) b

    pub open_3 : (place : ℕ) → placed ds page ≡ Ok place → opened bs page ≡ page_at ds.endian bs ds.count page place
    unfolding opened
    open_3 place b = ap (λ r. then r (λ ds. then (placed ds page) (λ place. page_at ds.endian bs ds.count page place))) a ∙ ap (λ r. then r (λ place. page_at ds.endian bs ds.count page place)) b

-- an accepted tally has one offset and one byte count a segment, and few segments
pub record Tallied (m : Layout) : Type 0 where
  pub offsets : m.offsets.count ≡ segments_of m
  pub counts : m.counts.count ≡ segments_of m
  pub few : segments_of m ≤ 1024

pub tallied_was : (m l : Layout) → tallied m ≡ Ok l → (l ≡ m) × Tallied m
unfolding tallied
tallied_was m l e =
    let n = segments_of m in
    let third : Result Layout Fault = refused (ltb 1024 n) (fault_in Tally m.directory (offsets_tag m.cut.kind)) (Ok m) in
    let second : Result Layout Fault = refused (not (eqb m.counts.count n)) (fault_in Tally m.directory (counts_tag m.cut.kind)) third in
    let a = passed (not (eqb m.offsets.count n)) (fault_in Tally m.directory (offsets_tag m.cut.kind)) second l e in
    let b = passed (not (eqb m.counts.count n)) (fault_in Tally m.directory (counts_tag m.cut.kind)) third l a.1 in
    let c = passed (ltb 1024 n) (fault_in Tally m.directory (offsets_tag m.cut.kind)) (Ok m) l b.1 in
    let w : l ≡ m = let z : ◌≡◌ {A = Result Layout Fault} (Ok m) (Ok l) = c.1 in cc in (
      w,
      record {
        offsets = eqb-true m.offsets.count n (not-false _ a.0);
        counts = eqb-true m.counts.count n (not-false _ b.0);
        few = ltb-false 1024 n c.0;
      },
    )

-- an accepted page has one offset a segment
pub laid_offsets : (d : Directory) (directories : ℕ) (fs : Fields) (v : Values) (l : Layout) → laid_out d directories fs v ≡ Ok l → l.offsets.count ≡ segments_of l
unfolding laid_out
laid_offsets d directories fs v l e =
    let a = then_was (complete d fs) _ l e in
    let b = then_was (formatted d v.format) _ l a.2 in
    let c = then_was (sampled d v.sampling) _ l b.2 in
    let h = then_was (cut_of d (segment_kind fs) v.sides) _ l c.2 in
    let t = tallied_was (layout_of d directories v.sides a.0 b.0 c.0 h.0) l h.2 in
    ap (λ x. x.offsets.count) t.0 ∙ t.1.offsets ∙ sym (ap segments_of t.0)

-- an accepted directory stands in the file
pub place_stands : (bs : List ℕ) (ds : Directories) (page place : ℕ) → walked bs ≡ Ok ds → placed ds page ≡ Ok place → Stands ds.endian bs place
place_stands bs ds page place w p =
    let a = passed (leb ds.count page || leb 32 page) (bare Page) (Ok (get_or ds.places page 0)) place p in
    let b = or_parts (leb ds.count page) (leb 32 page) a.0 in
    let z : ◌≡◌ {A = Result ℕ Fault} (Ok (get_or ds.places page 0)) (Ok place) = a.1 in
    let e : get_or ds.places page 0 ≡ place = cc in
    subst (λ x. Stands ds.endian bs x) e (accepted_stands bs ds w page (leb-false ds.count page b.0))

-- the number of its entries, as it is read, and that they lie in the file
pub entries_read : (o : Endian) (bs : List ℕ) (place n : ℕ) → Stands o bs place → n ≡ short_at o bs place → (n ≡ short o bs place) × (place + 2 + 12 * n ≤ length bs)
entries_read o bs place n s e =
    let f : n ≡ short o bs place = e ∙ short_inside o bs place (omega (arith, s.within)) in
    (f, omega (arith, f, s.within))
