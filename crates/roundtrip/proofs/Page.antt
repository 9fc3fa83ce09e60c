-- A page that holds the fields and the segments of a block passes every check.
use Rattle.std.proofs.Common.{◌≡◌, ℕ, ◌≤◌, min, true, cond, not, ◌&&◌, eqb, ltb, List, Ok, sym, refl, ap, ◌∙◌, ap₂, subst, arith}
use Rattle.faults.specs.declared.fault.Check.TheVariants.{Kind as KindCheck}
use Rattle.faults.specs.Faults.{then}
use Rattle.raster.specs.declared.grid.Kind.{Kind}
use Rattle.raster.specs.declared.grid.Photometric.{Photometric}
use Rattle.raster.specs.declared.grid.Photometric.TheVariants.{WhiteIsZero, BlackIsZero, Rgb}
use Rattle.raster.specs.Picture.{allowed, number_of, kind_of}
use Rattle.entries.specs.declared.entry.Directory.{Directory}
use Rattle.entries.specs.declared.fields.Fields.{Fields}
use Rattle.entries.specs.Fields.{gathered, nth_or}
use Rattle.pages.specs.declared.layout.Layout.{Layout}
use Rattle.pages.specs.declared.layout.Listing.{Listing}
use Rattle.pages.specs.declared.layout.Sampling.{Sampling}
use Rattle.pages.specs.declared.layout.Sides.{Sides}
use Rattle.pages.specs.Geometry.{samples_of}
use Rattle.pages.specs.Pages.{fault_in, segment_kind, format_of, sampling_of, sides_of, values_of, formatted, sampled, cut_of, tallied, layout_of, laid_out}
use Rattle.pages.specs.declared.layout.SegmentKind.{SegmentKind}
use Rattle.pages.specs.declared.layout.SegmentKind.TheVariants.{Strip, Tile}
use Rattle.rules.specs.Rules.{PageSide, TileSide}
use Rattle.rules.proofs.Deciding.{cut_ok, tally_ok}
use Rattle.plans.specs.declared.outline.Outline.{Outline}
use Rattle.plans.specs.Outlines.{Proper, segments_in, offsets_by, counts_by}
use Rattle.plans.proofs.Outlines.{Side, tile_limits, segment_sides}
use Rattle.blocks.proofs.Directory.{not_refused}
use Rattle.roundtrip.proofs.Reading.{entries_by, HeldBy, fields_read, listing_read, kind_read, rows_read, across_read, down_read}

-- The kind.

-- what is read of the pixels of a page of a kind
abbrev sampling_in : Kind → Sampling
sampling_in k = record {
  photometric = number_of k.photometric;
  samples = samples_of k;
  given = samples_of k;
  first = cond (ltb 0 (samples_of k)) k.bits 1;
  second = cond (ltb 1 (samples_of k)) k.bits 1;
  third = cond (ltb 2 (samples_of k)) k.bits 1;
}

kind_sampled : (d : Directory) (p : Photometric) (b : ℕ) → allowed (kind_of p b) ≡ true → sampled d (sampling_in (kind_of p b)) ≡ Ok (kind_of p b)
unfolding sampled
kind_sampled d WhiteIsZero b t = not_refused (not (allowed (kind_of WhiteIsZero b))) (fault_in KindCheck d 262) (Ok (kind_of WhiteIsZero b)) (ap not t)
kind_sampled d BlackIsZero b t = not_refused (not (allowed (kind_of BlackIsZero b))) (fault_in KindCheck d 262) (Ok (kind_of BlackIsZero b)) (ap not t)
kind_sampled d Rgb b t =
    not_refused (not (eqb b 8 && (eqb b 8 && eqb b 8))) (fault_in KindCheck d 262) (Ok (kind_of Rgb b)) (ap (λ x. not (x && (x && x))) t)

-- a side that is read as one of a page's or a tile's
page_side : {s v : ℕ} → s ≡ v → 1 ≤ v → v ≤ 16384 → PageSide s
page_side e a b = (omega (arith, e), omega (arith, e))

tile_side : {s v : ℕ} → s ≡ v → Side v → TileSide s
tile_side e v = subst TileSide (sym e) (v.least, v.most, v.whole)

module _ (q : Outline) (bs : List ℕ) (place start : ℕ) (proper : Proper q) (d : Directory) where
  abbrev fields_at : SegmentKind → Fields
  fields_at t = gathered (entries_by t q place start)

  format_read : (t : SegmentKind) → HeldBy t q bs place start → formatted d (format_of q.endian bs (fields_at t)) ≡ Ok 1
  unfolding format_of formatted
  format_read t h =
      let r = fields_read q bs place start proper t h in
      ap (formatted d)
      (λ i. record {
        compression = r.compression i;
        fill = nth_or q.endian bs 1 0 (r.fill i);
        planes = nth_or q.endian bs 1 0 (r.planes i);
        orientation = nth_or q.endian bs 1 0 (r.orientation i);
      })

  sampling_read : (t : SegmentKind) → HeldBy t q bs place start → sampled d (sampling_of q.endian bs (fields_at t)) ≡ Ok q.kind
  unfolding sampling_of
  sampling_read t h =
      let r = fields_read q bs place start proper t h in
      ap (sampled d)
      (λ i. record {
        photometric = r.photometric i;
        samples = r.samples i;
        given = r.given (nth_or q.endian bs 1 0 (fields_at t).samples) i;
        first = r.bits 0 i;
        second = r.bits 1 i;
        third = r.bits 2 i;
      })
      ∙ kind_sampled d q.kind.photometric q.kind.bits proper.kind

  cut_read : (t : SegmentKind) → q.cut.kind ≡ t → HeldBy t q bs place start → cut_of d t (sides_of q.endian bs (fields_at t)) ≡ Ok q.cut
  unfolding sides_of
  cut_read Strip e h =
      let r = fields_read q bs place start proper Strip h in
      let s : Sides = sides_of q.endian bs (fields_at Strip) in
      let rows : s.rows ≡ q.cut.high = rows_read q bs place start proper (nth_or q.endian bs 0 0 (fields_at Strip).height) h in
      let high : min q.cut.high q.height ≡ q.cut.high = omega (arith, (proper.spanned e).1) in
      cut_ok d Strip s record {
        width = page_side r.width proper.some_wide proper.wide;
        height = page_side r.height proper.some_high proper.high;
        strips = λ _. omega (arith, rows, (segment_sides q proper).some_high);
        tiles = λ z. absurd cc;
      }
      ∙ (λ i. Ok (record {
        kind = sym e i;
        wide = (r.width ∙ sym (proper.spanned e).0) i;
        high = (ap₂ min rows r.height ∙ high) i;
      }))
  cut_read Tile e h =
      let r = fields_read q bs place start proper Tile h in
      let s : Sides = sides_of q.endian bs (fields_at Tile) in
      let across : s.across ≡ q.cut.wide = across_read q bs place start proper h in
      let down : s.down ≡ q.cut.high = down_read q bs place start proper h in
      let sides = tile_limits q.cut.kind q.cut.wide q.cut.high proper.limits e in
      cut_ok d Tile s record {
        width = page_side r.width proper.some_wide proper.wide;
        height = page_side r.height proper.some_high proper.high;
        strips = λ z. absurd cc;
        tiles = λ _. (tile_side across sides.0, tile_side down sides.1);
      }
      ∙ (λ i. Ok (record { kind = sym e i; wide = across i; high = down i }))

  -- the layout that is read, with this directory
  abbrev layout_at : SegmentKind → Layout
  layout_at t = layout_of d 1 (record { width = q.width; height = q.height; rows = 0; across = 0; down = 0 })
      (record { offsets = offsets_by t q place; counts = counts_by t q place }) 1 q.kind q.cut

  pub laid_out_lem : (t : SegmentKind) → q.cut.kind ≡ t → segments_in q ≤ 1024 → HeldBy t q bs place start
      → laid_out d 1 (fields_at t) (values_of q.endian bs (fields_at t)) ≡ Ok (layout_at t)
  unfolding laid_out sides_of
  laid_out_lem t e many h =
      let r = fields_read q bs place start proper t h in
      let fs : Fields = fields_at t in
      let s : Sides = sides_of q.endian bs fs in
      let t1 : Listing = record { offsets = offsets_by t q place; counts = counts_by t q place } in
      ap (λ x. then x (λ l. then (formatted d (format_of q.endian bs fs)) (λ orientation. then (sampled d (sampling_of q.endian bs fs)) (λ kind. then (cut_of d (segment_kind fs) s) (λ cut. tallied (layout_of d 1 s l orientation kind cut)))))) (listing_read q bs place start proper t d)
      ∙ ap (λ x. then x (λ orientation. then (sampled d (sampling_of q.endian bs fs)) (λ kind. then (cut_of d (segment_kind fs) s) (λ cut. tallied (layout_of d 1 s t1 orientation kind cut))))) (format_read t h)
      ∙ ap (λ x. then x (λ kind. then (cut_of d (segment_kind fs) s) (λ cut. tallied (layout_of d 1 s t1 1 kind cut)))) (sampling_read t h)
      ∙ ap (λ x. then x (λ cut. tallied (layout_of d 1 s t1 1 q.kind cut))) (ap (λ b. cut_of d b s) (kind_read q bs place start proper t) ∙ cut_read t e h)
      ∙ ap tallied (λ i. record {
        directory = d;
        directories = 1;
        width = r.width i;
        height = r.height i;
        kind = q.kind;
        orientation = 1;
        cut = q.cut;
        offsets = offsets_by t q place;
        counts = counts_by t q place;
      })
      ∙ tally_ok (layout_at t) record { offsets = refl; counts = refl; few = many }
