-- A page is accepted exactly if it meets the rules.
use Rattle.std.proofs.Common.{◌≡◌, ℕ, ◌<◌, ◌||◌, leb, List, length, get_or, Ok, Result, sym, ap, ◌∙◌, subst, arith}
use Rattle.std.proofs.lemmas.List.{get_or-take}
use Rattle.std.proofs.lemmas.Bool.{leb-false, or_parts}
use Rattle.faults.specs.declared.fault.Check.TheVariants.{Page}
use Rattle.faults.specs.declared.fault.Fault.{Fault}
use Rattle.faults.specs.Faults.{bare, then}
use Rattle.raster.specs.declared.grid.Kind.{Kind}
use Rattle.raster.specs.Picture.{kind_of}
use Rattle.links.specs.declared.directories.Directories.{Directories}
use Rattle.links.specs.Links.{walked, placed, listed, places_of}
use Rattle.links.proofs.Accepted.{accepted_count, accepted_page}
use Rattle.links.proofs.Chaining.{then_was, passed}
use Rattle.links.proofs.Found.{walked_linked, linked_found}
use Rattle.links.proofs.Listing.{endian_listed, count_listed, place_listed}
use Rattle.entries.specs.declared.entry.Directory.{Directory}
use Rattle.entries.specs.declared.fields.Fields.{Fields}
use Rattle.entries.specs.declared.fields.Numbers.{Numbers}
use Rattle.entries.specs.Entries.{entries_of, directory_at, scanned}
use Rattle.entries.specs.Fields.{fielded}
use Rattle.pages.specs.declared.layout.Cut.{Cut}
use Rattle.pages.specs.declared.layout.Layout.{Layout}
use Rattle.pages.specs.declared.layout.Listing.{Listing}
use Rattle.pages.specs.declared.layout.Values.{Values}
use Rattle.pages.specs.Geometry.{segments_of}
use Rattle.pages.specs.Pages.{segment_kind, complete, formatted, sampled, cut_of, tallied, layout_of, laid_out, values_of, interpreted}
use Rattle.pages.specs.Segments.{filled}
use Rattle.pages.specs.Opening.{page_of, page_at, opened}
use Rattle.pages.proofs.Stages.{page_3, open_3}
use Rattle.rules.specs.Rules.{FormatRules, KindRules, SideRules, NeededTags, TallyRules, SegmentRules, PageRules, MeetsRules, AcceptedExactly, fields_in, layout_in, layout_by, cut_by}
use Rattle.rules.proofs.Fielding.{scanned_was, scanned_ok, fielded_was, fielded_ok}
use Rattle.rules.proofs.Needing.{complete_was, complete_ok}
use Rattle.rules.proofs.Deciding.{formatted_was, formatted_ok, sampled_was, sampled_ok, cut_was, cut_ok, tally_was, tally_ok, filled_was, filled_ok}

-- what an accepted layout was made of
pub record Laid (d : Directory) (n : ℕ) (fs : Fields) (v : Values) (l : Layout) : Type 0 where
  pub listing : Listing
  pub needs : NeededTags fs listing.offsets listing.counts
  pub format : FormatRules v.format
  pub kind : KindRules v.sampling
  pub sides : SideRules (segment_kind fs) v.sides
  pub is : layout_of d n v.sides listing v.format.orientation (kind_of (interpreted v.sampling.photometric) v.sampling.first) (cut_by (segment_kind fs) v.sides) ≡ l
  pub tally : TallyRules l

pub laid_was : (d : Directory) (n : ℕ) (fs : Fields) (v : Values) (l : Layout) → laid_out d n fs v ≡ Ok l → Laid d n fs v l
unfolding laid_out
laid_was d n fs v l e =
    let fourth : Listing → ℕ → Kind → Cut → Result Layout Fault = λ t orientation kind cut. tallied (layout_of d n v.sides t orientation kind cut) in
    let third : Listing → ℕ → Kind → Result Layout Fault = λ t orientation kind. then (cut_of d (segment_kind fs) v.sides) (fourth t orientation kind) in
    let second : Listing → ℕ → Result Layout Fault = λ t orientation. then (sampled d v.sampling) (third t orientation) in
    let a = then_was (complete d fs) (λ t. then (formatted d v.format) (second t)) l e in
    let b = then_was (formatted d v.format) (second a.0) l a.2 in
    let c = then_was (sampled d v.sampling) (third a.0 b.0) l b.2 in
    let h = then_was (cut_of d (segment_kind fs) v.sides) (fourth a.0 b.0 c.0) l c.2 in
    let f = formatted_was d v.format b.0 b.1 in
    let k = sampled_was d v.sampling c.0 c.1 in
    let s = cut_was d (segment_kind fs) v.sides h.0 h.1 in
    let t = tally_was (layout_of d n v.sides a.0 b.0 c.0 h.0) l h.2 in
    record {
      listing = a.0;
      needs = complete_was d fs a.0 a.1;
      format = f.0;
      kind = k.0;
      sides = s.0;
      is = (λ i. layout_of d n v.sides a.0 (f.1 i) (k.1 i) (s.1 i)) ∙ t.1;
      tally = subst TallyRules t.1 t.0;
    }

pub laid_ok : (d : Directory) (n : ℕ) (fs : Fields) (v : Values) (o c : Numbers) → NeededTags fs o c → FormatRules v.format → KindRules v.sampling → SideRules (segment_kind fs) v.sides
    → TallyRules (layout_of d n v.sides record { offsets = o; counts = c } v.format.orientation (kind_of (interpreted v.sampling.photometric) v.sampling.first) (cut_by (segment_kind fs) v.sides))
    → laid_out d n fs v ≡ Ok (layout_of d n v.sides record { offsets = o; counts = c } v.format.orientation (kind_of (interpreted v.sampling.photometric) v.sampling.first) (cut_by (segment_kind fs) v.sides))
unfolding laid_out
laid_ok d n fs v o c needs f k s t =
    let a = complete_ok d fs o c needs in
    let b = formatted_ok d v.format f in
    let e = sampled_ok d v.sampling k in
    let h = cut_ok d (segment_kind fs) v.sides s in
    let m = tally_ok _ t in
    simp (a, b, e, h, m)

-- what an accepted page was made of
pub record Paged (bs : List ℕ) (n : ℕ) (d : Directory) (l : Layout) : Type 0 where
  pub scanned_all : scanned (length bs) d.page 0 (entries_of bs d) ≡ Ok tt
  pub laid : Laid d n (fields_in bs d) (values_of d.endian bs (fields_in bs d)) l
  pub laid_out_lem : laid_out d n (fields_in bs d) (values_of d.endian bs (fields_in bs d)) ≡ Ok l
  pub segments : (k : ℕ) → k < segments_of l → SegmentRules bs l k

pub page_was : (bs : List ℕ) (n : ℕ) (d : Directory) (l : Layout) → page_of bs n d ≡ Ok l → Paged bs n d l
unfolding page_of
page_was bs n d l e =
    let a = then_was (fielded bs d) (λ fs. then (laid_out d n fs (values_of d.endian bs fs)) (λ m. filled bs m)) l e in
    let g = fielded_was bs d a.0 a.1 in
    let b = then_was (laid_out d n a.0 (values_of d.endian bs a.0)) (λ m. filled bs m) l a.2 in
    let f = filled_was bs b.0 l b.2 in
    let laid : laid_out d n (fields_in bs d) (values_of d.endian bs (fields_in bs d)) ≡ Ok l = ap (λ fs. laid_out d n fs (values_of d.endian bs fs)) g.1 ∙ b.1 ∙ ap Ok f.1 in
    record {
      scanned_all = g.0;
      laid = laid_was d n (fields_in bs d) (values_of d.endian bs (fields_in bs d)) l laid;
      laid_out_lem = laid;
      segments = subst (λ m. (k : ℕ) → k < segments_of m → SegmentRules bs m k) f.1 f.0;
    }

rules_of : (bs : List ℕ) (n : ℕ) (d : Directory) (l : Layout) → Paged bs n d l → (r : PageRules bs n d) × (layout_in bs n d r.offsets r.counts ≡ l)
rules_of bs n d l p =
    let s = scanned_was (length bs) d.page 0 (entries_of bs d) p.scanned_all in
    let x = p.laid in (
      record {
        ascending = s.0;
        fields = s.1;
        offsets = x.listing.offsets;
        counts = x.listing.counts;
        needs = x.needs;
        format = x.format;
        kind = x.kind;
        sides = x.sides;
        tally = subst TallyRules (sym x.is) x.tally;
        segments = subst (λ m. (k : ℕ) → k < segments_of m → SegmentRules bs m k) (sym x.is) p.segments;
      },
      x.is,
    )

page_ok : (bs : List ℕ) (n : ℕ) (d : Directory) (r : PageRules bs n d) → page_of bs n d ≡ Ok (layout_in bs n d r.offsets r.counts)
page_ok bs n d r =
    let a = fielded_ok bs d (scanned_ok (length bs) d.page 0 (entries_of bs d) r.ascending r.fields) in
    let b = laid_ok d n (fields_in bs d) (values_of d.endian bs (fields_in bs d)) r.offsets r.counts r.needs r.format r.kind r.sides r.tally in
    page_3 bs n d (fields_in bs d) a (layout_in bs n d r.offsets r.counts) b ∙ filled_ok bs (layout_in bs n d r.offsets r.counts) r.segments

-- an opened page and its directory
pub record Opened (bs : List ℕ) (page : ℕ) (l : Layout) : Type 0 where
  pub found : Directories
  pub walks : walked bs ≡ Ok found
  pub there : page < found.count
  pub accepted : page_at found.endian bs found.count page (get_or found.places page 0) ≡ Ok l

pub opened_was : (bs : List ℕ) (page : ℕ) (l : Layout) → opened bs page ≡ Ok l → Opened bs page l
unfolding opened
opened_was bs page l e =
    let a = then_was (walked bs) (λ ds. then (placed ds page) (λ place. page_at ds.endian bs ds.count page place)) l e in
    let ds = a.0 in
    let b = then_was (placed ds page) (λ place. page_at ds.endian bs ds.count page place) l a.2 in
    let c = passed (leb ds.count page || leb 32 page) (bare Page) (Ok (get_or ds.places page 0)) b.0 b.1 in
    let z : ◌≡◌ {A = Result ℕ Fault} (Ok (get_or ds.places page 0)) (Ok b.0) = c.1 in
    let w : get_or ds.places page 0 ≡ b.0 = cc in
    let h = or_parts (leb ds.count page) (leb 32 page) c.0 in
    record {
      found = ds;
      walks = a.1;
      there = leb-false ds.count page h.0;
      accepted = ap (page_at ds.endian bs ds.count page) w ∙ b.2;
    }

meets : (bs : List ℕ) (page : ℕ) (l : Layout) → opened bs page ≡ Ok l → (m : MeetsRules bs page) × (layout_by bs page m ≡ l)
meets bs page l e =
    let x = opened_was bs page l e in
    let ds = x.found in
    let n : length (places_of ds) ≡ ds.count = accepted_count bs ds x.walks in
    let p : get_or (places_of ds) page 0 ≡ get_or ds.places page 0 = get_or-take ds.count ds.places page 0 x.there in
    let here : page_at ds.endian bs (length (places_of ds)) page (get_or (places_of ds) page 0) ≡ Ok l = (λ i. page_at ds.endian bs (n i) page (p i)) ∙ x.accepted in
    let d : Directory = directory_at ds.endian bs page (get_or (places_of ds) page 0) in
    let r = rules_of bs (length (places_of ds)) d l (page_was bs (length (places_of ds)) d l here) in (
      record { order = ds.endian; places = places_of ds; linked = (walked_linked bs ds x.walks).0; there = omega (arith, n, x.there); rules = r.0 },
      r.1,
    )

accepts : (bs : List ℕ) (page : ℕ) (m : MeetsRules bs page) → opened bs page ≡ Ok (layout_by bs page m)
accepts bs page m =
    let ds = listed m.order m.places in
    let w = linked_found bs m.order m.places m.linked in
    let n = count_listed m.order m.places in
    let p = place_listed m.order m.places page m.there in
    let o = endian_listed m.order m.places in
    let h : page < ds.count = omega (arith, n, m.there) in
    open_3 bs page ds w (get_or ds.places page 0) (accepted_page bs ds w page h)
    ∙ (λ i. page_at (o i) bs (n i) page (p i))
    ∙ page_ok bs (length m.places) (directory_at m.order bs page (get_or m.places page 0)) m.rules

pub accepted_exactly : (bs : List ℕ) (page : ℕ) → AcceptedExactly bs page
accepted_exactly bs page = record { sound = meets bs page; complete = accepts bs page }
