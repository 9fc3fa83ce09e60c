-- The round trip.
use Rattle.std.proofs.Common.{◌≡◌, ℕ, ◌+◌, ◌*◌, ◌%◌, ◌<◌, ◌≤◌, ltb, List, [], ◌∷◌, ◌++◌, map, length, take, replicate, Ok, Err, sym, refl, ap, ◌∙◌, subst, ap₂, arith}
use mathlib.Core.Path.{fun_ext}
use Rattle.std.specs.List.{range_with_len}
use Rattle.std.proofs.lemmas.List.{length-append, length-replicate}
use Rattle.std.proofs.lemmas.Bool.{cond_both, and_parts, ltb-true}
use Rattle.faults.specs.declared.fault.Check.TheVariants.{Page}
use Rattle.faults.specs.Faults.{bare, then}
use Rattle.octets.specs.declared.endian.Endian.{Endian}
use Rattle.octets.specs.declared.endian.Endian.TheVariants.{Little, Big}
use Rattle.octets.specs.Numbers.{short, long, number_bytes}
use Rattle.octets.specs.Rows.{Holds, chain}
use Rattle.octets.proofs.Held.{holds_part}
use Rattle.octets.proofs.Rows.{holds_front, holds_back, holds_chain}
use Rattle.raster.specs.Picture.{Picture, Sound, within, framed, levels}
use Rattle.raster.specs.Views.{turn_by}
use Rattle.raster.proofs.Frames.{turn_one}
use Rattle.links.specs.declared.directories.Directories.{Directories}
use Rattle.links.specs.Links.{magic, listed, placed, walked}
use Rattle.links.specs.Chain.{Stands}
use Rattle.links.proofs.Accepted.{one_directory, accepted_page, accepted_no_page}
use Rattle.links.proofs.Listing.{count_listed, endian_listed, place_listed}
use Rattle.entries.specs.declared.entry.Directory.{Directory}
use Rattle.entries.specs.Entries.{entries_from, entries_of, scanned}
use Rattle.entries.specs.Fields.{gathered, fielded}
use Rattle.pages.specs.declared.layout.Layout.{Layout}
use Rattle.pages.specs.Geometry.{needed}
use Rattle.pages.specs.Pages.{values_of, laid_out}
use Rattle.pages.specs.Segments.{offset_of, filled}
use Rattle.pages.specs.Opening.{page_of, page_at, opened}
use Rattle.pages.specs.Extents.{segment_span, value_spans, extents, Covered}
use Rattle.stored.specs.Pixels.{stored, picture_of, stored_pixel}
use Rattle.pages.specs.declared.layout.SegmentKind.{SegmentKind}
use Rattle.pages.specs.Tags.{are_tiles}
use Rattle.plans.specs.declared.pieces.Pieces.{Pieces}
use Rattle.plans.specs.declared.outline.Outline.{Outline}
use Rattle.plans.specs.Outlines.{Proper, outline_of, segments_in, segment_size, entries_in, directory_size, head_size, block_size, block_layout}
use Rattle.plans.specs.Directories.{Field, directory_bytes}
use Rattle.plans.specs.Blocks.{segment, fields_in, block, block_of, header}
use Rattle.plans.proofs.Outlines.{some_segments, outline_proper}
use Rattle.blocks.proofs.Chains.{holds_self}
use Rattle.blocks.proofs.Directory.{GoodAll, Said, directory_held, entries_pass}
use Rattle.blocks.proofs.Fields.{good_fields, ascending_fields, count_fields, outers_fields, head_length}
use Rattle.blocks.proofs.Numbers.{number_held}
use Rattle.blocks.proofs.Places.{length_segment, full_length, segments_length, length_block}
use Rattle.roundtrip.specs.Laws.{Drafted, PageRoundTrip, RoundTrip, file_of, FileOpens}
use Rattle.roundtrip.proofs.Reading.{entries_by}
use Rattle.roundtrip.proofs.Page.{laid_out_lem}
use Rattle.roundtrip.proofs.Segments.{offset_read, needed_is, page_filled, pixel_back}
use Rattle.roundtrip.proofs.Spans.{Between, between_covered, between_append, between_map, between_values}

length_magic : (o : Endian) → length (magic o) ≡ 4
length_magic Little = refl
length_magic Big = refl

module _ (q : Outline) (at : ℕ → ℕ → ℕ) (place : ℕ) (bs : List ℕ) (proper : Proper q) (many : segments_in q ≤ 1024)
    (aligned : place % 512 ≡ 0) (far : 512 ≤ place) (small : length bs < 2147483648) (here : Holds bs place (block q at place)) where
  abbrev t : SegmentKind
  t = q.cut.kind

  abbrev start : ℕ
  start = place + head_size q

  abbrev layout : Layout
  layout = block_layout q place

  directory_here : Holds bs place (directory_bytes q.endian place (fields_in q place))
  unfolding block
  directory_here = holds_front bs place (directory_bytes q.endian place (fields_in q place)) (chain (segments_in q) (segment q at)) here

  segments_here : Holds bs start (chain (segments_in q) (segment q at))
  unfolding block
  segments_here = holds_back bs place start (directory_bytes q.endian place (fields_in q place)) (chain (segments_in q) (segment q at)) (ap (λ n. place + n) (head_length q place)) here

  segment_here : (k : ℕ) → k < segments_in q → Holds bs (start + k * segment_size q 0) (segment q at k)
  segment_here k m = holds_chain bs (segment q at) (segment_size q 0) start (segments_in q) k (full_length q at proper) m segments_here

  low : (k : ℕ) → k < segments_in q → start + k * segment_size q 0 < 4294967296
  low k m = omega (arith, (segment_here k m).fits)

  sizes : (k : ℕ) → k < segments_in q → segment_size q k < 4294967296
  sizes k m = omega (arith, (segment_here k m).fits, length_segment q at k)

  good : GoodAll (fields_in q place)
  good = good_fields t q start proper (some_segments q proper) many low sizes

  pub entries_few : (0 < entries_in q) × (entries_in q ≤ 64)
  entries_few = cond_both (are_tiles q.cut.kind) 13 12 (λ n. (0 < n) × (n ≤ 64)) (λ _. (omega arith, omega arith)) (λ _. (omega arith, omega arith))

  said : Said q.endian bs place (fields_in q place)
  said = directory_held q.endian bs place (fields_in q place) good (omega arith) (omega (arith, count_fields t q start, entries_few.1)) directory_here

  pub count_is : short q.endian bs place ≡ entries_in q
  count_is = said.count ∙ count_fields t q start

  pub link_is : long q.endian bs (place + 2 + 12 * entries_in q) ≡ 0
  link_is = ap (λ n. long q.endian bs (place + 2 + 12 * n)) (sym (count_fields t q start)) ∙ said.link

  abbrev directory : Directory
  directory = record { endian = q.endian; page = 0; place = place; entries = entries_in q }

  entries_are : entries_of bs directory ≡ entries_by t q place start
  entries_are = ap (λ n. entries_from n q.endian bs (place + 2)) (sym (count_fields t q start)) ∙ said.entries

  scan_passes : scanned (length bs) 0 0 (entries_by t q place start) ≡ Ok tt
  scan_passes =
      entries_pass q.endian bs 0 0 (place + 2) (place + directory_size (length (fields_in q place))) (fields_in q place) good said.values (ascending_fields t q start)
      (omega arith) (omega arith) (omega arith) (omega arith)

  fields_are : fielded bs directory ≡ Ok (gathered (entries_by t q place start))
  unfolding fielded
  fields_are =
      ap (λ es. then (scanned (length bs) 0 0 es) (λ _. Ok (gathered es))) entries_are
      ∙ ap (λ r. then r (λ _. Ok (gathered (entries_by t q place start)))) scan_passes

  pub page_opens : page_at q.endian bs 1 0 place ≡ Ok layout
  unfolding page_of block_layout
  page_opens =
      (λ i. page_of bs 1 (record { endian = q.endian; page = 0; place = place; entries = count_is i }))
      ∙ ap (λ r. then r (λ fs. then (laid_out directory 1 fs (values_of q.endian bs fs)) (λ l. filled bs l))) fields_are
      ∙ ap (λ r. then r (λ l. filled bs l)) (laid_out_lem q bs place start proper directory t refl many said.values)
      ∙ page_filled q at bs place start proper said.values low sizes (omega arith) segment_here

  -- the picture

  pub grid_is : (p : Picture) → Sound p → p.width ≡ q.width → p.height ≡ q.height → p.kind ≡ q.kind → p.at ≡ at → stored bs layout ≡ p
  unfolding block_layout
  grid_is p sound ew eh ek ea =
      let pixels : (x y : ℕ) → framed q.width q.height (stored_pixel bs layout) x y ≡ at x y = λ x y.
      cond_both (within q.width q.height x y) (stored_pixel bs layout x y) 0 (λ v. v ≡ at x y)
      (λ e. let both = and_parts (ltb x q.width) (ltb y q.height) e in
      pixel_back q at bs place start proper said.values low sizes (omega arith) segment_here x y (ltb-true x q.width both.0) (ltb-true y q.height both.1)
      (subst (λ (f : ℕ → ℕ → ℕ). f x y < levels q.kind) ea (subst (λ k. p.at x y < levels k) ek (sound.samples x y))))
      (λ e. sym (ap (λ (f : ℕ → ℕ → ℕ). f x y) (sym ea) ∙ sound.outside x y (ap₂ (λ w h. within w h x y) ew eh ∙ e))) in
      λ i. record { width = sym ew i; height = sym eh i; kind = sym ek i; at = (fun_ext (λ x. fun_ext (λ y. pixels x y)) ∙ sym ea) i }

  -- the extents

  segment_ends : (k : ℕ) → k < segments_in q → head_size q + k * segment_size q 0 + segment_size q k ≤ block_size q
  unfolding block_size
  segment_ends k m =
      let c : List ℕ = chain (segments_in q) (segment q at) in
      let h = holds_chain c (segment q at) (segment_size q 0) 0 (segments_in q) k (full_length q at proper) m (holds_self c) in
      omega (arith, h.fits, length_segment q at k, segments_length q at proper)

  spans_between : Between place (place + block_size q) (extents bs layout)
  unfolding extents block_layout block_size
  spans_between =
      let high : ℕ = place + block_size q in
      let fs : List Field = fields_in q place in (
        (omega arith, omega arith),
        between_append place high (map (segment_span bs layout) (range_with_len 0 (segments_in q))) (value_spans (length bs) (entries_of bs directory))
            (between_map place high (segment_span bs layout) 0 (segments_in q) (λ k m.
            let z : 0 + k ≡ k = omega arith in
            subst (λ j. (place ≤ offset_of bs layout j) × (offset_of bs layout j + needed layout j ≤ high)) (sym z)
            (let o = offset_read q at bs place start proper said.values low sizes (omega arith) segment_here k m in
            let n = needed_is q at bs place start proper said.values low sizes (omega arith) segment_here k in
            let e = segment_ends k m in
            (omega arith, omega arith))))
            (subst (λ es. Between place high (value_spans (length bs) es)) (sym entries_are)
            (between_values place high (length bs) (place + 2) (place + directory_size (length fs)) fs (omega arith)
            (omega (arith, outers_fields t q start, count_fields t q start)))),
      )

  pub extents_inner : (i : ℕ) → Covered (extents bs layout) i → (place ≤ i) × (i < place + block_size q)
  extents_inner i c = between_covered place (place + block_size q) (extents bs layout) spans_between i c

  -- the file

  module _ (head : Holds bs 0 (header q.endian place)) where
    magic_is : take 4 bs ≡ magic q.endian
    magic_is =
        ap (λ n. take n bs) (sym (length_magic q.endian))
        ∙ holds_part bs 0 (magic q.endian) (holds_front bs 0 (magic q.endian) (number_bytes q.endian 4 place) head)

    first_link : long q.endian bs 4 ≡ place
    first_link =
        number_held q.endian bs 4 4 place (omega (arith, here.fits))
        (holds_back bs 0 4 (magic q.endian) (number_bytes q.endian 4 place) (omega (arith, length_magic q.endian)) head)

    stands : Stands q.endian bs place
    stands = record {
      even = omega arith;
      past = omega arith;
      some = omega (arith, count_is, entries_few.0);
      few = omega (arith, count_is, entries_few.1);
      within = omega (arith, count_is, directory_here.fits, head_length q place);
    }

    pub chain_found : walked bs ≡ Ok (listed q.endian (place ∷ []))
    chain_found =
        one_directory bs q.endian place magic_is first_link stands
        (ap (λ n. long q.endian bs (place + 2 + 12 * n)) count_is ∙ link_is)

    abbrev found : Directories
    found = listed q.endian (place ∷ [])

    pub file_opens : opened bs 0 ≡ Ok layout
    unfolding opened
    file_opens =
        ap (λ r. then r (λ ds. then (placed ds 0) (λ p. page_at ds.endian bs ds.count 0 p))) chain_found
        ∙ ap (λ r. then r (λ p. page_at found.endian bs found.count 0 p)) (accepted_page bs found chain_found 0 (omega (arith, count_listed q.endian (place ∷ []))))
        ∙ (λ i. page_at (endian_listed q.endian (place ∷ []) i) bs (count_listed q.endian (place ∷ []) i) 0 (place_listed q.endian (place ∷ []) 0 (omega arith) i))
        ∙ page_opens

    pub no_other : (k : ℕ) → 0 < k → opened bs k ≡ Err (bare Page)
    unfolding opened
    no_other k l =
        ap (λ r. then r (λ ds. then (placed ds k) (λ p. page_at ds.endian bs ds.count k p))) chain_found
        ∙ ap (λ r. then r (λ p. page_at found.endian bs found.count k p)) (accepted_no_page bs found chain_found k (omega (arith, count_listed q.endian (place ∷ []))))

-- a draft has a proper outline
drafted_proper : (o : Endian) (ps : Pieces) (p : Picture) (place : ℕ) → Drafted ps p (outline_of o ps p) place → Proper (outline_of o ps p)
drafted_proper o ps p place d = outline_proper o ps p d.limits d.sound d.some

pub page_round_trip : PageRoundTrip
unfolding block_layout
page_round_trip o ps p place bs d small here =
    let q : Outline = outline_of o ps p in
    let proper = drafted_proper o ps p place d in
    let grid : stored bs (block_layout q place) ≡ p = grid_is q p.at place bs proper d.few d.aligned d.past small here p d.sound refl refl refl refl in
    record {
      page = page_opens q p.at place bs proper d.few d.aligned d.past small here;
      grid = grid;
      picture = ap (turn_by 1) grid ∙ turn_one p d.sound;
      inner = extents_inner q p.at place bs proper d.few d.aligned d.past small here;
    }

pub round_trip : RoundTrip
unfolding block_layout
round_trip o ps p place bs d small here head =
    let q : Outline = outline_of o ps p in
    let proper = drafted_proper o ps p place d in
    let page : opened bs 0 ≡ Ok (block_layout q place) = file_opens q p.at place bs proper d.few d.aligned d.past small here head in
    record {
      chain = chain_found q p.at place bs proper d.few d.aligned d.past small here head;
      page = page;
      picture = ap (λ r. then r (λ l. Ok (record { picture = picture_of bs l; orientation = l.orientation }))) page
          ∙ ap (λ x. Ok (record { picture = x; orientation = 1 })) (page_round_trip o ps p place bs d small here).picture;
      others = no_other q p.at place bs proper d.few d.aligned d.past small here head;
    }

pub smallest_file : FileOpens
smallest_file o ps p d short =
    let q : Outline = outline_of o ps p in
    let file : List ℕ = file_of o ps p in
    let here : List ℕ = block_of o ps p 512 in
    let rest : List ℕ = replicate 504 0 ++ here in
    let eight : length (header o 512) ≡ 8 = omega (arith, length-append (magic o) (number_bytes o 4 512), length_magic o) in
    let gap : length (replicate {A = ℕ} 504 0) ≡ 504 = length-replicate {A = ℕ} 504 0 in
    let len : length (file_of o ps p) ≡ 512 + block_size (outline_of o ps p) =
    omega (arith, length-append (header o 512) rest, length-append (replicate 504 0) here, length_block q p.at (drafted_proper o ps p 512 d) 512) in
    let after_head : Holds file 8 rest = holds_back file 0 8 (header o 512) rest (omega arith) (holds_self file) in
    round_trip o ps p 512 file d (omega arith)
    (holds_back file 8 512 (replicate 504 0) here (omega arith) after_head)
    (holds_front file 0 (header o 512) rest (holds_self file))
