-- The picture of an accepted page does not depend on the header.
use Rattle.std.proofs.Common.{◌≡◌, ℕ, ◌+◌, ◌-◌, ◌*◌, ◌%◌, ◌<◌, ◌≤◌, true, List, [], ◌∷◌, length, get_or, is_some, Some, None, Ok, Option, sym, refl, ap, ◌∙◌, subst, ⊎_elim, true≢false, arith}
use Rattle.std.specs.List.{AllByRecursion}
use Rattle.std.proofs.lemmas.Bool.{cases_lt, cond_both}
use Rattle.std.proofs.lemmas.List.{get_or-take}
use Rattle.octets.specs.declared.endian.Endian.{Endian}
use Rattle.octets.specs.Rows.{byte, per_byte}
use Rattle.reads.specs.Agree.{Agree}
use Rattle.raster.specs.Views.{turn_by}
use Rattle.raster.proofs.Frames.{framed_same}
use Rattle.links.specs.Links.{places_of}
use Rattle.links.proofs.Accepted.{accepted_count}
use Rattle.links.proofs.Found.{walked_linked}
use Rattle.entries.specs.declared.entry.Directory.{Directory}
use Rattle.entries.specs.declared.entry.Entry.{Entry}
use Rattle.entries.specs.declared.entry.Shape.{Shape}
use Rattle.entries.specs.declared.fields.Fields.{Fields}
use Rattle.entries.specs.Entries.{directory_at, entries_of, shape_of, size}
use Rattle.entries.specs.Fields.{gathered, numbers_of, number_at, sought}
use Rattle.pages.specs.declared.layout.Layout.{Layout}
use Rattle.pages.specs.Geometry.{samples_of, segments_of}
use Rattle.pages.specs.Pages.{tiled}
use Rattle.pages.specs.Segments.{offset_of}
use Rattle.pages.specs.Opening.{opened}
use Rattle.stored.specs.Pixels.{segment_of, first_sample, stored_pixel, stored, picture_of}
use Rattle.stored.specs.Reading.{start_of, pixel_from}
use Rattle.stored.specs.Sane.{Sane, sane_parts}
use Rattle.stored.proofs.Accepted.{opened_sane}
use Rattle.stored.proofs.Pixel.{pixel_from_lem}
use Rattle.stored.proofs.Local.{pixel_agrees}
use Rattle.stored.proofs.Within.{in_segments}
use Rattle.rules.specs.Rules.{EntryRules, table_in}
use Rattle.rules.proofs.Fielding.{scanned_was}
use Rattle.rules.proofs.Meeting.{Paged, page_was, Opened, opened_was}
use Rattle.rules.proofs.Sharing.{entries_within, Within, Same, entry_shares, On, sought_on}

module _ (bs cs : List ℕ) (page : ℕ) (l : Layout) (accepted : opened bs page ≡ Ok l) (len : length cs ≡ length bs) (past : (i : ℕ) → 8 ≤ i → byte bs i ≡ byte cs i) where
  was : Opened bs page l
  was = opened_was bs page l accepted

  abbrev found : Directory
  found = directory_at was.found.endian bs page (get_or was.found.places page 0)

  paged : Paged bs was.found.count found l
  paged = page_was bs was.found.count found l was.accepted

  abbrev o : Endian
  o = found.endian

  abbrev es : List Entry
  es = entries_of bs found

  agree_past : (place n : ℕ) → 8 ≤ place → Agree bs cs place n
  agree_past place n h i m = past (place + i) (omega arith)

  -- a directory stands past the header
  stands_past : 8 ≤ found.place
  stands_past =
      let ds = was.found in
      let n : length (places_of ds) ≡ ds.count = accepted_count bs ds was.walks in
      let p : get_or (places_of ds) page 0 ≡ get_or ds.places page 0 = get_or-take ds.count ds.places page 0 was.there in
      let s = (walked_linked bs ds was.walks).0.each page (omega (arith, n, was.there)) in
      omega (arith, s.past, p)

  -- and so do the values of a listed entry
  stored_past : (e : Entry) → EntryRules (length bs) e → (m : Option Shape) → shape_of e.tag ≡ m → is_some m ≡ true → 4 < size e → 8 ≤ e.values
  stored_past e r (Some s) z t h = ((r s z).stored h).past
  stored_past e r None z t h = absurd (true≢false (sym t))

  values_past : (e : Entry) → Within found.place (found.place + (6 + 12 * found.entries)) e → EntryRules (length bs) e → is_some (shape_of e.tag) ≡ true → 8 ≤ e.values
  values_past e w r s =
      ⊎_elim (stored_past e r (shape_of e.tag) refl s) (λ h. omega (arith, w.home h)) (cases_lt 4 (size e))

  shared : (e : Entry) → Within found.place (found.place + (6 + 12 * found.entries)) e → EntryRules (length bs) e → is_some (shape_of e.tag) ≡ true → Same o bs cs (numbers_of e)
  shared e w r s =
      let end = found.place + (6 + 12 * found.entries) in
      entry_shares o bs cs len found.place end e (agree_past found.place (end - found.place) stands_past) w
      (λ _. agree_past e.values (size e) (values_past e w r s)) r s

  all_shared : (tag : ℕ) → is_some (shape_of tag) ≡ true → (xs : List Entry) → AllByRecursion (Within found.place (found.place + (6 + 12 * found.entries))) xs → AllByRecursion (EntryRules (length bs)) xs
      → AllByRecursion (λ e. e.tag ≡ tag → Same o bs cs (numbers_of e)) xs
  all_shared tag h [] w r = tt
  all_shared tag h (e ∷ xs) w r = ((λ q. shared e w.0 r.0 (ap (λ t. is_some (shape_of t)) q ∙ h)), all_shared tag h xs w.1 r.1)

  under : (tag : ℕ) → is_some (shape_of tag) ≡ true → On (Same o bs cs) (sought tag es)
  under tag h =
      sought_on (Same o bs cs) tag es None tt
      (all_shared tag h es
      (entries_within o bs found.entries (found.place + 2) found.place (found.place + (6 + 12 * found.entries)) (omega arith) (omega arith))
      (scanned_was (length bs) found.page 0 es paged.scanned_all).1)

  abbrev fs : Fields
  fs = gathered (entries_of bs found)

  offsets_on : On (Same o bs cs) (table_in fs).offsets
  unfolding gathered
  offsets_on = cond_both (tiled fs) fs.tiles fs.strips (λ t. On (Same o bs cs) t.offsets) (λ _. under 324 refl) (λ _. under 273 refl)

  same_offset : (k : ℕ) → k < segments_of l → offset_of bs l k ≡ offset_of cs l k
  same_offset k h =
      let at : (table_in fs).offsets ≡ Some l.offsets = paged.laid.needs.offsets_there ∙ ap (λ x. Some x.offsets) paged.laid.is in
      let s : Same o bs cs l.offsets = subst (On (Same o bs cs)) at offsets_on in
      let e : o ≡ l.directory.endian = ap (λ x. x.directory.endian) paged.laid.is in
      subst (λ x. number_at x bs l.offsets k ≡ number_at x cs l.offsets k) e (s k (omega (arith, h, paged.laid.tally.offsets)))

  proper : Sane l
  proper = sane_parts l (opened_sane bs page l accepted)

  pixel_past : (x y : ℕ) → x < l.width → y < l.height → stored_pixel bs l x y ≡ stored_pixel cs l x y
  pixel_past x y inx iny =
      let k : ℕ = segment_of l.cut l.width x y in
      let few : k < segments_of l = in_segments l proper x y inx iny in
      let place : ℕ = offset_of bs l k + start_of l x y in
      let s : ℕ = first_sample l x % per_byte l.kind.bits in
      sym (pixel_from_lem bs l x y proper.kind)
      ∙ pixel_agrees bs cs l.kind.photometric l.kind.bits place s (sym len) (agree_past place (samples_of l.kind) (omega (arith, (paged.segments k few).past)))
      ∙ ap (λ n. pixel_from cs l.kind.photometric l.kind.bits (n + start_of l x y) s) (same_offset k few)
      ∙ pixel_from_lem cs l x y proper.kind

  -- the picture is the same in bytes that differ in the header alone
  pub picture_past : picture_of cs l ≡ picture_of bs l
  picture_past =
      let same : stored cs l ≡ stored bs l = λ i. record {
        width = l.width;
        height = l.height;
        kind = l.kind;
        at = framed_same l.width l.height (stored_pixel cs l) (stored_pixel bs l) (λ x y a b. sym (pixel_past x y a b)) i;
      } in
      ap (turn_by l.orientation) same
