-- A page stays what it is in bytes that agree with its file on the extents.
use Rattle.std.proofs.Common.{◌≡◌, ℕ, zero, suc, ◌+◌, ◌-◌, ◌*◌, ◌<◌, ◌≤◌, true, List, [], ◌∷◌, ◌++◌, map, length, is_some, Some, None, Ok, sym, refl, ap, ◌∙◌, subst, inl, inr, arith}
use Rattle.std.specs.List.{range_with_len, AllByRecursion}
use Rattle.std.proofs.lemmas.Bool.{cond_both}
use Rattle.faults.specs.Faults.{then}
use Rattle.octets.specs.declared.endian.Endian.{Endian}
use Rattle.reads.specs.Agree.{Agree}
use Rattle.reads.proofs.Agreeing.{agree_in}
use Rattle.entries.specs.declared.entry.Directory.{Directory}
use Rattle.entries.specs.declared.entry.Entry.{Entry}
use Rattle.entries.specs.declared.fields.Fields.{Fields}
use Rattle.entries.specs.Entries.{entries_of, shape_of, scanned}
use Rattle.entries.specs.Fields.{gathered, fielded, sought, numbers_of, nth_or, count_or}
use Rattle.pages.specs.declared.layout.Layout.{Layout}
use Rattle.pages.specs.Geometry.{segments_of, needed}
use Rattle.pages.specs.Pages.{tiled, format_of, sampling_of, sides_of, values_of, laid_out}
use Rattle.pages.specs.Segments.{offset_of, byte_count_of}
use Rattle.pages.specs.Opening.{page_of}
use Rattle.pages.specs.Extents.{Span, span, directory_span, segment_span, value_spans, extents, Covered, AgreeOn}
use Rattle.pages.proofs.Stages.{page_3}
use Rattle.rules.specs.Rules.{EntryRules, SegmentRules, table_in}
use Rattle.rules.proofs.Fielding.{scanned_was, fielded_ok}
use Rattle.rules.proofs.Deciding.{filled_ok}
use Rattle.rules.proofs.Meeting.{Paged}
use Rattle.rules.proofs.Sharing.{entries_same, entries_within, all_kept, Within, Kept, Same, entry_shares, On, sought_on, nth_same}

-- spans within others
covered_back : (ss ts : List Span) (i : ℕ) → Covered ts i → Covered (ss ++ ts) i
covered_back [] ts i h = h
covered_back (s ∷ ss) ts i h = inr (covered_back ss ts i h)

-- f and g are the same below n
map_below : {A : Type 0} (f g : ℕ → A) (a n : ℕ) → ((k : ℕ) → a ≤ k → k < a + n → f k ≡ g k) → map f (range_with_len a n) ≡ map g (range_with_len a n)
map_below f g a zero h = refl
map_below f g a (suc n) h =
    let x = h a (omega arith) (omega arith) in
    let y = map_below f g (a + 1) n (λ k l m. h k (omega arith) (omega arith)) in
    λ i. x i ∷ y i

-- each of three facts of all entries
all_with : (P Q R S : Entry → Type 0) → ((e : Entry) → P e → Q e → R e → S e) → (es : List Entry) → AllByRecursion P es → AllByRecursion Q es → AllByRecursion R es → AllByRecursion S es
all_with P Q R S f [] p q r = tt
all_with P Q R S f (e ∷ es) p q r = (f e p.0 q.0 r.0, all_with P Q R S f es p.1 q.1 r.1)

module _ (bs cs : List ℕ) (l : Layout) (p : Paged bs l.directories l.directory l) (len : length cs ≡ length bs) (agree : AgreeOn (extents bs l) bs cs) where
  abbrev d : Directory
  d = l.directory

  abbrev o : Endian
  o = l.directory.endian

  abbrev es : List Entry
  es = entries_of bs l.directory

  abbrev fs : Fields
  fs = gathered (entries_of bs l.directory)

  pub directory_same : Agree bs cs d.place (6 + 12 * d.entries)
  unfolding extents
  directory_same i h = agree (d.place + i) (inl (omega arith, omega arith))

  values_kept : AgreeOn (value_spans (length bs) es) bs cs
  unfolding extents
  values_kept i h = agree i (inr (covered_back (map (segment_span bs l) (range_with_len 0 (segments_of l))) (value_spans (length bs) es) i h))

  same_entries : entries_of bs d ≡ entries_of cs d
  same_entries = entries_same o bs cs d.entries (d.place + 2) (agree_in bs cs d.place (6 + 12 * d.entries) (d.place + 2) (12 * d.entries) (omega arith) (omega arith) directory_same)

  -- the values of each listed entry
  shared : AllByRecursion (λ e. is_some (shape_of e.tag) ≡ true → Same o bs cs (numbers_of e)) es
  shared =
      let end = d.place + (6 + 12 * d.entries) in
      let a : Agree bs cs d.place (end - d.place) = agree_in bs cs d.place (6 + 12 * d.entries) d.place (end - d.place) (omega arith) (omega arith) directory_same in
      all_with (Within d.place end) (Kept bs cs (length bs)) (EntryRules (length bs)) (λ e. is_some (shape_of e.tag) ≡ true → Same o bs cs (numbers_of e))
      (λ e w k r. entry_shares o bs cs len d.place end e a w k r) es
      (entries_within o bs d.entries (d.place + 2) d.place end (omega arith) (omega arith))
      (all_kept bs cs (length bs) es values_kept)
      (scanned_was (length bs) d.page 0 es p.scanned_all).1

  by_tag : (tag : ℕ) → is_some (shape_of tag) ≡ true → (xs : List Entry) → AllByRecursion (λ e. is_some (shape_of e.tag) ≡ true → Same o bs cs (numbers_of e)) xs → AllByRecursion (λ e. e.tag ≡ tag → Same o bs cs (numbers_of e)) xs
  by_tag tag h [] a = tt
  by_tag tag h (e ∷ xs) a = ((λ q. a.0 (ap (λ t. is_some (shape_of t)) q ∙ h)), by_tag tag h xs a.1)

  under : (tag : ℕ) → is_some (shape_of tag) ≡ true → On (Same o bs cs) (sought tag es)
  under tag h = sought_on (Same o bs cs) tag es None tt (by_tag tag h es shared)

  same_format : format_of o bs fs ≡ format_of o cs fs
  unfolding format_of gathered
  same_format = λ i. record {
    compression = nth_same o bs cs 1 0 (sought 259 es) (under 259 refl) i;
    fill = nth_same o bs cs 1 0 (sought 266 es) (under 266 refl) i;
    planes = nth_same o bs cs 1 0 (sought 284 es) (under 284 refl) i;
    orientation = nth_same o bs cs 1 0 (sought 274 es) (under 274 refl) i;
  }

  same_sampling : sampling_of o bs fs ≡ sampling_of o cs fs
  unfolding sampling_of gathered
  same_sampling = λ i. record {
    photometric = nth_same o bs cs 0 0 (sought 262 es) (under 262 refl) i;
    samples = nth_same o bs cs 1 0 (sought 277 es) (under 277 refl) i;
    given = count_or (nth_same o bs cs 1 0 (sought 277 es) (under 277 refl) i) (sought 258 es);
    first = nth_same o bs cs 1 0 (sought 258 es) (under 258 refl) i;
    second = nth_same o bs cs 1 1 (sought 258 es) (under 258 refl) i;
    third = nth_same o bs cs 1 2 (sought 258 es) (under 258 refl) i;
  }

  same_sides : sides_of o bs fs ≡ sides_of o cs fs
  unfolding sides_of gathered
  same_sides =
      let h = nth_same o bs cs 0 0 (sought 257 es) (under 257 refl) in
      let r : nth_or o bs (nth_or o bs 0 0 (sought 257 es)) 0 (sought 278 es) ≡ nth_or o cs (nth_or o cs 0 0 (sought 257 es)) 0 (sought 278 es) =
      nth_same o bs cs (nth_or o bs 0 0 (sought 257 es)) 0 (sought 278 es) (under 278 refl) ∙ ap (λ n. nth_or o cs n 0 (sought 278 es)) h in
      λ i. record {
        width = nth_same o bs cs 0 0 (sought 256 es) (under 256 refl) i;
        height = h i;
        rows = r i;
        across = nth_same o bs cs 0 0 (sought 322 es) (under 322 refl) i;
        down = nth_same o bs cs 0 0 (sought 323 es) (under 323 refl) i;
      }

  same_values : values_of o bs fs ≡ values_of o cs fs
  same_values = λ i. record { format = same_format i; sampling = same_sampling i; sides = same_sides i }

  -- the offsets and byte counts
  offsets_on : On (Same o bs cs) (table_in fs).offsets
  unfolding gathered
  offsets_on = cond_both (tiled fs) fs.tiles fs.strips (λ t. On (Same o bs cs) t.offsets) (λ _. under 324 refl) (λ _. under 273 refl)

  counts_on : On (Same o bs cs) (table_in fs).counts
  unfolding gathered
  counts_on = cond_both (tiled fs) fs.tiles fs.strips (λ t. On (Same o bs cs) t.counts) (λ _. under 325 refl) (λ _. under 279 refl)

  same_offset : (k : ℕ) → k < segments_of l → offset_of bs l k ≡ offset_of cs l k
  same_offset k h =
      let at : (table_in fs).offsets ≡ Some l.offsets = p.laid.needs.offsets_there ∙ ap (λ x. Some x.offsets) p.laid.is in
      let s : Same o bs cs l.offsets = subst (On (Same o bs cs)) at offsets_on in
      s k (omega (arith, h, p.laid.tally.offsets))

  same_count : (k : ℕ) → k < segments_of l → byte_count_of bs l k ≡ byte_count_of cs l k
  same_count k h =
      let at : (table_in fs).counts ≡ Some l.counts = p.laid.needs.counts_there ∙ ap (λ x. Some x.counts) p.laid.is in
      let s : Same o bs cs l.counts = subst (On (Same o bs cs)) at counts_on in
      s k (omega (arith, h, p.laid.tally.counts))

  same_segment : (k : ℕ) → k < segments_of l → SegmentRules cs l k
  same_segment k h =
      let r = p.segments k h in
      let a = same_offset k h in
      let b = same_count k h in
      record { past = omega (arith, a, r.past); counted = omega (arith, b, r.counted); within = omega (arith, a, len, r.within) }

  same_fielded : fielded cs d ≡ Ok fs
  unfolding fielded
  same_fielded = sym (λ i. then (scanned (sym len i) d.page 0 (same_entries i)) (λ _. Ok (gathered (same_entries i)))) ∙ fielded_ok bs d p.scanned_all

  pub same_page : page_of cs l.directories d ≡ Ok l
  same_page =
      page_3 cs l.directories d fs same_fielded l (ap (laid_out d l.directories fs) (sym same_values) ∙ p.laid_out_lem)
      ∙ filled_ok cs l same_segment

  pub same_extents : extents cs l ≡ extents bs l
  unfolding extents
  same_extents =
      let m = map_below (segment_span cs l) (segment_span bs l) 0 (segments_of l) (λ k _ h. ap (λ x. span x (needed l k)) (sym (same_offset k (omega (arith, h))))) in
      λ i. directory_span d ∷ (m i ++ value_spans (len i) (sym same_entries i))
