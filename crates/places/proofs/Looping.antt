-- One look after another: at segments, at entries and at all extents.
use Rattle.std.proofs.Common.{◌≡◌, ℕ, zero, suc, ◌+◌, ◌-◌, ◌*◌, ◌<◌, ◌≤◌, Bool, true, false, cond, List, ◌∷◌, map, length, sym, refl, ap, ◌∙◌, add-zero, arith}
use Rattle.std.specs.List.{range_with_len}
use Rattle.octets.specs.declared.endian.Endian.{Endian}
use Rattle.entries.specs.declared.entry.Entry.{Entry}
use Rattle.entries.specs.Entries.{entry_at, entries_from, entries_of, size}
use Rattle.pages.specs.declared.layout.Layout.{Layout}
use Rattle.pages.specs.Geometry.{segments_of}
use Rattle.pages.specs.Extents.{Span, span, directory_span, segment_span, value_spans, outer, extents}
use Rattle.places.specs.Search.{passed, passed_all, passed_each, entry_span}
use Rattle.places.proofs.Entering.{passed_value, entry_passed}
use Rattle.places.proofs.Passing.{all_append}

-- the spans from k on: one more, and at the end
pub each_turn : (f : ℕ → Span) (len place k n : ℕ) → k < n
    → passed_each f len place k (n - k) ≡ passed_each f len (passed len place (f k)) (k + 1) (n - (k + 1))
unfolding passed_each passed_all
each_turn f len place k n h =
    let e : n - k ≡ suc (n - (k + 1)) = omega arith in
    ap (λ m. passed_all len place (map f (range_with_len k m))) e

pub each_end : (f : ℕ → Span) (len place k n : ℕ) → n ≤ k → passed_each f len place k (n - k) ≡ place
unfolding passed_each passed_all
each_end f len place k n h =
    let e : n - k ≡ 0 = omega arith in
    ap (λ m. passed_all len place (map f (range_with_len k m))) e

-- the values of an entry, and then those of the others
value_first : (n len place : ℕ) (e : Entry) (es : List Entry) → passed_all len place (value_spans n (e ∷ es)) ≡ passed_all len (passed_value n len place e) (value_spans n es)
unfolding value_spans passed_all
value_first n len place e es = by (outer n e)
  where
    by : (b : Bool) → passed_all len place (cond b (span e.values (size e) ∷ value_spans n es) (value_spans n es))
        ≡ passed_all len (cond b (passed len place (span e.values (size e))) place) (value_spans n es)
    by true = refl
    by false = refl

-- the values of the entries of a directory, by their numbers
pub values_passed : (o : Endian) (bs : List ℕ) (len base n place k : ℕ)
    → passed_each (λ i. entry_span o bs (base + 12 * i)) len place k n ≡ passed_all len place (value_spans (length bs) (entries_from n o bs (base + 12 * k)))
unfolding passed_each passed_all value_spans
values_passed o bs len base zero place k = refl
values_passed o bs len base (suc n) place k =
    let at : ℕ = base + 12 * k in
    let p : base + 12 * (k + 1) ≡ at + 12 = omega arith in
    values_passed o bs len base n (passed len place (entry_span o bs at)) (k + 1)
    ∙ ap (λ q. passed_all len (passed len place (entry_span o bs at)) (value_spans (length bs) (entries_from n o bs q))) p
    ∙ ap (λ q. passed_all len q (value_spans (length bs) (entries_from n o bs (at + 12)))) (entry_passed o bs at (length bs) len place _ _ _ refl refl refl)
    ∙ sym (value_first (length bs) len place (entry_at o bs at) (entries_from n o bs (at + 12)))

-- the directory, the segments, and then the values of the entries
pub extents_passed : (bs : List ℕ) (l : Layout) (len place first second last : ℕ)
    → first ≡ passed len place (directory_span l.directory)
    → second ≡ passed_each (segment_span bs l) len first 0 (segments_of l)
    → last ≡ passed_each (λ k. entry_span l.directory.endian bs (l.directory.place + 2 + 12 * k)) len second 0 l.directory.entries
    → last ≡ passed_all len place (extents bs l)
unfolding extents passed_each passed_all
extents_passed bs l len place first second last d s v =
    let segments : List Span = map (segment_span bs l) (range_with_len 0 (segments_of l)) in
    let values : List Span = value_spans (length bs) (entries_of bs l.directory) in
    v ∙ values_passed l.directory.endian bs len (l.directory.place + 2) l.directory.entries second 0
    ∙ ap (λ q. passed_all len second (value_spans (length bs) (entries_from l.directory.entries l.directory.endian bs q))) (add-zero (l.directory.place + 2))
    ∙ ap (λ q. passed_all len q values) (s ∙ ap (λ q. passed_all len q segments) d)
    ∙ sym (all_append len (passed len place (directory_span l.directory)) segments values)
