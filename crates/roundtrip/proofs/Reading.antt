-- What the fields of a block are read as.
use Rattle.std.proofs.Common.{◌≡◌, ℕ, ◌+◌, ◌*◌, ◌<◌, Bool, true, false, cond, ltb, leb, List, [], ◌∷◌, length, get_or, None, Ok, refl, ap, ◌∙◌, arith}
use Rattle.std.specs.List.{flat_map}
use Rattle.std.proofs.lemmas.List.FromFn.{length-map-range_with_len, get_or-map-range_with_len}
use Rattle.std.proofs.lemmas.Bool.{ltb-true}
use Rattle.octets.specs.Numbers.{number_bytes}
use Rattle.octets.specs.Rows.{Holds}
use Rattle.octets.proofs.Rows.{holds_at}
use Rattle.raster.specs.Picture.{number_of}
use Rattle.entries.specs.declared.entry.Entry.{Entry}
use Rattle.entries.specs.declared.fields.Fields.{Fields}
use Rattle.entries.specs.declared.fields.Form.TheVariants.{Short, Long}
use Rattle.entries.specs.Entries.{home_of}
use Rattle.entries.specs.Fields.{gathered, number_at, nth_or, count_or}
use Rattle.pages.specs.Geometry.{samples_of}
use Rattle.entries.specs.declared.entry.Directory.{Directory}
use Rattle.pages.specs.Pages.{segment_kind, complete, listing, tile_listing}
use Rattle.pages.specs.declared.layout.SegmentKind.{SegmentKind}
use Rattle.pages.specs.declared.layout.SegmentKind.TheVariants.{Strip, Tile}
use Rattle.plans.specs.declared.outline.Outline.{Outline}
use Rattle.plans.specs.Outlines.{Proper, segments_in, segment_size, directory_size, offsets_by, counts_by}
use Rattle.plans.specs.Blocks.{sample_bits, offsets_from, byte_counts, fields_by}
use Rattle.plans.proofs.Outlines.{segment_sides, samples_few}
use Rattle.blocks.proofs.Numbers.{shorts_read, longs_read}
use Rattle.blocks.proofs.Directory.{laid, HeldAll}
use Rattle.blocks.proofs.Fields.{kind_small, photometric_small, outer_bits, outer_table}

-- the fields of strips or tiles that begin at `start`, in a directory at a place
abbrev pub entries_by : SegmentKind → Outline → ℕ → ℕ → List Entry
entries_by t q place start = laid (place + 2) (place + directory_size (length (fields_by t q start))) (fields_by t q start)

abbrev pub HeldBy : SegmentKind → Outline → List ℕ → ℕ → ℕ → Type 0
HeldBy t q bs place start = HeldAll q.endian bs (place + 2) (place + directory_size (length (fields_by t q start))) (fields_by t q start)

-- the values of a page's tags, but for the cut
pub record Reads (q : Outline) (bs : List ℕ) (fs : Fields) : Type 0 where
  pub width : nth_or q.endian bs 0 0 fs.width ≡ q.width
  pub height : nth_or q.endian bs 0 0 fs.height ≡ q.height
  pub compression : nth_or q.endian bs 1 0 fs.compression ≡ 1
  pub photometric : nth_or q.endian bs 0 0 fs.photometric ≡ number_of q.kind.photometric
  pub samples : nth_or q.endian bs 1 0 fs.samples ≡ samples_of q.kind
  pub given : (d : ℕ) → count_or d fs.bits ≡ samples_of q.kind
  pub bits : (k : ℕ) → nth_or q.endian bs 1 k fs.bits ≡ cond (ltb k (samples_of q.kind)) q.kind.bits 1
  pub fill : fs.fill ≡ None
  pub planes : fs.planes ≡ None
  pub orientation : fs.orientation ≡ None

module _ (q : Outline) (bs : List ℕ) (place start : ℕ) (proper : Proper q) where
  one_short_lem : (p v : ℕ) → v < 65536 → Holds bs p (flat_map (number_bytes q.endian 2) (v ∷ [])) → number_at q.endian bs (record { form = Short; count = 1; place = p }) 0 ≡ v
  one_short_lem p v b h = shorts_read q.endian bs 1 p (v ∷ []) 0 (omega arith) b h

  one_long : (p v : ℕ) → v < 4294967296 → Holds bs p (flat_map (number_bytes q.endian 4) (v ∷ [])) → number_at q.endian bs (record { form = Long; count = 1; place = p }) 0 ≡ v
  one_long p v b h = longs_read q.endian bs 1 p (v ∷ []) 0 (omega arith) b h

  bits_length : length (sample_bits q) ≡ samples_of q.kind
  bits_length = length-map-range_with_len (λ (i : ℕ). q.kind.bits) 0 (samples_of q.kind)

  -- the bits of sample k
  bits_read : (p k : ℕ) → Holds bs p (flat_map (number_bytes q.endian 2) (sample_bits q))
      → cond (ltb k (length (sample_bits q))) (number_at q.endian bs (record { form = Short; count = length (sample_bits q); place = p }) k) 1 ≡ cond (ltb k (samples_of q.kind)) q.kind.bits 1
  bits_read p k h = same (ltb k (length (sample_bits q))) (ltb k (samples_of q.kind))
      (number_at q.endian bs (record { form = Short; count = length (sample_bits q); place = p }) k) q.kind.bits (ap (ltb k) bits_length) (λ e.
      let l : k < samples_of q.kind = ltb-true k (samples_of q.kind) e in
      let v : get_or (sample_bits q) k 0 ≡ q.kind.bits = get_or-map-range_with_len (λ (i : ℕ). q.kind.bits) 0 (samples_of q.kind) k k 0 l (omega arith) in
      shorts_read q.endian bs (length (sample_bits q)) p (sample_bits q) k (omega (arith, bits_length)) (omega (arith, v, kind_small q proper)) h ∙ v)
    where
      same : (a b : Bool) (x y : ℕ) → a ≡ b → (b ≡ true → x ≡ y) → cond a x 1 ≡ cond b y 1
      same a true x y e h = ap (λ t. cond t x 1) e ∙ h refl
      same a false x y e h = ap (λ t. cond t x 1) e

  pub fields_read : (t : SegmentKind) → HeldBy t q bs place start → Reads q bs (gathered (entries_by t q place start))
  unfolding gathered laid
  fields_read Strip h = record {
    width = one_long (place + 2 + 8) q.width (omega (arith, proper.wide)) h.0;
    height = one_long (place + 2 + 12 + 8) q.height (omega (arith, proper.high)) h.1.0;
    compression = one_short_lem (place + 2 + 12 + 12 + 12 + 8) 1 (omega arith) h.1.1.1.0;
    photometric = one_short_lem (place + 2 + 12 + 12 + 12 + 12 + 8) (number_of q.kind.photometric) (photometric_small q.kind.photometric) h.1.1.1.1.0;
    samples = one_short_lem (place + 2 + 12 + 12 + 12 + 12 + 12 + 12 + 8) (samples_of q.kind) (omega (arith, samples_few q.kind)) h.1.1.1.1.1.1.0;
    given = λ d. bits_length;
    bits = λ k. bits_read _ k h.1.1.0;
    fill = refl;
    planes = refl;
    orientation = refl;
  }
  fields_read Tile h = record {
    width = one_long (place + 2 + 8) q.width (omega (arith, proper.wide)) h.0;
    height = one_long (place + 2 + 12 + 8) q.height (omega (arith, proper.high)) h.1.0;
    compression = one_short_lem (place + 2 + 12 + 12 + 12 + 8) 1 (omega arith) h.1.1.1.0;
    photometric = one_short_lem (place + 2 + 12 + 12 + 12 + 12 + 8) (number_of q.kind.photometric) (photometric_small q.kind.photometric) h.1.1.1.1.0;
    samples = one_short_lem (place + 2 + 12 + 12 + 12 + 12 + 12 + 8) (samples_of q.kind) (omega (arith, samples_few q.kind)) h.1.1.1.1.1.0;
    given = λ d. bits_length;
    bits = λ k. bits_read _ k h.1.1.0;
    fill = refl;
    planes = refl;
    orientation = refl;
  }

  -- where the offsets and the byte counts stand
  home_same : (a b m n c d : ℕ) → a ≡ b → m ≡ n → c ≡ d → home_of a (4 * m) c ≡ home_of b (4 * n) d
  home_same a b m n c d e f g = λ i. home_of (e i) (4 * f i) (g i)

  offsets_length : length (offsets_from q start) ≡ segments_in q
  offsets_length = length-map-range_with_len (λ k. start + k * segment_size q 0) 0 (segments_in q)

  counts_length : length (byte_counts q) ≡ segments_in q
  counts_length = length-map-range_with_len (segment_size q) 0 (segments_in q)

  abbrev first_outer : ℕ → ℕ
  first_outer out = out + 0 + 0 + cond (leb (2 * length (sample_bits q)) 4) 0 (2 * length (sample_bits q)) + 0 + 0

  abbrev table_outer : List ℕ → ℕ
  table_outer ns = cond (leb (4 * length ns) 4) 0 (4 * length ns)

  strip_offsets : home_of (place + 2 + 12 + 12 + 12 + 12 + 12) (4 * length (offsets_from q start)) (first_outer (place + 150)) ≡ (offsets_by Strip q place).place
  strip_offsets = home_same _ _ _ _ _ _ (omega arith) offsets_length (omega (arith, outer_bits q))

  strip_counts : home_of (place + 2 + 12 + 12 + 12 + 12 + 12 + 12 + 12 + 12) (4 * length (byte_counts q)) (first_outer (place + 150) + table_outer (offsets_from q start) + 0 + 0) ≡ (counts_by Strip q place).place
  strip_counts = home_same _ _ _ _ _ _ (omega arith) counts_length
      (omega (arith, outer_bits q, outer_table 273 (segments_in q) (λ k. start + k * segment_size q 0)))

  tile_offsets : home_of (place + 2 + 12 + 12 + 12 + 12 + 12 + 12 + 12 + 12 + 12 + 12 + 12) (4 * length (offsets_from q start)) (first_outer (place + 162) + 0 + 8 + 8 + 0 + 0 + 0) ≡ (offsets_by Tile q place).place
  tile_offsets = home_same _ _ _ _ _ _ (omega arith) offsets_length (omega (arith, outer_bits q))

  tile_counts : home_of (place + 2 + 12 + 12 + 12 + 12 + 12 + 12 + 12 + 12 + 12 + 12 + 12 + 12) (4 * length (byte_counts q)) (first_outer (place + 162) + 0 + 8 + 8 + 0 + 0 + 0 + table_outer (offsets_from q start)) ≡ (counts_by Tile q place).place
  tile_counts = home_same _ _ _ _ _ _ (omega arith) counts_length
      (omega (arith, outer_bits q, outer_table 324 (segments_in q) (λ k. start + k * segment_size q 0)))

  pub offsets_held : (t : SegmentKind) → HeldBy t q bs place start → Holds bs (offsets_by t q place).place (flat_map (number_bytes q.endian 4) (offsets_from q start))
  offsets_held Strip h = holds_at bs _ _ (flat_map (number_bytes q.endian 4) (offsets_from q start)) strip_offsets h.1.1.1.1.1.0
  offsets_held Tile h = holds_at bs _ _ (flat_map (number_bytes q.endian 4) (offsets_from q start)) tile_offsets h.1.1.1.1.1.1.1.1.1.1.1.0

  pub counts_held : (t : SegmentKind) → HeldBy t q bs place start → Holds bs (counts_by t q place).place (flat_map (number_bytes q.endian 4) (byte_counts q))
  counts_held Strip h = holds_at bs _ _ (flat_map (number_bytes q.endian 4) (byte_counts q)) strip_counts h.1.1.1.1.1.1.1.1.0
  counts_held Tile h = holds_at bs _ _ (flat_map (number_bytes q.endian 4) (byte_counts q)) tile_counts h.1.1.1.1.1.1.1.1.1.1.1.1.0

  -- the page lacks no tag
  pub listing_read : (t : SegmentKind) (d : Directory) → complete d (gathered (entries_by t q place start)) ≡ Ok (record { offsets = offsets_by t q place; counts = counts_by t q place })
  unfolding gathered laid complete listing tile_listing
  listing_read Strip d = λ i. Ok (record {
    offsets = record { form = Long; count = offsets_length i; place = strip_offsets i };
    counts = record { form = Long; count = counts_length i; place = strip_counts i };
  })
  listing_read Tile d = λ i. Ok (record {
    offsets = record { form = Long; count = offsets_length i; place = tile_offsets i };
    counts = record { form = Long; count = counts_length i; place = tile_counts i };
  })

  pub kind_read : (t : SegmentKind) → segment_kind (gathered (entries_by t q place start)) ≡ t
  unfolding gathered laid
  kind_read Strip = refl
  kind_read Tile = refl

  -- the sides of strips, and of tiles
  pub rows_read : (d : ℕ) → HeldBy Strip q bs place start → nth_or q.endian bs d 0 (gathered (entries_by Strip q place start)).rows ≡ q.cut.high
  unfolding gathered laid
  rows_read d h = one_long (place + 2 + 12 + 12 + 12 + 12 + 12 + 12 + 12 + 8) q.cut.high (omega (arith, (segment_sides q proper).high)) h.1.1.1.1.1.1.1.0

  pub across_read : HeldBy Tile q bs place start → nth_or q.endian bs 0 0 (gathered (entries_by Tile q place start)).across ≡ q.cut.wide
  unfolding gathered laid
  across_read h = one_long (place + 2 + 12 + 12 + 12 + 12 + 12 + 12 + 12 + 12 + 12 + 8) q.cut.wide (omega (arith, (segment_sides q proper).wide)) h.1.1.1.1.1.1.1.1.1.0

  pub down_read : HeldBy Tile q bs place start → nth_or q.endian bs 0 0 (gathered (entries_by Tile q place start)).down ≡ q.cut.high
  unfolding gathered laid
  down_read h = one_long (place + 2 + 12 + 12 + 12 + 12 + 12 + 12 + 12 + 12 + 12 + 12 + 8) q.cut.high (omega (arith, (segment_sides q proper).high)) h.1.1.1.1.1.1.1.1.1.1.0
