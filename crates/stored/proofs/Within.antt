-- The bytes of a pixel lie within the needed bytes of its segment.
use Rattle.std.proofs.Common.{◌≡◌, ℕ, suc, ◌+◌, ◌-◌, ◌*◌, ◌/◌, ◌%◌, ◌<◌, ◌≤◌, min, true, sym, ap, subst, mul-le-mul_right, mod-lt, suc-mul, div-lt_iff_lt-mul, div-add-mod', arith}
use native.Mathlib.Nat.{lt-div-mul-add}
use lib.Arith.{digits_lt, digits_div}
use Rattle.std.proofs.lemmas.Bool.{cond_both, eqb-true}
use Rattle.octets.specs.Rows.{ceil, per_byte, packed_size}
use Rattle.octets.proofs.Rows.{sample_within}
use Rattle.raster.specs.declared.grid.Photometric.{Photometric}
use Rattle.raster.specs.declared.grid.Photometric.TheVariants.{WhiteIsZero, BlackIsZero, Rgb}
use Rattle.raster.specs.Picture.{allowed, kind_of}
use Rattle.pages.specs.declared.layout.Layout.{Layout}
use Rattle.pages.specs.Tags.{are_tiles}
use Rattle.pages.specs.Geometry.{samples_of, across, segments, segments_of, first_row, rows_of, row_bytes, needed}
use Rattle.stored.specs.Pixels.{segment_of, first_sample}
use Rattle.stored.specs.Reading.{start_of}
use Rattle.stored.specs.Sane.{Sane, allowed_bits}

ceil_covers : (n d : ℕ) → 0 < d → n ≤ ceil n d * d
ceil_covers n d z = omega (arith, lt-div-mul-add {a = n + (d - 1)} z)

div_below_ceil : (x n d : ℕ) → 0 < d → x < n → x / d < ceil n d
div_below_ceil x n d z l = (div-lt_iff_lt-mul z).1 (omega (arith, ceil_covers n d z))

-- the bytes of a pixel lie in its row
in_row : (p : Photometric) (b wide x : ℕ) → allowed (kind_of p b) ≡ true → x < wide →
    x * samples_of (kind_of p b) / per_byte b + samples_of (kind_of p b) ≤ packed_size b (wide * samples_of (kind_of p b))
in_row WhiteIsZero b wide x t l = omega (arith, sample_within (wide * 1) (x * 1) (omega arith) b (allowed_bits (kind_of WhiteIsZero b) t))
in_row BlackIsZero b wide x t l = omega (arith, sample_within (wide * 1) (x * 1) (omega arith) b (allowed_bits (kind_of BlackIsZero b) t))
in_row Rgb b wide x t l = subst (λ n. x * 3 / per_byte n + 3 ≤ packed_size n (wide * 3)) (sym (eqb-true b 8 t)) (omega arith)

module _ (l : Layout) (s : Sane l) (x y : ℕ) (inx : x < l.width) (iny : y < l.height) where
  in_across : x / l.cut.wide < across l.cut l.width
  in_across = div_below_ceil x l.width l.cut.wide s.wide.least inx

  -- a pixel lies in one of the segments
  pub in_segments : segment_of l.cut l.width x y < segments_of l
  unfolding segments
  in_segments = digits_lt (div_below_ceil y l.height l.cut.high s.high.least iny) in_across

  -- in one of its rows
  pub in_rows : y % l.cut.high < rows_of l.cut l.width l.height (segment_of l.cut l.width x y)
  in_rows =
      let c = l.cut in
      let k : ℕ = segment_of c l.width x y in
      let m : y % c.high < c.high = mod-lt y s.high.least in
      let e : first_row c l.width k ≡ y / c.high * c.high = ap (λ r. r * c.high) (digits_div (y / c.high) in_across) in
      cond_both (are_tiles c.kind) c.high (min c.high (l.height - first_row c l.width k)) (λ n. y % c.high < n)
      (λ _. m)
      (λ _. rw e (omega (arith, div-add-mod' y c.high)))

  -- and its bytes lie within the needed bytes
  pub in_needed : start_of l x y + samples_of l.kind ≤ needed l (segment_of l.cut l.width x y)
  unfolding needed
  in_needed =
      let c = l.cut in
      let size : ℕ = row_bytes c l.kind in
      let row : first_sample l x / per_byte l.kind.bits + samples_of l.kind ≤ size =
      in_row l.kind.photometric l.kind.bits c.wide (x % c.wide) s.kind (mod-lt x s.wide.least) in
      let rows : suc (y % c.high) * size ≤ rows_of c l.width l.height (segment_of c l.width x y) * size = mul-le-mul_right size in_rows in
      omega (arith, row, rows, suc-mul (y % c.high) size)
