-- The picture of an accepted page depends on the bytes of its extents alone.
use Rattle.std.proofs.Common.{◌≡◌, ℕ, ◌+◌, ◌%◌, ◌^◌, ◌<◌, ◌≤◌, Bool, cond, leb, List, length, sym, ap, ◌∙◌, subst, ap₂, add-zero, arith}
use Rattle.octets.specs.Digits.{digit}
use Rattle.octets.specs.Rows.{byte, per_byte}
use Rattle.octets.proofs.Digits.{packed_same}
use Rattle.reads.specs.Agree.{Agree}
use Rattle.reads.specs.Reads.{inside}
use Rattle.raster.specs.declared.grid.Photometric.{Photometric}
use Rattle.raster.specs.declared.grid.Photometric.TheVariants.{WhiteIsZero, BlackIsZero, Rgb}
use Rattle.raster.specs.Picture.{kind_of}
use Rattle.raster.specs.Views.{turn_by}
use Rattle.raster.proofs.Frames.{framed_same}
use Rattle.pages.specs.declared.layout.Layout.{Layout}
use Rattle.pages.specs.Geometry.{samples_of, segments_of, needed}
use Rattle.pages.specs.Segments.{offset_of}
use Rattle.pages.specs.Opening.{HasPage}
use Rattle.pages.specs.Extents.{extents, AgreeOn}
use Rattle.rules.proofs.Locality.{page_local, page_stands}
use Rattle.stored.specs.Pixels.{segment_of, first_sample, stored_pixel, stored, picture_of}
use Rattle.stored.specs.Reading.{start_of, sample_at, rgb_at, pixel_from}
use Rattle.stored.specs.Sane.{Sane, sane_parts}
use Rattle.stored.specs.Reads.{PagesWhole}
use Rattle.stored.specs.Soundness.{picture_sound}
use Rattle.stored.proofs.Accepted.{at_sane, opened_sane, has_page}
use Rattle.stored.proofs.Covering.{segment_covered, offset_same}
use Rattle.stored.proofs.Pixel.{pixel_from_lem}
use Rattle.stored.proofs.Within.{in_segments, in_needed}

inside_same : (bs cs : List ℕ) (place n : ℕ) → length bs ≡ length cs → inside bs place n ≡ inside cs place n
inside_same bs cs place n e = ap (leb (place + n)) e

sample_agrees : (bs cs : List ℕ) (b place s : ℕ) → Agree bs cs place 1 → sample_at bs b place s ≡ sample_at cs b place s
unfolding sample_at
sample_agrees bs cs b place s a = ap (λ v. digit (2 ^ b) (per_byte b) v s) (subst (λ q. byte bs q ≡ byte cs q) (add-zero place) (a 0 (omega arith)))

rgb_agrees : (bs cs : List ℕ) (place : ℕ) → length bs ≡ length cs → Agree bs cs place 3 → rgb_at bs place ≡ rgb_at cs place
unfolding rgb_at
rgb_agrees bs cs place e a =
    ap₂ (λ (b : Bool) (v : ℕ). cond b v 0) (inside_same bs cs place 3 e)
    (packed_same 256 3 (λ i. byte bs (place + i) % 256) (λ i. byte cs (place + i) % 256) (λ i l. ap (λ v. v % 256) (a i l)))

-- a pixel in bytes that agree
pub pixel_agrees : (bs cs : List ℕ) (p : Photometric) (b place s : ℕ) → length bs ≡ length cs → Agree bs cs place (samples_of (kind_of p b)) → pixel_from bs p b place s ≡ pixel_from cs p b place s
pixel_agrees bs cs WhiteIsZero b place s e a = sample_agrees bs cs b place s a
pixel_agrees bs cs BlackIsZero b place s e a = sample_agrees bs cs b place s a
pixel_agrees bs cs Rgb b place s e a = rgb_agrees bs cs place e a

module _ (bs cs : List ℕ) (l : Layout) (has : HasPage bs l) (long : length cs ≡ length bs) (agree : AgreeOn (extents bs l) bs cs) where
  proper : Sane l
  proper = sane_parts l (at_sane l.directory.endian bs l.directories l.directory.page l.directory.place l has)

  -- the offsets are the same
  pub offset_local : (k : ℕ) → k < segments_of l → offset_of bs l k ≡ offset_of cs l k
  offset_local k h = offset_same bs cs l (page_local bs cs l has long agree).1 k h

  -- and so are the pixels
  pixel_local : (x y : ℕ) → x < l.width → y < l.height → stored_pixel bs l x y ≡ stored_pixel cs l x y
  pixel_local x y inx iny =
      let k : ℕ = segment_of l.cut l.width x y in
      let few : k < segments_of l = in_segments l proper x y inx iny in
      let place : ℕ = offset_of bs l k + start_of l x y in
      let s : ℕ = first_sample l x % per_byte l.kind.bits in
      let same : offset_of bs l k ≡ offset_of cs l k = offset_local k few in
      let room : start_of l x y + samples_of l.kind ≤ needed l k = in_needed l proper x y inx iny in
      sym (pixel_from_lem bs l x y proper.kind)
      ∙ pixel_agrees bs cs l.kind.photometric l.kind.bits place s (sym long)
      (λ i m. agree (place + i) (segment_covered bs l k (place + i) few (omega arith) (omega (arith, room, m))))
      ∙ ap (λ n. pixel_from cs l.kind.photometric l.kind.bits (n + start_of l x y) s) same
      ∙ pixel_from_lem cs l x y proper.kind

  pub stored_local : stored bs l ≡ stored cs l
  stored_local = λ i. record {
    width = l.width;
    height = l.height;
    kind = l.kind;
    at = framed_same l.width l.height (stored_pixel bs l) (stored_pixel cs l) pixel_local i;
  }

  pub picture_local : picture_of bs l ≡ picture_of cs l
  picture_local = ap (turn_by l.orientation) stored_local

-- the bytes of each pixel of an accepted page lie in the file
pub pages_whole : PagesWhole
pages_whole bs page l e =
    let t = opened_sane bs page l e in
    let s : Sane l = sane_parts l t in
    record {
      limits = t;
      sound = picture_sound bs l t;
      inside = λ x y inx iny.
          let k : ℕ = segment_of l.cut l.width x y in
          omega (arith, in_needed l s x y inx iny, ((has_page bs l (page_stands bs page l e)).segments k (in_segments l s x y inx iny)).within);
    }
