use Rattle.std.proofs.Common.{◌≡◌, ℕ, ◌/◌, ◌%◌, ◌^◌, ◌<◌, true, List, [], ◌∷◌, length, slice_index_or, sym, ap, ◌∙◌, subst, arith}
use Rattle.std.proofs.lemmas.Bool.{cond-true}
use Rattle.std.specs.Int.{to_be_bytes, w32}
use Rattle.raster.specs.Picture.{levels}
use Rattle.raster.specs.declared.grid.Kind.{Kind}
use Rattle.pnm.specs.Netpbm.{colour, pixel_bytes}
use Rattle.pnm.proofs.Cursors.{wrote_then, wrote_as, wrote_length}
use Rattle.pnm.proofs.format.Format.put_pixel.Goals as goal

-- the bytes of an RGB pixel are the three low ones of its number
colours : (k : Kind) (v : ℕ) (bs : List ℕ) → colour k ≡ true → v < levels k → bs ≡ to_be_bytes w32 v →
    (slice_index_or bs 1 0 ∷ slice_index_or bs 2 0 ∷ slice_index_or bs 3 0 ∷ []) ≡ pixel_bytes k v
colours k v bs t below e =
    let small : v < 2 ^ 24 = subst (λ n. v < n) (cond-true (colour k) (2 ^ 24) (2 ^ k.bits) t) below in
    let top : v / 65536 % 256 ≡ v / 65536 = omega arith in
    ap (λ (l : List ℕ). slice_index_or l 1 0 ∷ slice_index_or l 2 0 ∷ slice_index_or l 3 0 ∷ []) e
    ∙ ap (λ r. r ∷ v / 256 % 256 ∷ v % 256 ∷ []) top
    ∙ sym (cond-true (colour k) _ _ t)

pub put_byte-requires-in-Pixmap : goal.put_byte-requires-in-Pixmap
put_byte-requires-in-Pixmap c =
    let bytes = ap length (colours _ _ _ c.in-Pixmap.ensures.1 c.requires.value c.to_be_bytes.ensures) in
    omega (arith, bytes, wrote_length c.put_byte.ensures)

pub put_byte-requires-in-Pixmap-2 : goal.put_byte-requires-in-Pixmap-2
put_byte-requires-in-Pixmap-2 c =
    let bytes = ap length (colours _ _ _ c.in-Pixmap.ensures.1 c.requires.value c.to_be_bytes.ensures) in
    omega (arith, bytes, wrote_length c.put_byte.ensures, wrote_length c.put_byte-in-Pixmap.ensures)

pub returns-in-Pixmap : goal.returns-in-Pixmap
returns-in-Pixmap c =
    wrote_as (colours _ _ _ c.in-Pixmap.ensures.1 c.requires.value c.to_be_bytes.ensures)
    (wrote_then c.put_byte.ensures (wrote_then c.put_byte-in-Pixmap.ensures c.put_byte-in-Pixmap-2.ensures))
