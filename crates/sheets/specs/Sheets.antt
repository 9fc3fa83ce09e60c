-- What a sheet in memory shows. Assumes nothing.
use Rattle.std.specs.Prelude.{◌≡◌, ℕ, ◌+◌, ◌*◌, ◌%◌, Bool, true, cond, ◌&&◌, List, nat_le, nat_lt, slice_index}
use Rattle.std.proofs.Common.{inr, mod-lt}
use Rattle.std.proofs.lemmas.Bool.{cond_both, and_parts, ltb-true, leb-true}
use Rattle.raster.specs.Picture.{Picture, Sound, framed, empty, allowed, levels}
use Rattle.raster.specs.Soundness.{framed_below, framed_outside, levels_some, empty_sound}
use Rattle.raster.specs.declared.grid.Size.{Size}
use Rattle.raster.specs.declared.grid.Kind.{Kind}

-- pixels row by row, 0 past the last, and of each number the bits that the kind has
abbrev pub rows_of : Size → Kind → List ℕ → Picture
rows_of size kind pixels = record {
  width = size.width;
  height = size.height;
  kind = kind;
  at = framed size.width size.height (λ x y. slice_index pixels (y * size.width + x) % levels kind);
}

-- sides from 1 to 16384
abbrev pub sized : Size → Bool
sized size = (nat_lt 0 size.width && nat_le size.width 16384) && (nat_lt 0 size.height && nat_le size.height 16384)

-- empty unless the sides and the kind are those of a grid
abbrev pub sheet_of : Size → Kind → List ℕ → Picture
sheet_of size kind pixels = cond (sized size && allowed kind) (rows_of size kind pixels) empty

rows_sound : (size : Size) (kind : Kind) (pixels : List ℕ) → (sized size && allowed kind) ≡ true → Sound (rows_of size kind pixels)
rows_sound size kind pixels t =
    let f : ℕ → ℕ → ℕ = λ x y. slice_index pixels (y * size.width + x) % levels kind in
    let parts = and_parts (sized size) (allowed kind) t in
    let sides = and_parts (nat_lt 0 size.width && nat_le size.width 16384) (nat_lt 0 size.height && nat_le size.height 16384) parts.0 in
    let wide = and_parts (nat_lt 0 size.width) (nat_le size.width 16384) sides.0 in
    let high = and_parts (nat_lt 0 size.height) (nat_le size.height 16384) sides.1 in
    record {
      sides = inr (ltb-true 0 size.width wide.0, ltb-true 0 size.height high.0);
      wide = leb-true size.width 16384 wide.1;
      high = leb-true size.height 16384 high.1;
      kinds = parts.1;
      samples = framed_below size.width size.height f (levels kind) (levels_some kind) (λ x y. mod-lt (slice_index pixels (y * size.width + x)) (levels_some kind));
      outside = framed_outside size.width size.height f;
    }

pub sheet_sound : (size : Size) (kind : Kind) (pixels : List ℕ) → Sound (sheet_of size kind pixels)
sheet_sound size kind pixels =
    cond_both {A = Picture} (sized size && allowed kind) (rows_of size kind pixels) empty Sound (rows_sound size kind pixels) (λ _. empty_sound)
