-- The bytes of one RGB pixel.
use Rattle.std.proofs.Common.{◌≡◌, ℕ, ◌+◌, ◌-◌, ◌/◌, ◌%◌, ◌<◌, Some, None, Option, ap, ◌∙◌, arith}
use native.Mathlib.Nat.{mod-le}
use Rattle.raster.specs.Picture.{framed}
use Rattle.pages.specs.Geometry.{first_column, first_row, row_bytes}
use Rattle.plans.specs.declared.outline.Outline.{Outline}
use Rattle.plans.specs.Outlines.{Proper, segment_size}
use Rattle.plans.proofs.Outlines.{segment_positive, row_positive}
use Rattle.writer.specs.Spots.{spot_of}
use Rattle.writer.specs.Painting.{colour_at, Known, Shared}
use Rattle.writer.proofs.Samples.{before}

-- the pixel at column x, row y of segment k
abbrev pixel_by : Outline → (ℕ → ℕ → ℕ) → ℕ → ℕ → ℕ → ℕ
pixel_by q at k y x = framed q.width q.height at (first_column q.cut q.width k + x) (first_row q.cut q.width k + y)

-- a byte that is not the first of its pixel has the pixel of the byte before
same_colour : (q : Outline) (at : ℕ → ℕ → ℕ) → Proper q → (j : ℕ) → 0 < (spot_of q j).byte % 3 → colour_at q at (j - 1) ≡ colour_at q at j
same_colour q at proper j l =
    let size : ℕ = segment_size q 0 in
    let row : ℕ = row_bytes q.cut q.kind in
    let inner : ℕ = j % segment_size q 0 in
    let c : ℕ = j % segment_size q 0 % row_bytes q.cut q.kind in
    let some_c : 0 < j % segment_size q 0 % row_bytes q.cut q.kind = omega (arith, mod-le c 3) in
    let some_inner : 0 < j % segment_size q 0 = omega (arith, mod-le inner row) in
    let a = before j size (segment_positive q proper) some_inner in
    let b = before inner row (row_positive q proper) some_c in
    let third : (c - 1) / 3 ≡ c / 3 = omega arith in
    let y : (j - 1) % segment_size q 0 / row_bytes q.cut q.kind ≡ j % segment_size q 0 / row_bytes q.cut q.kind = ap (λ m. m / row_bytes q.cut q.kind) a.1 ∙ b.0 in
    let x : (j - 1) % segment_size q 0 % row_bytes q.cut q.kind / 3 ≡ j % segment_size q 0 % row_bytes q.cut q.kind / 3 =
    ap (λ m. m % row_bytes q.cut q.kind / 3) a.1 ∙ ap (λ m. m / 3) b.1 ∙ third in
    λ i. pixel_by q at (a.0 i) (y i) (x i)

pub known_shared : (q : Outline) (at : ℕ → ℕ → ℕ) → Proper q → (last : Option ℕ) (j : ℕ) → Known q at last j → Shared q at last (spot_of q j)
known_shared q at proper None j k = tt
known_shared q at proper (Some v) j k = λ l. k.1 ∙ same_colour q at proper j l

pub known_next : (q : Outline) (at : ℕ → ℕ → ℕ) (v j : ℕ) → v ≡ colour_at q at j → Known q at (Some v) (j + 1)
known_next q at v j e =
    let back : j ≡ j + 1 - 1 = omega arith in
    (omega arith, e ∙ ap (colour_at q at) back)
