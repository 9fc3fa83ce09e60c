-- Layouts within the limits of a page. Assumes nothing.
use Rattle.std.specs.Prelude.{◌≡◌, ℕ, ◌≤◌, Bool, true, false, ◌&&◌, ◌||◌, ◌==◌, nat_le}
use Rattle.std.proofs.Common.{inl, inr, ⊎_elim, arith}
use Rattle.std.proofs.lemmas.Bool.{and_parts, or_cases, leb-true, eqb-true, false≢true}
use Rattle.octets.specs.Rows.{Bits}
use Rattle.raster.specs.declared.grid.Kind.{Kind}
use Rattle.raster.specs.declared.grid.Photometric.{Photometric}
use Rattle.raster.specs.declared.grid.Photometric.TheVariants.{WhiteIsZero, BlackIsZero, Rgb}
use Rattle.raster.specs.Picture.{allowed, kind_of}
use Rattle.pages.specs.declared.layout.Layout.{Layout}
use Rattle.pages.specs.Pages.{between, page_side}

-- an allowed kind, sides of page and segment from 1 to 16,384, and an orientation from 1 to 8
unfoldable pub sane : Layout → Bool
sane l =
    allowed l.kind
    && ((page_side l.width && page_side l.height)
    && ((page_side l.cut.wide && page_side l.cut.high)
    && between 1 8 l.orientation))

-- a number within limits
pub record Between (low high n : ℕ) : Type 0 where
  pub least : low ≤ n
  pub most : n ≤ high

-- what a sane layout is, part by part
pub record Sane (l : Layout) : Type 0 where
  pub kind : allowed l.kind ≡ true
  pub bits : Bits l.kind.bits
  pub few : Between 1 8 l.kind.bits
  pub width : Between 1 16384 l.width
  pub height : Between 1 16384 l.height
  pub wide : Between 1 16384 l.cut.wide
  pub high : Between 1 16384 l.cut.high
  pub orientation : Between 1 8 l.orientation

between_true : (low high n : ℕ) → between low high n ≡ true → Between low high n
between_true low high n t =
    let h = and_parts (nat_le low n) (nat_le n high) t in
    record { least = leb-true low n h.0; most = leb-true n high h.1 }

pub allowed_bits : (k : Kind) → allowed k ≡ true → Bits k.bits
allowed_bits k t = by k.photometric k.bits t
  where
    grey : (b : ℕ) → (b == 1 || (b == 4 || b == 8)) ≡ true → Bits b
    grey b e =
        ⊎_elim (λ h. inl (eqb-true b 1 h))
        (λ h. inr (⊎_elim (λ k. inl (eqb-true b 4 k)) (λ k. inr (eqb-true b 8 k)) (or_cases (b == 4) (b == 8) h)))
        (or_cases (b == 1) (b == 4 || b == 8) e)

    grey_only : (b : ℕ) → ((b == 1 || (b == 4 || b == 8)) || false) ≡ true → Bits b
    grey_only b e = ⊎_elim (grey b) (λ h. absurd (false≢true h)) (or_cases (b == 1 || (b == 4 || b == 8)) false e)

    by : (p : Photometric) (b : ℕ) → allowed (kind_of p b) ≡ true → Bits b
    by WhiteIsZero b e = grey_only b e
    by BlackIsZero b e = grey_only b e
    by Rgb b e = inr (inr (eqb-true b 8 e))

bits_few : (b : ℕ) → Bits b → Between 1 8 b
bits_few b (inl e) = record { least = omega arith; most = omega arith }
bits_few b (inr (inl e)) = record { least = omega arith; most = omega arith }
bits_few b (inr (inr e)) = record { least = omega arith; most = omega arith }

pub sane_parts : (l : Layout) → sane l ≡ true → Sane l
unfolding sane
sane_parts l t =
    let page : Bool = page_side l.width && page_side l.height in
    let segment : Bool = page_side l.cut.wide && page_side l.cut.high in
    let turn : Bool = between 1 8 l.orientation in
    let a = and_parts (allowed l.kind) (page && (segment && turn)) t in
    let b = and_parts page (segment && turn) a.1 in
    let c = and_parts segment turn b.1 in
    let d = and_parts (page_side l.width) (page_side l.height) b.0 in
    let e = and_parts (page_side l.cut.wide) (page_side l.cut.high) c.0 in
    record {
      kind = a.0;
      bits = allowed_bits l.kind a.0;
      few = bits_few l.kind.bits (allowed_bits l.kind a.0);
      width = between_true 1 16384 l.width d.0;
      height = between_true 1 16384 l.height d.1;
      wide = between_true 1 16384 l.cut.wide e.0;
      high = between_true 1 16384 l.cut.high e.1;
      orientation = between_true 1 8 l.orientation c.1;
    }
