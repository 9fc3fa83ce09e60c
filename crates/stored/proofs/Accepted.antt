-- What holds of the layout of every accepted page.
use Rattle.std.proofs.Common.{◌≡◌, ℕ, ◌<◌, ◌≤◌, min, Bool, true, ◌&&◌, leb, List, length, get_or, Ok, refl, subst, inl, inr, ⊎_elim, arith}
use Rattle.std.proofs.lemmas.Bool.{and_from, le-leb}
use Rattle.std.proofs.lemmas.Bool.Decides.{nat_tests}
use Rattle.octets.specs.Rows.{Bits}
use Rattle.octets.specs.declared.endian.Endian.{Endian}
use Rattle.raster.specs.Picture.{allowed, kind_of}
use Rattle.entries.specs.declared.entry.Directory.{Directory}
use Rattle.entries.specs.declared.fields.Fields.{Fields}
use Rattle.entries.specs.Entries.{directory_at}
use Rattle.pages.specs.declared.layout.Layout.{Layout}
use Rattle.pages.specs.declared.layout.Sampling.{Sampling}
use Rattle.pages.specs.declared.layout.Sides.{Sides}
use Rattle.pages.specs.declared.layout.Values.{Values}
use Rattle.pages.specs.declared.layout.SegmentKind.{SegmentKind}
use Rattle.pages.specs.declared.layout.SegmentKind.TheVariants.{Strip, Tile}
use Rattle.pages.specs.Pages.{between, page_side, interpreted, segment_kind}
use Rattle.pages.specs.Opening.{page_of, page_at, opened, HasPage}
use Rattle.rules.specs.Rules.{Grey, Rgb, KindRules, SideRules, cut_by}
use Rattle.rules.proofs.Meeting.{Laid, Paged, page_was, opened_was}
use Rattle.stored.specs.Sane.{sane}

between_from : (low high n : ℕ) → low ≤ n → n ≤ high → between low high n ≡ true
between_from low high n h k = and_from (leb low n) (leb n high) (le-leb low n h) (le-leb n high k)

grey_allowed : (p b : ℕ) → p < 2 → Bits b → allowed (kind_of (interpreted p) b) ≡ true
grey_allowed p b h (inl e) = grind (arith, nat_tests)
grey_allowed p b h (inr (inl e)) = grind (arith, nat_tests)
grey_allowed p b h (inr (inr e)) = grind (arith, nat_tests)

rgb_allowed : (p b : ℕ) → p ≡ 2 → b ≡ 8 → allowed (kind_of (interpreted p) b) ≡ true
rgb_allowed p b h e = grind (arith, nat_tests)

kind_allowed : (s : Sampling) → KindRules s → allowed (kind_of (interpreted s.photometric) s.first) ≡ true
kind_allowed s k =
    ⊎_elim
    (λ (g : Grey s). grey_allowed s.photometric s.first g.photometric g.bits)
    (λ (g : Rgb s). rgb_allowed s.photometric s.first g.photometric g.first)
    k.allowed

cut_sides : (t : SegmentKind) (s : Sides) → SideRules t s → (page_side (cut_by t s).wide ≡ true) × (page_side (cut_by t s).high ≡ true)
cut_sides Tile s r =
    let h = r.tiles refl in
    (between_from 1 16384 s.across (omega arith) h.0.1, between_from 1 16384 s.down (omega arith) h.1.1)
cut_sides Strip s r =
    let h = r.strips refl in (
      between_from 1 16384 s.width r.width.0 r.width.1,
      between_from 1 16384 (min s.rows s.height) (omega (arith, r.height.0)) (omega (arith, r.height.1)),
    )

laid_sane : (d : Directory) (n : ℕ) (fs : Fields) (v : Values) (l : Layout) → Laid d n fs v l → sane l ≡ true
unfolding sane
laid_sane d n fs v l a =
    let s : Sides = v.sides in
    let o : ℕ = v.format.orientation in
    let cut = cut_sides (segment_kind fs) s a.sides in
    let w : Bool = page_side (cut_by (segment_kind fs) s).wide in
    let h : Bool = page_side (cut_by (segment_kind fs) s).high in
    subst (λ (q : Layout). sane q ≡ true) a.is
    (and_from (allowed (kind_of (interpreted v.sampling.photometric) v.sampling.first)) ((page_side s.width && page_side s.height) && ((w && h) && between 1 8 o))
    (kind_allowed v.sampling a.kind)
    (and_from (page_side s.width && page_side s.height) ((w && h) && between 1 8 o)
    (and_from (page_side s.width) (page_side s.height) (between_from 1 16384 s.width a.sides.width.0 a.sides.width.1) (between_from 1 16384 s.height a.sides.height.0 a.sides.height.1))
    (and_from (w && h) (between 1 8 o) (and_from w h cut.0 cut.1) (between_from 1 8 o a.format.oriented a.format.orientations))))

pub page_sane : (bs : List ℕ) (n : ℕ) (d : Directory) (l : Layout) → page_of bs n d ≡ Ok l → sane l ≡ true
page_sane bs n d l e = laid_sane d n _ _ l (page_was bs n d l e).laid

pub at_sane : (o : Endian) (bs : List ℕ) (n page place : ℕ) (l : Layout) → page_at o bs n page place ≡ Ok l → sane l ≡ true
at_sane o bs n page place l e = page_sane bs n (directory_at o bs page place) l e

-- the layout of every accepted page is sane
pub opened_sane : (bs : List ℕ) (page : ℕ) (l : Layout) → opened bs page ≡ Ok l → sane l ≡ true
opened_sane bs page l e =
    let x = opened_was bs page l e in
    at_sane x.found.endian bs x.found.count page (get_or x.found.places page 0) l x.accepted

-- what an accepted page was made of
pub has_page : (bs : List ℕ) (l : Layout) → HasPage bs l → Paged bs l.directories (directory_at l.directory.endian bs l.directory.page l.directory.place) l
has_page bs l h = page_was bs l.directories (directory_at l.directory.endian bs l.directory.page l.directory.place) l h
