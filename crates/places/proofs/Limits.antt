-- A sane layout has few segments, and each needs few bytes.
use Rattle.std.proofs.Common.{◌≡◌, ℕ, ◌+◌, ◌-◌, ◌*◌, ◌^◌, ◌<◌, ◌≤◌, min, Bool, true, ◌&&◌, leb, eqb, mul-le-mul, div-le_self, arith}
use Rattle.std.proofs.lemmas.Bool.{cond_both, and_from, le-leb}
use Rattle.octets.specs.Rows.{ceil}
use Rattle.raster.specs.Picture.{allowed, number_of}
use Rattle.pages.specs.declared.layout.Layout.{Layout}
use Rattle.pages.specs.Tags.{are_tiles}
use Rattle.pages.specs.Pages.{between, page_side}
use Rattle.pages.specs.Geometry.{samples_of, across, segments, segments_of, first_row, rows_of, needed}
use Rattle.stored.specs.Sane.{sane, Between, Sane}

ceil_few : (a b : ℕ) → a ≤ 16384 → b ≤ 16384 → ceil a b ≤ 32767
ceil_few a b h k = let d = div-le_self (a + (b - 1)) b in omega arith

pub segments_few : (l : Layout) → Sane l → segments_of l < 2 ^ 32
unfolding segments
segments_few l s =
    let a = ceil_few l.height l.cut.high s.height.most s.high.most in
    let b = ceil_few l.width l.cut.wide s.width.most s.wide.most in
    let p : ceil l.height l.cut.high * across l.cut l.width ≤ 32767 * 32767 = mul-le-mul a b in
    omega (arith, p)

samples_few : (l : Layout) → samples_of l.kind ≤ 3
samples_few l = cond_both (eqb (number_of l.kind.photometric) 2) 3 1 (λ n. n ≤ 3) (λ _. omega arith) (λ _. omega arith)

row_few : (wide samples bits : ℕ) → wide ≤ 16384 → samples ≤ 3 → bits ≤ 8 → ceil (wide * samples * bits) 8 ≤ 49152
row_few wide samples bits a b c =
    let p : wide * samples * bits ≤ 16384 * 3 * 8 = mul-le-mul (mul-le-mul a b) c in
    omega (arith, p)

rows_few : (l : Layout) (k : ℕ) → Sane l → rows_of l.cut l.width l.height k ≤ 16384
rows_few l k s =
    let m = s.high.most in
    cond_both (are_tiles l.cut.kind) l.cut.high (min l.cut.high (l.height - first_row l.cut l.width k)) (λ n. n ≤ 16384) (λ _. m) (λ _. omega arith)

pub needed_few : (l : Layout) (k : ℕ) → Sane l → needed l k ≤ 16384 * 49152
unfolding needed
needed_few l k s = mul-le-mul (rows_few l k s) (row_few l.cut.wide (samples_of l.kind) l.kind.bits s.wide.most (samples_few l) s.few.most)

pub needed_whole : (l : Layout) (k r : ℕ) → Sane l → r ≡ min (needed l k) (2 ^ 64 - 1) → (r ≡ needed l k) × (r ≤ 16384 * 49152)
needed_whole l k r s e = let h = needed_few l k s in (omega arith, omega arith)

-- a layout that is sane part by part is sane
pub sane_from : (l : Layout) → Sane l → sane l ≡ true
unfolding sane
sane_from l s =
    let page : Bool = page_side l.width && page_side l.height in
    let segment : Bool = page_side l.cut.wide && page_side l.cut.high in
    let turn : Bool = between 1 8 l.orientation in
    and_from (allowed l.kind) (page && (segment && turn)) s.kind
    (and_from page (segment && turn) (and_from (page_side l.width) (page_side l.height) (within 1 16384 l.width s.width) (within 1 16384 l.height s.height))
    (and_from segment turn (and_from (page_side l.cut.wide) (page_side l.cut.high) (within 1 16384 l.cut.wide s.wide) (within 1 16384 l.cut.high s.high))
    (within 1 8 l.orientation s.orientation)))
  where
    within : (low high n : ℕ) → Between low high n → between low high n ≡ true
    within low high n b = and_from (leb low n) (leb n high) (le-leb low n b.least) (le-leb n high b.most)
