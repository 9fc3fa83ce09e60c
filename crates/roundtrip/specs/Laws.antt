-- What bytes that hold the block of a picture open as. Assumes nothing.
use Rattle.std.specs.Prelude.{◌≡◌, ℕ, ◌+◌, ◌%◌, ◌^◌, ◌<◌, ◌≤◌, true, List, [], ◌∷◌, ◌++◌, length, replicate, Ok, Err}
use Rattle.faults.specs.declared.fault.Check.TheVariants.{Page}
use Rattle.faults.specs.Faults.{bare}
use Rattle.octets.specs.declared.endian.Endian.{Endian}
use Rattle.octets.specs.Rows.{Holds}
use Rattle.raster.specs.Picture.{Picture, Sound}
use Rattle.links.specs.Links.{listed, walked}
use Rattle.pages.specs.Opening.{page_at, opened}
use Rattle.pages.specs.Extents.{extents, Covered}
use Rattle.stored.specs.Pixels.{stored, picture_of, shown}
use Rattle.plans.specs.declared.outline.Outline.{Outline}
use Rattle.plans.specs.declared.pieces.Pieces.{Pieces}
use Rattle.plans.specs.Limits.{limited}
use Rattle.plans.specs.Outlines.{outline_of, segments_in, block_size, block_layout}
use Rattle.plans.specs.Blocks.{block_of, header}

-- a draft that is begun: a plan within its limits, a picture that is not empty, at most 1,024 segments, a place for it
pub record Drafted (ps : Pieces) (p : Picture) (q : Outline) (place : ℕ) : Type 0 where
  pub limits : limited ps ≡ true
  pub sound : Sound p
  pub some : 0 < p.width
  pub few : segments_in q ≤ 1024
  pub aligned : place % 512 ≡ 0
  pub past : 512 ≤ place

-- bs have the page of the picture p at a place, whatever their header, and it depends on no byte outside the block
pub record HasPicture (bs : List ℕ) (p : Picture) (q : Outline) (place : ℕ) : Type 0 where
  pub page : page_at q.endian bs 1 0 place ≡ Ok (block_layout q place)
  pub grid : stored bs (block_layout q place) ≡ p
  pub picture : picture_of bs (block_layout q place) ≡ p
  pub inner : (i : ℕ) → Covered (extents bs (block_layout q place)) i → (place ≤ i) × (i < place + block_size q)

-- bs open as the picture p: one directory, which is that of the block, orientation 1, and no other page
pub record OpensAs (bs : List ℕ) (p : Picture) (q : Outline) (place : ℕ) : Type 0 where
  pub chain : walked bs ≡ Ok (listed q.endian (place ∷ []))
  pub page : opened bs 0 ≡ Ok (block_layout q place)
  pub picture : shown bs 0 ≡ Ok (record { picture = p; orientation = 1 })
  pub others : (k : ℕ) → 0 < k → opened bs k ≡ Err (bare Page)

-- bytes that hold the block of a picture have its page
abbrev pub PageRoundTrip : Type 0
PageRoundTrip = (o : Endian) (ps : Pieces) (p : Picture) (place : ℕ) (bs : List ℕ)
    → Drafted ps p (outline_of o ps p) place → length bs < 2 ^ 31
    → Holds bs place (block_of o ps p place)
    → HasPicture bs p (outline_of o ps p) place

-- with the header that links to it, they open as the picture
abbrev pub RoundTrip : Type 0
RoundTrip = (o : Endian) (ps : Pieces) (p : Picture) (place : ℕ) (bs : List ℕ)
    → Drafted ps p (outline_of o ps p) place → length bs < 2 ^ 31
    → Holds bs place (block_of o ps p place) → Holds bs 0 (header o place)
    → OpensAs bs p (outline_of o ps p) place

-- the smallest file of a picture: the header, 0 up to place 512, and the block there
abbrev pub file_of : Endian → Pieces → Picture → List ℕ
file_of o ps p = header o 512 ++ (replicate 504 0 ++ block_of o ps p 512)

-- it opens as the picture, if it is not too long
abbrev pub FileOpens : Type 0
FileOpens = (o : Endian) (ps : Pieces) (p : Picture)
    → Drafted ps p (outline_of o ps p) 512 → 512 + block_size (outline_of o ps p) < 2 ^ 31
    → OpensAs (file_of o ps p) p (outline_of o ps p) 512
