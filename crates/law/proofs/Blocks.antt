-- What bytes open as that hold the block of a draft.
use Rattle.std.proofs.Common.{◌≡◌, ℕ, ◌+◌, ◌%◌, ◌^◌, ◌<◌, ◌≤◌, true, List, length, sym, subst}
use Rattle.octets.specs.Rows.{Holds}
use Rattle.raster.specs.Picture.{Picture, Sound}
use Rattle.plans.specs.declared.outline.Outline.{Outline}
use Rattle.plans.specs.Outlines.{segments_in, Proper}
use Rattle.plans.specs.Outlines as outlines
use Rattle.plans.specs.Views.{viewed, shows}
use Rattle.plans.specs.Blocks.{block, header}
use Rattle.plans.proofs.Views.{views_show, viewed_outline}
use Rattle.plans.proofs.Outlines.{outline_proper}
use Rattle.blocks.proofs.Places.{length_block}
use Rattle.roundtrip.specs.Laws.{OpensAs}
use Rattle.roundtrip.proofs.RoundTrip.{round_trip}
use Rattle.drafts.specs.declared.state.Draft.{Draft}
use Rattle.drafts.specs.Steps.{outline_of, size_of, block_of}

-- a draft of a picture that fits n bytes
pub record Fits (n : ℕ) (d : Draft) (p : Picture) : Type 0 where
  pub shows : shows p d.view ≡ true
  pub few : segments_in (outline_of d p) ≤ 1024
  pub whole : d.place % 512 ≡ 0
  pub first : 512 ≤ d.place
  pub ends : d.place + size_of d p ≤ n

-- the outline by the picture that is seen
abbrev pub seen_outline : Draft → Picture → Outline
seen_outline d p = outlines.outline_of d.plan.endian d.plan.pieces (viewed p d.view)

pub outline_is : (d : Draft) (p : Picture) → shows p d.view ≡ true → seen_outline d p ≡ outline_of d p
outline_is d p t = viewed_outline d.plan.endian d.plan.pieces p d.view t

pub length_block_of : (d : Draft) (p : Picture) → Sound p → shows p d.view ≡ true → length (block_of d p) ≡ size_of d p
unfolding block_of
length_block_of d p s t =
    let v = views_show p d.view t in
    let proper : Proper (outline_of d p) = subst Proper (outline_is d p t) (outline_proper d.plan.endian d.plan.pieces (viewed p d.view) d.plan.limits (v.sound s) v.some) in
    length_block (outline_of d p) (viewed p d.view).at proper d.place

-- with the header that leads to it, the block opens as the picture through the view
pub draft_opens : (bs : List ℕ) (d : Draft) (p : Picture) → Sound p → Fits (length bs) d p → length bs < 2 ^ 31 → Holds bs d.place (block_of d p) → Holds bs 0 (header d.plan.endian d.place)
    → OpensAs bs (viewed p d.view) (seen_outline d p) d.place
unfolding block_of
draft_opens bs d p s f short here head =
    let v = views_show p d.view f.shows in
    let e = outline_is d p f.shows in
    round_trip d.plan.endian d.plan.pieces (viewed p d.view) d.place bs
    (record {
      limits = d.plan.limits;
      sound = v.sound s;
      some = v.some;
      few = subst (λ q. segments_in q ≤ 1024) (sym e) f.few;
      aligned = f.whole;
      past = f.first;
    })
    short (subst (λ q. Holds bs d.place (block q (viewed p d.view).at d.place)) (sym e) here) head
