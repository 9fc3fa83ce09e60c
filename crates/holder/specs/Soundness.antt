-- A holder is a grid: its picture is sound, and a question keeps what it has in mind. Assumes nothing.
use Rattle.std.specs.Prelude.{ℕ, List, Some, None, Option, refl}
use Rattle.std.proofs.Common.{◌∙◌}
use Rattle.store.specs.declared.traits.Store.{Ghosts}
use Rattle.raster.specs.Picture.{Sound}
use Rattle.raster.specs.Soundness.{empty_sound}
use Rattle.raster.specs.Kept.{Kept}
use Rattle.stored.specs.declared.page.Page.{Page}
use Rattle.stored.specs.Soundness.{picture_sound}
use Rattle.drafts.specs.Steps.{shown_of}
use Rattle.holder.specs.declared.holder.Holder.{Holder}
use Rattle.holder.specs.Worlds.{layout_in, picture_by, KeptBy}

shown_sound : (page : Option Page) (bs : List ℕ) → Sound (shown_of (layout_in page) bs)
shown_sound None bs = empty_sound
shown_sound (Some p) bs = picture_sound bs p.layout p.limits

pub holder_sound : {S : Type 0} (seen : S → List ℕ) (h : Holder S) → Sound (picture_by seen h)
holder_sound seen h = shown_sound h.state.page (seen h.store)

abbrev pub holder_keeps : {S : Type 0} → Ghosts S → Kept (Holder S)
holder_keeps g = record {
  across = KeptBy g;
  none = λ h. record { state = refl; quiet = record { seen = refl; may = record { none = λ s c i. i }; trail = record { none = λ s c i. i } } };
  both = λ p q. record {
    state = q.state ∙ p.state;
    quiet = record {
      seen = q.quiet.seen ∙ p.quiet.seen;
      may = record { none = λ s c i. p.quiet.may.none s c (q.quiet.may.none s c i) };
      trail = record { none = λ s c i. p.quiet.trail.none s c (q.quiet.trail.none s c i) };
    };
  };
}
