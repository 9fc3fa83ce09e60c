-- What a hold over a tray over any card means, worked out from the card. Assumes nothing.
use Rattle.std.specs.Prelude.{ℕ, List, length}
use Rattle.tray.specs.Parts.{cut, cut_lists}
use Rattle.tray.specs.declared.Tray.{Tray}
use Rattle.hold.specs.Kept.{overlaid, with_kept}
use Rattle.hold.specs.declared.Hold.{Hold}
use Rattle.store.specs.Lent.{counted, alone}
use Rattle.drafts.specs.Mem.{Mem}

-- bytes lent for writing: those that count, each sector found as it is seen
abbrev pub lent_mem : List ℕ → Mem
lent_mem bytes = record { seen = counted bytes; may = alone (counted bytes); trail = alone (counted bytes) }

module _ {C : Type 0} (mem : C → Mem) where
  -- a tray: a part of the card below, with the parts of its lists
  abbrev pub tray_mem : Tray C → Mem
  tray_mem t = record {
    seen = cut (mem t.below).seen t.from t.len;
    may = cut_lists (length (mem t.below).seen) (mem t.below).may t.from t.len;
    trail = cut_lists (length (mem t.below).seen) (mem t.below).trail t.from t.len;
  }

  -- a hold over it: the kept sectors are what is seen, and stand in the lists beside what stands there below
  abbrev pub pile_mem : Hold (Tray C) → Mem
  pile_mem h = record {
    seen = overlaid h.table.slots (tray_mem h.below).seen;
    may = with_kept h.table.slots (tray_mem h.below).seen (tray_mem h.below).may;
    trail = with_kept h.table.slots (tray_mem h.below).seen (tray_mem h.below).trail;
  }
