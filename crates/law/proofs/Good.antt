-- What holds between the calls of a run: how what a holder keeps in mind, the bytes seen, the may lists and the slate fit together.
use Rattle.std.proofs.Common.{◌≡◌, ℕ, ◌+◌, ◌*◌, ◌^◌, ◌<◌, ◌≤◌, ◌⊎◌, List, length, Some, None, Ok, Option, sym, subst, arith}
use Rattle.octets.specs.Rows.{byte, Holds}
use Rattle.octets.specs.Sectors.{sector, In, Lists}
use Rattle.raster.specs.Picture.{Picture, empty, Sound as SoundPicture}
use Rattle.pages.specs.declared.layout.Layout.{Layout}
use Rattle.pages.specs.Opening.{opened}
use Rattle.pages.specs.Extents.{extents}
use Rattle.stored.specs.Pixels.{picture_of, shown}
use Rattle.stored.proofs.Local.{pages_whole}
use Rattle.places.specs.Lowest.{Clear}
use Rattle.plans.specs.Blocks.{header}
use Rattle.drafts.specs.declared.state.Draft.{Draft}
use Rattle.drafts.specs.declared.state.Stage.{Stage}
use Rattle.drafts.specs.declared.state.Stage.TheVariants.{Begun, Carried, Rested, Switched}
use Rattle.drafts.specs.Mem.{Mem}
use Rattle.drafts.specs.Steps.{Held, world, sectors, size_of, block_of, picture_in, shown_of, Sound, Steady, Under, Fitting}
use Rattle.law.specs.Slate.{Slate, listed}
use Rattle.law.specs.Book.{Book, book}
use Rattle.law.proofs.Firm.{Firm}
use Rattle.law.proofs.Pages.{Matters}
use Rattle.law.proofs.Blocks.{Fits}

-- the ledger has the pages of the bytes
abbrev pub Ledger : List ℕ → Slate → Type 0
Ledger bs sl = (page : ℕ) → sl.ledger page ≡ listed (shown bs page)

-- the page shown
pub record Paged (page : ℕ) (l : Layout) (bs : List ℕ) (sl : Slate) : Type 0 where
  pub shows : sl.shows ≡ Some page
  pub picture : picture_of bs l ≡ sl.picture

-- it opens, and all that matters to it can only be found as it is seen
pub record Homed (page : ℕ) (l : Layout) (bs : List ℕ) (may : Lists) (sl : Slate) : Type 0 where
  pub opens : opened bs page ≡ Ok l
  pub ledger : Ledger bs sl
  pub firm : (i : ℕ) → Matters bs l i → Firm bs may i

-- a draft of which n bytes are carried
pub record Drafted (d : Draft) (n : ℕ) (bs : List ℕ) (sl : Slate) : Type 0 where
  pub note : sl.note ≡ Some d.view
  pub fits : Fits (length bs) d sl.picture
  pub written : (i : ℕ) → i < n → byte bs (d.place + i) ≡ byte (block_of d sl.picture) i

-- it lies clear of the only page
pub record Lone (l : Layout) (d : Draft) (bs : List ℕ) (sl : Slate) : Type 0 where
  pub one : l.directories ≡ 1
  pub clear : Clear (extents bs l) d.place (size_of d sl.picture)

-- it can only be found as it is seen
abbrev pub Rests : Draft → List ℕ → Lists → Slate → Type 0
Rests d bs may sl = (i : ℕ) → d.place ≤ i → i < d.place + size_of d sl.picture → Firm bs may i

-- the header leads to the draft, and may be found as it was in the bytes before
pub record Moved (old : List ℕ) (l : Layout) (d : Draft) (bs : List ℕ) (may : Lists) (sl : Slate) : Type 0 where
  pub was : opened old 0 ≡ Ok l
  pub one : l.directories ≡ 1
  pub picture : picture_of old l ≡ sl.picture
  pub long : length bs ≡ length old
  pub leads : Holds bs 0 (header d.plan.endian d.place)
  pub first : (x : List ℕ) → In x (may 0) → ((i : ℕ) → i < 512 → Matters old l i → byte x i ≡ byte old i) ⊎ (x ≡ sector bs 0)
  pub firm : (i : ℕ) → 512 ≤ i → Matters old l i → Firm old may i
  pub others : (page : ℕ) → 0 < page → sl.ledger page ≡ None

-- with a draft out, by its stage
abbrev pub Out : Stage → Draft → ℕ → Layout → List ℕ → Lists → Slate → Type 0
Out (Begun j) d page l bs may sl = Homed page l bs may sl × Lone l d bs sl × Drafted d (512 * j) bs sl × (j < sectors (size_of d sl.picture))
Out Carried d page l bs may sl = Homed page l bs may sl × Lone l d bs sl × Drafted d (size_of d sl.picture) bs sl
Out Rested d page l bs may sl = Homed page l bs may sl × Lone l d bs sl × Drafted d (size_of d sl.picture) bs sl × Rests d bs may sl
Out Switched d page l bs may sl = (page ≡ 0) × ((old : List ℕ) × Moved old l d bs may sl) × Drafted d (size_of d sl.picture) bs sl × Rests d bs may sl

abbrev pub Phase : Option Draft → ℕ → Layout → List ℕ → Lists → Slate → Type 0
Phase None page l bs may sl = Homed page l bs may sl
Phase (Some d) page l bs may sl = Out d.stage d page l bs may sl

-- a closed holder
pub record Closed (draft : Option Draft) (bs : List ℕ) (sl : Slate) : Type 0 where
  pub none : draft ≡ None
  pub shows : sl.shows ≡ None
  pub picture : empty ≡ sl.picture
  pub ledger : Ledger bs sl

abbrev pub Showing : Option Layout → Option Draft → List ℕ → Lists → Slate → Type 0
Showing None draft bs may sl = Closed draft bs sl
Showing (Some l) draft bs may sl = (page : ℕ) × Paged page l bs sl × Phase draft page l bs may sl

pub record Good (h : Held) (bs : List ℕ) (may : Lists) (sl : Slate) : Type 0 where
  pub short : length bs < 2 ^ 31
  pub turn : h.arrow ≡ sl.turn
  pub shown : Showing h.page h.draft bs may sl

-- the book and the holder at one point of a run
pub record At (k : Book) (h : Held) (bs : List ℕ) (may : Lists) : Type 0 where
  pub draft : k.draft ≡ h.draft
  pub bytes : k.bytes ≡ bs
  pub good : Good h bs may k.slate

pub book_is : (k : Book) (d : Option Draft) (bs : List ℕ) → k.draft ≡ d → k.bytes ≡ bs → book k.slate d bs ≡ k
book_is k d bs e f = λ i. book k.slate (sym e i) (sym f i)

-- the picture of the slate is the one shown, and it is sound

picture_by_lem : (page : Option Layout) (draft : Option Draft) (bs : List ℕ) (may : Lists) (sl : Slate) → Showing page draft bs may sl → shown_of page bs ≡ sl.picture
picture_by_lem None draft bs may sl s = s.picture
picture_by_lem (Some l) draft bs may sl s = s.1.picture

pub picture_is : (h : Held) (bs : List ℕ) (may : Lists) (sl : Slate) → Good h bs may sl → picture_in h bs ≡ sl.picture
picture_is h bs may sl g = picture_by_lem h.page h.draft bs may sl g.shown

pub sound_is : (bs : List ℕ) (page : ℕ) (l : Layout) (p : Picture) → opened bs page ≡ Ok l → picture_of bs l ≡ p → SoundPicture p
sound_is bs page l p e f = subst SoundPicture f (pages_whole bs page l e).sound

-- a good holder is sound

fitting : (bs : List ℕ) (l : Layout) (d : Draft) (p : Picture) → picture_of bs l ≡ p → l.directories ≡ 1 → Fits (length bs) d p → Fitting bs l d
fitting bs l d p e one f =
    let g : Fits (length bs) d (picture_of bs l) = subst (Fits (length bs) d) (sym e) f in
    record { only = one; shows = g.shows; few = g.few; whole = g.whole; first = g.first; ends = g.ends }

sound_out : (g : Stage) (d : Draft) (page : ℕ) (l : Layout) (bs : List ℕ) (may : Lists) (sl : Slate) → Paged page l bs sl → Out g d page l bs may sl → Fitting bs l d × Under (sectors (size_of d (picture_of bs l))) g
sound_out (Begun j) d page l bs may sl p o = (fitting bs l d sl.picture p.picture o.1.one o.2.fits, subst (λ q. j < sectors (size_of d q)) (sym p.picture) o.3)
sound_out Carried d page l bs may sl p o = (fitting bs l d sl.picture p.picture o.1.one o.2.fits, tt)
sound_out Rested d page l bs may sl p o = (fitting bs l d sl.picture p.picture o.1.one o.2.fits, tt)
sound_out Switched d page l bs may sl p o = (fitting bs l d sl.picture p.picture o.1.1.one o.2.fits, tt)

sound_by : (page : Option Layout) (draft : Option Draft) (bs : List ℕ) (may : Lists) (sl : Slate) → Showing page draft bs may sl → Steady bs page draft
sound_by page None bs may sl s = tt
sound_by (Some l) (Some d) bs may sl s = sound_out d.stage d s.0 l bs may sl s.1 s.2
sound_by None (Some d) bs may sl s = absurd (let e = s.none in let z : ◌≡◌ {A = ℕ} 0 1 = cc in omega arith)

pub sound_of : (h : Held) (m : Mem) (sl : Slate) → Good h m.seen m.may sl → Sound (world h m)
sound_of h m sl g = sound_by h.page h.draft m.seen m.may sl g.shown

-- fewer contents to be found

abbrev pub Less : Lists → Lists → Type 0
Less may' may = (s : ℕ) (x : List ℕ) → In x (may' s) → In x (may s)

pub homed_less : {page : ℕ} {l : Layout} {bs : List ℕ} {may may' : Lists} {sl : Slate} → Less may' may → Homed page l bs may sl → Homed page l bs may' sl
homed_less less h = record { opens = h.opens; ledger = h.ledger; firm = λ i m x k. h.firm i m x (less _ x k) }

moved_less : {old : List ℕ} {l : Layout} {d : Draft} {bs : List ℕ} {may may' : Lists} {sl : Slate} → Less may' may → Moved old l d bs may sl → Moved old l d bs may' sl
moved_less less h = record {
  was = h.was;
  one = h.one;
  picture = h.picture;
  long = h.long;
  leads = h.leads;
  first = λ x k. h.first x (less 0 x k);
  firm = λ i a m x k. h.firm i a m x (less _ x k);
  others = h.others;
}

out_less : (g : Stage) (d : Draft) (page : ℕ) (l : Layout) (bs : List ℕ) (may may' : Lists) (sl : Slate) → Less may' may → Out g d page l bs may sl → Out g d page l bs may' sl
out_less (Begun j) d page l bs may may' sl less o = (homed_less less o.0, o.1, o.2, o.3)
out_less Carried d page l bs may may' sl less o = (homed_less less o.0, o.1, o.2)
out_less Rested d page l bs may may' sl less o = (homed_less less o.0, o.1, o.2, λ i a b x k. o.3 i a b x (less _ x k))
out_less Switched d page l bs may may' sl less o = (o.0, (o.1.0, moved_less less o.1.1), o.2, λ i a b x k. o.3 i a b x (less _ x k))

phase_less : (draft : Option Draft) (page : ℕ) (l : Layout) (bs : List ℕ) (may may' : Lists) (sl : Slate) → Less may' may → Phase draft page l bs may sl → Phase draft page l bs may' sl
phase_less None page l bs may may' sl less o = homed_less less o
phase_less (Some d) page l bs may may' sl less o = out_less d.stage d page l bs may may' sl less o

showing_less : (page : Option Layout) (draft : Option Draft) (bs : List ℕ) (may may' : Lists) (sl : Slate) → Less may' may → Showing page draft bs may sl → Showing page draft bs may' sl
showing_less None draft bs may may' sl less s = s
showing_less (Some l) draft bs may may' sl less s = (s.0, s.1, phase_less draft s.0 l bs may may' sl less s.2)

pub good_less : (h : Held) (bs : List ℕ) (may may' : Lists) (sl : Slate) → Less may' may → Good h bs may sl → Good h bs may' sl
good_less h bs may may' sl less g = record { short = g.short; turn = g.turn; shown = showing_less h.page h.draft bs may may' sl less g.shown }
