-- What is found where power ends shows the page.
use Rattle.std.proofs.Common.{◌≡◌, ℕ, ◌+◌, ◌-◌, ◌*◌, ◌/◌, ◌%◌, ◌^◌, ◌<◌, ◌≤◌, Bool, true, false, cond, ◌⊎◌, List, length, Some, None, Ok, Option, sym, refl, ap, ◌∙◌, subst, inl, inr, ⊎_elim, true≢false, arith}
use Rattle.std.proofs.lemmas.Bool.{cases_lt}
use Rattle.octets.specs.declared.endian.Endian.{Endian}
use Rattle.octets.specs.declared.endian.Endian.TheVariants.{Little, Big}
use Rattle.octets.specs.Rows.{byte, Holds}
use Rattle.octets.specs.Sectors.{sector, patched, In, Lists}
use Rattle.octets.proofs.Patches.{get_or_sector, get_or_patched_in, get_or_patched_above, get_or_patched_below, length_patched, length_sector}
use Rattle.store.specs.Power.{Cut, write_lays}
use Rattle.raster.specs.Picture.{Picture, Sound as SoundPicture}
use Rattle.pages.specs.declared.layout.Layout.{Layout}
use Rattle.stored.specs.Pixels.{picture_of}
use Rattle.plans.specs.declared.plan.Plan.{Plan}
use Rattle.plans.specs.declared.view.View.{View}
use Rattle.plans.specs.Views.{shows}
use Rattle.plans.specs.Blocks.{header}
use Rattle.drafts.specs.declared.state.Draft.{Draft}
use Rattle.drafts.specs.declared.state.Stage.{Stage}
use Rattle.drafts.specs.declared.state.Stage.TheVariants.{Begun, Carried, Rested, Switched}
use Rattle.drafts.specs.declared.call.Call.{Call}
use Rattle.drafts.specs.declared.call.Call.TheVariants.{Open, Pixel, Window, Arrow, Begin, Carry, Rest, Switch, Keep, Scrap}
use Rattle.drafts.specs.Mem.{Mem}
use Rattle.drafts.specs.Steps.{Held, Write, write, bytes_by, lays_by, sectors, size_of, block_of, carry_write_by, switch_write_by}
use Rattle.law.specs.Slate.{Slate, picture_by}
use Rattle.law.specs.Book.{Book, book, write_under, under, is_switch, switching, AcceptedAs, Safe}
use Rattle.law.proofs.Firm.{Firm, sector_byte, in_lays, found_byte}
use Rattle.law.proofs.Pages.{Matters, only_page, shown_of_lem, SamePage, same_page}
use Rattle.law.proofs.Blocks.{Fits, length_block_of, draft_opens}
use Rattle.law.proofs.Good.{Paged, Homed, Drafted, Lone, Rests, Out, Showing, At, book_is, sound_is}

-- the header's bytes

pub length_header : (o : Endian) (place : ℕ) → length (header o place) ≡ 8
length_header Little place = refl
length_header Big place = refl

pub header_held : (bs : List ℕ) (o : Endian) (place : ℕ) → 8 ≤ length bs → Holds (patched bs 0 (header o place)) 0 (header o place)
header_held bs o place h =
    let n = length_header o place in
    record {
      fits = omega (arith, length_patched bs 0 (header o place) (omega arith));
      same = λ i m. get_or_patched_in bs 0 (header o place) (0 + i) 0 (omega arith) (omega arith) (omega arith) ∙ ap (byte (header o place)) (let e : 0 + i - 0 ≡ i = omega arith in e);
    }

pub header_past : (bs : List ℕ) (o : Endian) (place i : ℕ) → 8 ≤ i → byte (patched bs 0 (header o place)) i ≡ byte bs i
header_past bs o place i h = get_or_patched_above bs 0 (header o place) i 0 (omega arith) (let n = length_header o place in omega arith)

-- bytes whose first sector is that of others have their header
head_found : (found bs : List ℕ) (o : Endian) (place : ℕ) → length found ≡ length bs → sector found 0 ≡ sector bs 0 → Holds bs 0 (header o place) → Holds found 0 (header o place)
head_found found bs o place len e h =
    let n = length_header o place in
    record {
      fits = omega (arith, h.fits);
      same = λ i m. sym (get_or_sector found 0 i 0 (omega arith)) ∙ ap (λ z. byte z i) e ∙ get_or_sector bs 0 i 0 (omega arith) ∙ h.same i m;
    }

-- a byte of the first sector
first_byte : (found cs : List ℕ) (i : ℕ) → i < 512 → byte (sector found 0) i ≡ byte cs i → byte found i ≡ byte cs i
first_byte found cs i h e = let z : 512 * 0 + i ≡ i = omega arith in sym (get_or_sector found 0 i 0 h ∙ ap (byte found) z) ∙ e

-- the page that is accepted in what is found

accepted_of : (bs found : List ℕ) (page : ℕ) (l : Layout) (p : Picture) → picture_of bs l ≡ p → SamePage bs found page l → AcceptedAs found page p
accepted_of bs found page l p e s = (l.orientation, shown_of_lem found page l s.opens ∙ ap (λ q. Ok (record { picture = q; orientation = l.orientation })) (s.picture ∙ e))

-- nothing that matters to the page is written
home_found : (page : ℕ) (l : Layout) (bs : List ℕ) (may : Lists) (sl : Slate) (w : Option Write) (found : List ℕ) → Paged page l bs sl → Homed page l bs may sl → Cut bs may (lays_by bs w) found
    → ((i : ℕ) → Matters bs l i → byte (bytes_by bs w) i ≡ byte bs i) → AcceptedAs found page sl.picture
home_found page l bs may sl w found p h c apart =
    accepted_of bs found page l sl.picture p.picture
    (same_page bs found page l h.opens c.long (λ i m. found_byte bs bs may w found i c (h.firm i m) (apart i m)))

-- the header of a switch is found, and the draft
draft_found : (d : Draft) (bs : List ℕ) (may : Lists) (sl : Slate) (w : Option Write) (found : List ℕ) → SoundPicture sl.picture → length bs < 2 ^ 31 → Drafted d (size_of d sl.picture) bs sl → Rests d bs may sl
    → Cut bs may (lays_by bs w) found → ((i : ℕ) → 8 ≤ i → byte (bytes_by bs w) i ≡ byte bs i) → Holds found 0 (header d.plan.endian d.place) → AcceptedAs found 0 (picture_by sl.note sl.picture)
draft_found d bs may sl w found sound short dr rests c apart led =
    let p = sl.picture in
    let f = dr.fits in
    let n = length_block_of d p sound f.shows in
    let first = f.first in
    let fits : Fits (length found) d p = subst (λ k. Fits k d p) (sym c.long) f in
    let ends = fits.ends in
    let here : Holds found d.place (block_of d p) = record {
      fits = omega arith;
      same = λ i m. found_byte bs bs may w found (d.place + i) c (rests (d.place + i) (omega arith) (omega arith)) (apart (d.place + i) (omega arith)) ∙ dr.written i (omega arith);
    } in
    let o = draft_opens found d p sound fits (let z = c.long in omega arith) here led in
    (1, o.picture ∙ ap (λ q. Ok (record { picture = q; orientation = 1 })) (sym (ap (λ q. picture_by q p) dr.note)))

-- the write of a call under way

data Underway (b : Book) (c : Option Call) : Type 0 where
  still : write_under b c ≡ None → is_switch c ≡ false → Underway b c
  carries : write_under b c ≡ carry_write_by b.slate.picture b.draft → is_switch c ≡ false → Underway b c
  switches : write_under b c ≡ switch_write_by b.draft → is_switch c ≡ true → Underway b c

underway : (b : Book) (c : Option Call) → Underway b c
underway b None = still refl refl
underway b (Some (Open page)) = still refl refl
underway b (Some (Pixel x y)) = still refl refl
underway b (Some (Window area room)) = still refl refl
underway b (Some Arrow) = still refl refl
underway b (Some (Begin v plan)) = still refl refl
underway b (Some Carry) = carries refl refl
underway b (Some Rest) = still refl refl
underway b (Some Switch) = switches refl refl
underway b (Some Keep) = still refl refl
underway b (Some Scrap) = still refl refl

-- a byte that a carry leaves: it matters to the page

pub some_carry : (size j : ℕ) → j < sectors size → 512 * j < size
some_carry size j h = omega arith

pub carry_outside : (d : Draft) (p : Picture) (bs : List ℕ) (j i : ℕ) → SoundPicture p → Fits (length bs) d p → j < sectors (size_of d p)
    → (i < d.place + 512 * j) ⊎ (d.place + 512 * j + length (sector (block_of d p) j) ≤ i) → byte (patched bs (d.place + 512 * j) (sector (block_of d p) j)) i ≡ byte bs i
carry_outside d p bs j i s f h (inl k) =
    let e = f.ends in let z = some_carry (size_of d p) j h in
    get_or_patched_below bs (d.place + 512 * j) (sector (block_of d p) j) i 0 (omega arith) k
carry_outside d p bs j i s f h (inr k) =
    let e = f.ends in let z = some_carry (size_of d p) j h in
    get_or_patched_above bs (d.place + 512 * j) (sector (block_of d p) j) i 0 (omega arith) k

-- the bytes of a carry lie within the draft
pub carry_within : (d : Draft) (p : Picture) (j : ℕ) → SoundPicture p → shows p d.view ≡ true → 512 * j + length (sector (block_of d p) j) ≤ 512 * j + (size_of d p - 512 * j)
carry_within d p j s t = let n = length_block_of d p s t in let m = length_sector (block_of d p) j in omega arith

pub carry_apart : (l : Layout) (d : Draft) (bs : List ℕ) (sl : Slate) (j : ℕ) → SoundPicture sl.picture → Lone l d bs sl → Fits (length bs) d sl.picture → j < sectors (size_of d sl.picture)
    → (i : ℕ) → Matters bs l i → byte (patched bs (d.place + 512 * j) (sector (block_of d sl.picture) j)) i ≡ byte bs i
carry_apart l d bs sl j s o f h i m =
    let p = sl.picture in
    let first = f.first in
    let z = some_carry (size_of d p) j h in
    let w = carry_within d p j s f.shows in
    ⊎_elim
    (λ k. carry_outside d p bs j i s f h (inl (omega arith)))
    (λ k. ⊎_elim
    (λ a. carry_outside d p bs j i s f h (inl (omega arith)))
    (λ a. ⊎_elim
    (λ b. absurd (o.clear i i a b k refl))
    (λ b. carry_outside d p bs j i s f h (inr (omega arith)))
    (cases_lt i (d.place + size_of d p)))
    (cases_lt i d.place))
    (m o.one)

-- every phase

never : (b : Bool) → cond b false false ≡ false
never true = refl
never false = refl

page_is : (page other : ℕ) (o : Option ℕ) → o ≡ Some page → o ≡ Some other → page ≡ other
page_is page other o e f = cc

-- the page shown is found, since a call under way writes nothing that matters to it
left_safe : (draft : Option Draft) (page : ℕ) (l : Layout) (bs : List ℕ) (may : Lists) (sl : Slate) (c : Option Call) (w : Option Write) (found : List ℕ) → Paged page l bs sl → Homed page l bs may sl
    → write_under (book sl draft bs) c ≡ w → switching (book sl draft bs) c ≡ false → ((i : ℕ) → Matters bs l i → byte (bytes_by bs w) i ≡ byte bs i)
    → Cut bs may (under (book sl draft bs) c) found → Safe (book sl draft bs) c found
left_safe draft page l bs may sl c w found p h e off apart cut =
    let cut' : Cut bs may (lays_by bs w) found = subst (λ (x : Option Write). Cut bs may (lays_by bs x) found) e cut in
    record {
      stays = λ q f _. subst (λ n. AcceptedAs found n sl.picture) (page_is page q sl.shows p.shows f) (home_found page l bs may sl w found p h cut' apart);
      goes_over = λ q f o. absurd (true≢false (sym o.0 ∙ off));
    }

safe_free : (page : ℕ) (l : Layout) (bs : List ℕ) (may : Lists) (sl : Slate) (c : Option Call) (found : List ℕ) → Paged page l bs sl → Homed page l bs may sl
    → Underway (book sl None bs) c → Cut bs may (under (book sl None bs) c) found → Safe (book sl None bs) c found
safe_free page l bs may sl c found p h (still e s) = left_safe None page l bs may sl c None found p h e (never (is_switch c)) (λ i m. refl)
safe_free page l bs may sl c found p h (carries e s) = left_safe None page l bs may sl c None found p h e (never (is_switch c)) (λ i m. refl)
safe_free page l bs may sl c found p h (switches e s) = left_safe None page l bs may sl c None found p h e (never (is_switch c)) (λ i m. refl)

abbrev pub dr : View → Plan → ℕ → Stage → Draft
dr v plan place g = record { view = v; plan = plan; place = place; stage = g }

safe_begun : (v : View) (plan : Plan) (place j page : ℕ) (l : Layout) (bs : List ℕ) (may : Lists) (sl : Slate) (c : Option Call) (found : List ℕ) → Paged page l bs sl
    → Out (Begun j) (dr v plan place (Begun j)) page l bs may sl → Underway (book sl (Some (dr v plan place (Begun j))) bs) c
    → Cut bs may (under (book sl (Some (dr v plan place (Begun j))) bs) c) found → Safe (book sl (Some (dr v plan place (Begun j))) bs) c found
safe_begun v plan place j page l bs may sl c found p o (still e s) =
    left_safe (Some (dr v plan place (Begun j))) page l bs may sl c None found p o.0 e (never (is_switch c)) (λ i m. refl)
safe_begun v plan place j page l bs may sl c found p o (carries e s) =
    let d = dr v plan place (Begun j) in
    left_safe (Some d) page l bs may sl c (Some (write (place + 512 * j) (sector (block_of d sl.picture) j))) found p o.0 e (never (is_switch c))
    (carry_apart l d bs sl j (sound_is bs page l sl.picture o.0.opens p.picture) o.1 o.2.fits o.3)
safe_begun v plan place j page l bs may sl c found p o (switches e s) =
    left_safe (Some (dr v plan place (Begun j))) page l bs may sl c None found p o.0 e (never (is_switch c)) (λ i m. refl)

safe_carried : (v : View) (plan : Plan) (place page : ℕ) (l : Layout) (bs : List ℕ) (may : Lists) (sl : Slate) (c : Option Call) (found : List ℕ) → Paged page l bs sl
    → Out Carried (dr v plan place Carried) page l bs may sl → Underway (book sl (Some (dr v plan place Carried)) bs) c
    → Cut bs may (under (book sl (Some (dr v plan place Carried)) bs) c) found → Safe (book sl (Some (dr v plan place Carried)) bs) c found
safe_carried v plan place page l bs may sl c found p o (still e s) = left_safe (Some (dr v plan place Carried)) page l bs may sl c None found p o.0 e (never (is_switch c)) (λ i m. refl)
safe_carried v plan place page l bs may sl c found p o (carries e s) = left_safe (Some (dr v plan place Carried)) page l bs may sl c None found p o.0 e (never (is_switch c)) (λ i m. refl)
safe_carried v plan place page l bs may sl c found p o (switches e s) = left_safe (Some (dr v plan place Carried)) page l bs may sl c None found p o.0 e (never (is_switch c)) (λ i m. refl)

-- a firm byte of the first sector, by a content of its list
pub firm_first : (bs : List ℕ) (may : Lists) (x : List ℕ) (i : ℕ) → i < 512 → Firm bs may i → In x (may 0) → byte x i ≡ byte bs i
firm_first bs may x i h firm k =
    let z : 0 ≡ i / 512 = omega arith in
    let r : i ≡ i % 512 = omega arith in
    ap (byte x) r ∙ firm x (subst (λ s. In x (may s)) z k)

safe_switching : (v : View) (plan : Plan) (place page : ℕ) (l : Layout) (bs : List ℕ) (may : Lists) (sl : Slate) (c : Option Call) (found : List ℕ) → length bs < 2 ^ 31 → Paged page l bs sl
    → Out Rested (dr v plan place Rested) page l bs may sl → is_switch c ≡ true → Cut bs may (write_lays bs 0 (header plan.endian place)) found
    → Safe (book sl (Some (dr v plan place Rested)) bs) c found
safe_switching v plan place page l bs may sl c found short p o s cut =
    let d = dr v plan place Rested in
    let hm = o.0 in
    let w : Option Write = Some (write 0 (header plan.endian place)) in
    let f = o.2.fits in
    let sound = sound_is bs page l sl.picture hm.opens p.picture in
    let on : switching (book sl (Some d) bs) c ≡ true = ap (λ b. cond b true false) s in
    let zero : page ≡ 0 = only_page bs page page l l hm.opens o.1.one hm.opens in
    let room : 8 ≤ length bs = let a = f.first in let b = f.ends in omega arith in
    let long : length (patched bs 0 (header plan.endian place)) ≡ length bs = length_patched bs 0 (header plan.endian place) (let n = length_header plan.endian place in omega arith) in
    record {
      stays = λ q e not-over. subst (λ n. AcceptedAs found n sl.picture) (page_is page q sl.shows p.shows e)
          (accepted_of bs found page l sl.picture p.picture (same_page bs found page l hm.opens cut.long (λ i m.
          ⊎_elim
          (λ k. first_byte found bs i k
          (⊎_elim
          (λ h. firm_first bs may (sector found 0) i k (hm.firm i m) h)
          (λ h. absurd (not-over (
            on,
            head_found found (patched bs 0 (header plan.endian place)) plan.endian place (cut.long ∙ sym long)
                (in_lays bs 0 (header plan.endian place) 0 (sector found 0) h) (header_held bs plan.endian place room),
          )))
          (cut.each 0)))
          (λ k. found_byte bs bs may w found i cut (hm.firm i m) (header_past bs plan.endian place i (omega arith)))
          (cases_lt i 512))));
      goes_over = λ q e over. subst (λ n. AcceptedAs found n (picture_by sl.note sl.picture)) (sym zero ∙ page_is page q sl.shows p.shows e)
          (draft_found d bs may sl w found sound short o.2 o.3 cut (λ i k. header_past bs plan.endian place i k) over.1);
    }

safe_rested : (v : View) (plan : Plan) (place page : ℕ) (l : Layout) (bs : List ℕ) (may : Lists) (sl : Slate) (c : Option Call) (found : List ℕ) → length bs < 2 ^ 31 → Paged page l bs sl
    → Out Rested (dr v plan place Rested) page l bs may sl → Underway (book sl (Some (dr v plan place Rested)) bs) c
    → Cut bs may (under (book sl (Some (dr v plan place Rested)) bs) c) found → Safe (book sl (Some (dr v plan place Rested)) bs) c found
safe_rested v plan place page l bs may sl c found short p o (still e s) =
    left_safe (Some (dr v plan place Rested)) page l bs may sl c None found p o.0 e (ap (λ b. cond b true false) s) (λ i m. refl)
safe_rested v plan place page l bs may sl c found short p o (carries e s) =
    left_safe (Some (dr v plan place Rested)) page l bs may sl c None found p o.0 e (ap (λ b. cond b true false) s) (λ i m. refl)
safe_rested v plan place page l bs may sl c found short p o (switches e s) =
    λ cut. safe_switching v plan place page l bs may sl c found short p o s (subst (λ (x : Option Write). Cut bs may (lays_by bs x) found) e cut)

safe_moved : (v : View) (plan : Plan) (place page : ℕ) (l : Layout) (bs : List ℕ) (may : Lists) (sl : Slate) (c : Option Call) (found : List ℕ) → length bs < 2 ^ 31 → Paged page l bs sl
    → Out Switched (dr v plan place Switched) page l bs may sl → write_under (book sl (Some (dr v plan place Switched)) bs) c ≡ None
    → Cut bs may (under (book sl (Some (dr v plan place Switched)) bs) c) found → Safe (book sl (Some (dr v plan place Switched)) bs) c found
safe_moved v plan place page l bs may sl c found short p o e under =
    let d = dr v plan place Switched in
    let old = o.1.0 in
    let mv = o.1.1 in
    let cut : Cut bs may (lays_by bs None) found = subst (λ (x : Option Write). Cut bs may (lays_by bs x) found) e under in
    let each : (s : ℕ) → In (sector found s) (may s) = λ s. ⊎_elim (λ h. h) (λ h. absurd h) (cut.each s) in
    let sound = sound_is old 0 l sl.picture mv.was mv.picture in
    record {
      stays = λ q f not-over. subst (λ n. AcceptedAs found n sl.picture) (sym o.0 ∙ page_is page q sl.shows p.shows f)
          (⊎_elim
          (λ same. accepted_of old found 0 l sl.picture mv.picture (same_page old found 0 l mv.was (cut.long ∙ mv.long) (λ i m.
          ⊎_elim
          (λ k. first_byte found old i k (same i k m))
          (λ k. sym (sector_byte found i) ∙ mv.firm i k m (sector found (i / 512)) (each (i / 512)))
          (cases_lt i 512))))
          (λ same. absurd (not-over (refl, head_found found bs plan.endian place cut.long same mv.leads)))
          (mv.first (sector found 0) (each 0)));
      goes_over = λ q f over. subst (λ n. AcceptedAs found n (picture_by sl.note sl.picture)) (sym o.0 ∙ page_is page q sl.shows p.shows f)
          (draft_found d bs may sl None found sound short o.2 o.3 cut (λ i k. refl) over.1);
    }

safe_switched : (v : View) (plan : Plan) (place page : ℕ) (l : Layout) (bs : List ℕ) (may : Lists) (sl : Slate) (c : Option Call) (found : List ℕ) → length bs < 2 ^ 31 → Paged page l bs sl
    → Out Switched (dr v plan place Switched) page l bs may sl → Underway (book sl (Some (dr v plan place Switched)) bs) c
    → Cut bs may (under (book sl (Some (dr v plan place Switched)) bs) c) found → Safe (book sl (Some (dr v plan place Switched)) bs) c found
safe_switched v plan place page l bs may sl c found short p o (still e s) = safe_moved v plan place page l bs may sl c found short p o e
safe_switched v plan place page l bs may sl c found short p o (carries e s) = safe_moved v plan place page l bs may sl c found short p o e
safe_switched v plan place page l bs may sl c found short p o (switches e s) = safe_moved v plan place page l bs may sl c found short p o e

safe_out : (v : View) (plan : Plan) (place : ℕ) (g : Stage) (page : ℕ) (l : Layout) (bs : List ℕ) (may : Lists) (sl : Slate) (c : Option Call) (found : List ℕ) → length bs < 2 ^ 31 → Paged page l bs sl
    → Out g (dr v plan place g) page l bs may sl → Cut bs may (under (book sl (Some (dr v plan place g)) bs) c) found → Safe (book sl (Some (dr v plan place g)) bs) c found
safe_out v plan place (Begun j) page l bs may sl c found short p o = safe_begun v plan place j page l bs may sl c found p o (underway (book sl (Some (dr v plan place (Begun j))) bs) c)
safe_out v plan place Carried page l bs may sl c found short p o = safe_carried v plan place page l bs may sl c found p o (underway (book sl (Some (dr v plan place Carried)) bs) c)
safe_out v plan place Rested page l bs may sl c found short p o = safe_rested v plan place page l bs may sl c found short p o (underway (book sl (Some (dr v plan place Rested)) bs) c)
safe_out v plan place Switched page l bs may sl c found short p o = safe_switched v plan place page l bs may sl c found short p o (underway (book sl (Some (dr v plan place Switched)) bs) c)

safe_by : (page : Option Layout) (draft : Option Draft) (bs : List ℕ) (may : Lists) (sl : Slate) (c : Option Call) (found : List ℕ) → length bs < 2 ^ 31 → Showing page draft bs may sl
    → Cut bs may (under (book sl draft bs) c) found → Safe (book sl draft bs) c found
safe_by (Some l) None bs may sl c found short s = safe_free s.0 l bs may sl c found s.1 s.2 (underway (book sl None bs) c)
safe_by (Some l) (Some d) bs may sl c found short s = safe_out d.view d.plan d.place d.stage s.0 l bs may sl c found short s.1 s.2
safe_by None draft bs may sl c found short s =
    let closed : (q : ℕ) → sl.shows ≡ Some q → ⊥ = λ q e. let f = s.shows in let z : ◌≡◌ {A = ℕ} 0 1 = cc in omega arith in
    λ _. record { stays = λ q e _. absurd (closed q e); goes_over = λ q e _. absurd (closed q e) }

-- whatever is found after a run, or inside its next call, is safe
pub safe : (k : Book) (h : Held) (m : Mem) → At k h m.seen m.may → (c : Option Call) (found : List ℕ) → Cut m.seen m.may (under k c) found → Safe k c found
safe k h m a =
    subst (λ (z : Book). (c : Option Call) (found : List ℕ) → Cut m.seen m.may (under z c) found → Safe z c found) (book_is k h.draft m.seen a.draft a.bytes)
    (λ c found. safe_by h.page h.draft m.seen m.may k.slate c found a.good.short a.good.shown)
