-- The bytes and the sectors of a draft.
use Rattle.std.proofs.Common.{◌≡◌, ℕ, suc, ◌+◌, ◌-◌, ◌*◌, ◌/◌, ◌<◌, ◌≤◌, min, Bool, true, false, cond, not, ltb, List, [], ◌++◌, length, take, drop, Ok, Result, sym, refl, ap, ◌∙◌, subst, ap₂, ⊎_elim, mul-le-mul_right, suc-mul, div-lt_iff_lt-mul, arith}
use Rattle.std.specs.Result.{is_err}
use Rattle.std.proofs.lemmas.List.{nil_from_length, length-take-le}
use Rattle.std.proofs.lemmas.List.FromFn.{length-map-range_with_len}
use Rattle.std.proofs.lemmas.Bool.{cond-true, cond-false, cases_lt, lt-ltb, le-ltb, le-leb, lt-leb, and_from, and_left, and_right, and_parts, not-false}
use Rattle.faults.specs.declared.fault.Fault.{Fault}
use Rattle.faults.specs.declared.fault.Check.TheVariants.{View as ViewCheck}
use Rattle.faults.specs.Faults.{bare, refused}
use Rattle.octets.specs.Rows.{byte, tabulate}
use Rattle.octets.specs.Sectors.{sector, patched}
use Rattle.octets.proofs.Patches.{length_sector}
use Rattle.octets.proofs.Puts.{patched_nil}
use Rattle.raster.specs.declared.grid.Kind.{Kind}
use Rattle.raster.specs.Picture.{Picture, Sound}
use Rattle.raster.specs.Views.{fits, swaps}
use Rattle.raster.specs.Soundness.{fits_parts}
use Rattle.pages.specs.Pages.{between}
use Rattle.plans.specs.declared.outline.Outline.{Outline}
use Rattle.plans.specs.declared.plan.Plan.{Plan}
use Rattle.plans.specs.declared.view.View.{View}
use Rattle.plans.specs.Outlines.{Proper, segments_in, segment_size, head_size, block_size}
use Rattle.plans.specs.Directories.{directory_bytes}
use Rattle.plans.specs.Blocks.{fields_in, block, segments_byte, block_byte}
use Rattle.plans.specs.Plans.{plan_outline}
use Rattle.plans.specs.Views.{viewed, shows, view_checked, view_width, view_height}
use Rattle.plans.proofs.Outlines.{some_segments, segment_positive, segment_most}
use Rattle.plans.proofs.Views.{views_show, plan_proper}
use Rattle.blocks.proofs.Places.{length_block, sector_bytes}
use Rattle.writer.specs.declared.canvas.Canvas.{Canvas}
use Rattle.writer.specs.Painting.{Shows}
use Rattle.writer.specs.Drafts.{draft_outline, drafts, draft_sector}

-- a byte of the head, and one of the segments
module _ (q : Outline) (at : ℕ → ℕ → ℕ) (place i : ℕ) where
  pub byte_of_head : i < head_size q → byte (directory_bytes q.endian place (fields_in q place)) i ≡ block_byte q at place i
  unfolding block_byte
  byte_of_head l = sym (cond-true (ltb i (head_size q)) _ _ (lt-ltb i (head_size q) l))

  pub byte_of_segments : head_size q ≤ i → segments_byte q at (i - head_size q) ≡ block_byte q at place i
  unfolding block_byte
  byte_of_segments l = sym (cond-false (ltb i (head_size q)) _ _ (le-ltb i (head_size q) l))

-- the segment of a byte is one of 1,024
pub segment_few : (q : Outline) → Proper q → segments_in q ≤ 1024 → (i : ℕ) → head_size q ≤ i → i < block_size q → (i - head_size q) / segment_size q 0 < 1024
unfolding block_size
segment_few q proper few i l m =
    let n : ℕ = segments_in q in
    let size : ℕ = segment_size q 0 in
    let all : suc (segments_in q - 1) ≡ segments_in q = omega (arith, some_segments q proper) in
    let whole : (segments_in q - 1) * segment_size q 0 + segment_size q 0 ≡ segments_in q * segment_size q 0 = sym (suc-mul (n - 1) size) ∙ ap (λ k. k * size) all in
    (div-lt_iff_lt-mul (segment_positive q proper)).1
    (omega (arith, segment_most q proper (n - 1), mul-le-mul_right {m = segments_in q} {n = 1024} (segment_size q 0) few))

-- a sector of a block by its bytes, also past the last
pub sector_filled : (q : Outline) (at : ℕ → ℕ → ℕ) → Proper q → (place s n : ℕ) → n ≡ min 512 (block_size q - 512 * s)
    → sector (block q at place) s ≡ tabulate n (λ i. block_byte q at place (512 * s + i))
sector_filled q at proper place s n e =
    ⊎_elim
    (λ less.
    let z : 0 ≡ n = omega arith in
    nil_from_length (sector (block q at place) s) (omega (arith, length_sector (block q at place) s, length_block q at proper place))
    ∙ ap (λ m. tabulate m (λ i. block_byte q at place (512 * s + i))) z)
    (λ more. sector_bytes q at proper place s n more e)
    (cases_lt (block_size q) (512 * s))

-- the outline that a plan makes of what is seen
module _ (plan : Plan) (p : Picture) (v : View) (sound : Sound p) (seen : shows p v ≡ true) where
  abbrev made : Outline
  made = plan_outline plan (view_width v) (view_height v) p.kind

  pub draft_outline_lem : draft_outline plan p v ≡ made
  draft_outline_lem =
      let s = views_show p v seen in
      λ i. plan_outline plan (s.wide i) (s.high i) (s.kind i)

  pub made_proper : Proper made
  made_proper =
      let s = views_show p v seen in
      let t = s.sound sound in
      let h = fits_parts p v.area (and_parts (fits p v.area) (between 1 8 v.turn) seen).0 in
      plan_proper plan (view_width v) (view_height v) p.kind sound.kinds
      (omega (arith, s.some, s.wide)) (omega (arith, t.wide, s.wide))
      (side_some (swaps v.turn) h.0.0 h.0.1) (omega (arith, t.high, s.high))
    where
      side_some : (b : Bool) → 0 < v.area.width → 0 < v.area.height → 0 < cond b v.area.width v.area.height
      side_some true w h = w
      side_some false w h = h

  -- a sector of the draft, where one can be made
  pub draft_made : segments_in made ≤ 1024 → (place s : ℕ) → draft_sector plan p v place s ≡ sector (block made (viewed p v).at place) s
  unfolding draft_sector
  draft_made few place s =
      let few' : segments_in (draft_outline plan p v) ≤ 1024 = subst (λ (q : Outline). segments_in q ≤ 1024) (sym draft_outline_lem) few in
      cond-true (drafts plan p v) _ [] (and_from (shows p v) _ seen (le-leb (segments_in (draft_outline plan p v)) 1024 few'))
      ∙ ap (λ (q : Outline). sector (block q (viewed p v).at place) s) draft_outline_lem

  pub draft_many : 1024 < segments_in made → (place s : ℕ) → draft_sector plan p v place s ≡ []
  unfolding draft_sector
  draft_many many place s =
      let many' : 1024 < segments_in (draft_outline plan p v) = subst (λ (q : Outline). 1024 < segments_in q) (sym draft_outline_lem) many in
      cond-false (drafts plan p v) _ [] (and_right (shows p v) _ (lt-leb (segments_in (draft_outline plan p v)) 1024 many'))

pub draft_unseen : (plan : Plan) (p : Picture) (v : View) → shows p v ≡ false → (place s : ℕ) → draft_sector plan p v place s ≡ []
unfolding draft_sector
draft_unseen plan p v unseen place s = cond-false (drafts plan p v) _ [] (and_left (shows p v) _ unseen)

-- what is answered and left where there is no such sector
pub none_filled : (xs b : List ℕ) → xs ≡ [] → (0 ≡ length xs) × (b ≡ patched b 0 xs)
none_filled xs b e = (ap length (sym e), patched_nil b 0 ∙ ap (patched b 0) (sym e))

-- what is answered and left where the front of a buffer is filled with a sector
pub front_filled : (xs b b' : List ℕ) (n : ℕ) (f : ℕ → ℕ) → n ≤ length b → b' ≡ tabulate (length (take n b)) f → tabulate n f ≡ xs → (n ≡ length xs) × (b' ++ drop n b ≡ patched b 0 xs)
unfolding patched
front_filled xs b b' n f few filled same =
    let count : n ≡ length xs = sym (length-map-range_with_len f 0 n) ∙ ap length same in
    let front : b' ≡ xs = filled ∙ ap (λ m. tabulate m f) (length-take-le n b few) ∙ same in
    let end : n ≡ 0 + length xs = omega (arith, count) in
    (count, ap₂ (λ (ys : List ℕ) m. ys ++ drop m b) front end)

-- whether the check of a view refuses it, by the sides that a grid says
refuses : (b : Bool) (f : Fault) → is_err {T = Unit {0}} (refused (not b) f (Ok tt)) ≡ not b
refuses true f = refl
refuses false f = refl

pub check_refuses : (p : Picture) (v : View) {w h : ℕ} {r : Result (Unit {0}) Fault} {e : Bool} → w ≡ p.width → h ≡ p.height → r ≡ view_checked w h v → e ≡ is_err r → e ≡ not (shows p v)
check_refuses p v ew eh er ee = ee ∙ ap is_err (er ∙ ap₂ (λ w h. view_checked w h v) ew eh) ∙ refuses (shows p v) (bare ViewCheck)

-- q is the outline that a plan makes of what a view of p shows
pub record Drawn (plan : Plan) (p : Picture) (v : View) (q : Outline) : Type 0 where
  pub sound : Sound p
  pub seen : shows p v ≡ true
  pub made : q ≡ plan_outline plan (view_width v) (view_height v) p.kind

pub drawn : (plan : Plan) (p : Picture) (v : View) {e : Bool} {w h : ℕ} {k : Kind} {q : Outline} → Sound p → e ≡ not (shows p v) → e ≡ false
    → w ≡ view_width v → h ≡ view_height v → k ≡ p.kind → q ≡ plan_outline plan w h k → Drawn plan p v q
drawn plan p v sound refused passed ew eh ek eq = record {
  sound = sound;
  seen = not-false (shows p v) (sym refused ∙ passed);
  made = eq ∙ (λ i. plan_outline plan (ew i) (eh i) (ek i));
}

module _ (plan : Plan) (p : Picture) (v : View) (q : Outline) (d : Drawn plan p v q) where
  pub drawn_shows : (c : Canvas) → c.head.draft.outline ≡ q → c.view ≡ v → Shows c p
  drawn_shows c eq ev = record {
    seen = subst (λ (v : View). shows p v ≡ true) (sym ev) d.seen;
    wide = ap (λ (q : Outline). q.width) (eq ∙ d.made) ∙ ap view_width (sym ev);
    high = ap (λ (q : Outline). q.height) (eq ∙ d.made) ∙ ap view_height (sym ev);
    kind = ap (λ (q : Outline). q.kind) (eq ∙ d.made);
  }

  pub drawn_proper : Proper q
  drawn_proper = subst Proper (sym d.made) (made_proper plan p v d.sound d.seen)

  pub drawn_many : 1024 < segments_in q → (place s : ℕ) → draft_sector plan p v place s ≡ []
  drawn_many many = draft_many plan p v d.sound d.seen (subst (λ (r : Outline). 1024 < segments_in r) d.made many)

  -- a sector by its bytes
  pub drawn_sector : segments_in q ≤ 1024 → (place s n : ℕ) → n ≡ min 512 (block_size q - 512 * s)
      → tabulate n (λ i. block_byte q (viewed p v).at place (512 * s + i)) ≡ draft_sector plan p v place s
  drawn_sector few place s n count =
      sym (draft_made plan p v d.sound d.seen (subst (λ (r : Outline). segments_in r ≤ 1024) d.made few) place s
      ∙ ap (λ (r : Outline). sector (block r (viewed p v).at place) s) (sym d.made)
      ∙ sector_filled q (viewed p v).at drawn_proper place s n count)
