-- The tags that a page needs.
use Rattle.std.proofs.Common.{◌≡◌, ℕ, Bool, true, false, cond, is_some, Some, None, Ok, Option, Result, sym, refl, ap, ◌∙◌, arith}
use Rattle.std.proofs.lemmas.Bool.{true≢false}
use Rattle.faults.specs.declared.fault.Fault.{Fault}
use Rattle.faults.specs.Faults.{then}
use Rattle.links.proofs.Chaining.{then_was}
use Rattle.entries.specs.declared.entry.Directory.{Directory}
use Rattle.entries.specs.declared.fields.Fields.{Fields}
use Rattle.entries.specs.declared.fields.Numbers.{Numbers}
use Rattle.entries.specs.declared.fields.Table.{Table}
use Rattle.pages.specs.declared.layout.Listing.{Listing}
use Rattle.pages.specs.declared.layout.SegmentKind.{SegmentKind}
use Rattle.pages.specs.declared.layout.SegmentKind.TheVariants.{Strip, Tile}
use Rattle.pages.specs.Tags.{offsets_tag, counts_tag}
use Rattle.pages.specs.Pages.{tiled, found, listing, tile_listing, complete}
use Rattle.rules.specs.Rules.{Present, NeededTags}

found_was : (d : Directory) (tag : ℕ) (m : Option Numbers) (v : Numbers) → found d tag m ≡ Ok v → m ≡ Some v
found_was d tag None v e = absurd (let z : ◌≡◌ {A = ℕ} 0 1 = cc in omega arith)
found_was d tag (Some w) v e = cc

there : (m : Option Numbers) (v : Numbers) → m ≡ Some v → Present m
there m v e = ap is_some e

some_there : (m : Option Numbers) → Present m → (v : Numbers) × (m ≡ Some v)
some_there (Some v) h = (v, refl)
some_there None h = absurd (true≢false (sym h))

-- a tag that is there is found, and what comes after it decides
go_on : {A : Type 0} (d : Directory) (tag : ℕ) (m : Option Numbers) (after : Numbers → Result A Fault) (r : Result A Fault) → Present m → ((v : Numbers) → after v ≡ r) → then (found d tag m) after ≡ r
go_on d tag m after r h k =
    let t = some_there m h in
    ap (λ x. then (found d tag x) after) t.1 ∙ k t.0

listing_was : (d : Directory) (kind : SegmentKind) (table : Table) (x : Listing) → listing d kind table ≡ Ok x → (table.offsets ≡ Some x.offsets) × (table.counts ≡ Some x.counts)
unfolding listing
listing_was d kind table x e =
    let after : Numbers → Result Listing Fault = λ offsets. then (found d (counts_tag kind) table.counts) (λ counts. Ok record { offsets = offsets; counts = counts }) in
    let a = then_was (found d (offsets_tag kind) table.offsets) after x e in
    let b = then_was (found d (counts_tag kind) table.counts) (λ counts. Ok record { offsets = a.0; counts = counts }) x a.2 in
    let z : ◌≡◌ {A = Result Listing Fault} (Ok record { offsets = a.0; counts = b.0 }) (Ok x) = b.2 in
    let w : record { offsets = a.0; counts = b.0 } ≡ x = cc in (
      found_was d (offsets_tag kind) table.offsets a.0 a.1 ∙ ap (λ y. Some y.offsets) w,
      found_was d (counts_tag kind) table.counts b.0 b.1 ∙ ap (λ y. Some y.counts) w,
    )

listing_ok : (d : Directory) (kind : SegmentKind) (table : Table) (o c : Numbers) → table.offsets ≡ Some o → table.counts ≡ Some c → listing d kind table ≡ Ok record { offsets = o; counts = c }
unfolding listing
listing_ok d kind table o c p q =
    ap (λ m. then (found d (offsets_tag kind) m) (λ offsets. then (found d (counts_tag kind) table.counts) (λ counts. Ok record { offsets = offsets; counts = counts }))) p
    ∙ ap (λ m. then (found d (counts_tag kind) m) (λ counts. Ok record { offsets = o; counts = counts })) q

tiles_was : (d : Directory) (fs : Fields) (x : Listing) → tile_listing d fs ≡ Ok x → Present fs.across × Present fs.down × (listing d Tile fs.tiles ≡ Ok x)
unfolding tile_listing
tiles_was d fs x e =
    let a = then_was (found d 322 fs.across) (λ _. then (found d 323 fs.down) (λ _. listing d Tile fs.tiles)) x e in
    let b = then_was (found d 323 fs.down) (λ _. listing d Tile fs.tiles) x a.2 in
    (there fs.across a.0 (found_was d 322 fs.across a.0 a.1), there fs.down b.0 (found_was d 323 fs.down b.0 b.1), b.2)

tiles_ok : (d : Directory) (fs : Fields) → Present fs.across → Present fs.down → tile_listing d fs ≡ listing d Tile fs.tiles
unfolding tile_listing
tiles_ok d fs a b = go_on d 322 fs.across _ (listing d Tile fs.tiles) a (λ _. go_on d 323 fs.down _ (listing d Tile fs.tiles) b (λ _. refl))

-- by whether the page is tiled
pub record Tabled (fs : Fields) (t : Bool) (offsets counts : Numbers) : Type 0 where
  pub sides : t ≡ true → Present fs.across × Present fs.down
  pub offsets_there : (cond t fs.tiles fs.strips).offsets ≡ Some offsets
  pub counts_there : (cond t fs.tiles fs.strips).counts ≡ Some counts

table_was : (d : Directory) (fs : Fields) (t : Bool) (x : Listing) → cond t (tile_listing d fs) (listing d Strip fs.strips) ≡ Ok x → Tabled fs t x.offsets x.counts
table_was d fs true x e =
    let a = tiles_was d fs x e in
    let b = listing_was d Tile fs.tiles x a.2 in
    record { sides = λ _. (a.0, a.1); offsets_there = b.0; counts_there = b.1 }
table_was d fs false x e =
    let b = listing_was d Strip fs.strips x e in
    record { sides = λ h. absurd (true≢false (sym h)); offsets_there = b.0; counts_there = b.1 }

table_ok : (d : Directory) (fs : Fields) (t : Bool) (o c : Numbers) → Tabled fs t o c → cond t (tile_listing d fs) (listing d Strip fs.strips) ≡ Ok record { offsets = o; counts = c }
table_ok d fs true o c k =
    let s = k.sides refl in
    tiles_ok d fs s.0 s.1 ∙ listing_ok d Tile fs.tiles o c k.offsets_there k.counts_there
table_ok d fs false o c k = listing_ok d Strip fs.strips o c k.offsets_there k.counts_there

pub complete_was : (d : Directory) (fs : Fields) (x : Listing) → complete d fs ≡ Ok x → NeededTags fs x.offsets x.counts
unfolding complete
complete_was d fs x e =
    let last : Result Listing Fault = cond (tiled fs) (tile_listing d fs) (listing d Strip fs.strips) in
    let a = then_was (found d 256 fs.width) (λ _. then (found d 257 fs.height) (λ _. then (found d 262 fs.photometric) (λ _. last))) x e in
    let b = then_was (found d 257 fs.height) (λ _. then (found d 262 fs.photometric) (λ _. last)) x a.2 in
    let c = then_was (found d 262 fs.photometric) (λ _. last) x b.2 in
    let t = table_was d fs (tiled fs) x c.2 in
    record {
      width = there fs.width a.0 (found_was d 256 fs.width a.0 a.1);
      height = there fs.height b.0 (found_was d 257 fs.height b.0 b.1);
      photometric = there fs.photometric c.0 (found_was d 262 fs.photometric c.0 c.1);
      sides = t.sides;
      offsets_there = t.offsets_there;
      counts_there = t.counts_there;
    }

pub complete_ok : (d : Directory) (fs : Fields) (o c : Numbers) → NeededTags fs o c → complete d fs ≡ Ok record { offsets = o; counts = c }
unfolding complete
complete_ok d fs o c n =
    let r : Result Listing Fault = Ok record { offsets = o; counts = c } in
    let t : Tabled fs (tiled fs) o c = record { sides = n.sides; offsets_there = n.offsets_there; counts_there = n.counts_there } in
    go_on d 256 fs.width _ r n.width (λ _. go_on d 257 fs.height _ r n.height (λ _. go_on d 262 fs.photometric _ r n.photometric (λ _. table_ok d fs (tiled fs) o c t)))
