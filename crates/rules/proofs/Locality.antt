-- Opening a page looks at the header and the extents alone.
use Rattle.std.proofs.Common.{◌≡◌, ℕ, ◌+◌, ◌*◌, ◌<◌, List, length, get_or, Ok, sym, ap, ◌∙◌, subst, arith}
use Rattle.octets.specs.Numbers.{short}
use Rattle.reads.specs.Agree.{Agree}
use Rattle.reads.proofs.Agreeing.{short_agrees, agree_in}
use Rattle.links.specs.Chain.{link_of}
use Rattle.links.specs.Links.{walked}
use Rattle.links.proofs.Accepted.{accepted_page}
use Rattle.links.proofs.Local.{chain_local}
use Rattle.entries.specs.declared.entry.Directory.{Directory}
use Rattle.entries.specs.Entries.{directory_at}
use Rattle.pages.specs.declared.layout.Layout.{Layout}
use Rattle.pages.specs.Extents.{extents, AgreeOn}
use Rattle.pages.specs.Opening.{page_of, page_at, HasPage}
use Rattle.pages.proofs.Stages.{open_3}
use Rattle.rules.specs.Local.{PageLocal, PageStands, OpeningLocal}
use Rattle.rules.proofs.Meeting.{Paged, page_was, opened_was}
use Rattle.rules.proofs.Staying.{directory_same, same_page, same_extents}

-- a page knows its directory and the number of directories
page_knows : (bs : List ℕ) (n : ℕ) (d : Directory) (l : Layout) → page_of bs n d ≡ Ok l → (l.directory ≡ d) × (l.directories ≡ n)
page_knows bs n d l e =
    let is = (page_was bs n d l e).laid.is in
    (sym (ap (λ x. x.directory) is), sym (ap (λ x. x.directories) is))

has_paged : (bs : List ℕ) (l : Layout) → HasPage bs l → Paged bs l.directories l.directory l
has_paged bs l h =
    let d : Directory = directory_at l.directory.endian bs l.directory.page l.directory.place in
    page_was bs l.directories l.directory l (ap (page_of bs l.directories) (page_knows bs l.directories d l h).0 ∙ h)

-- the number of entries is the one that stands in the file
has_entries : (bs : List ℕ) (l : Layout) → HasPage bs l → l.directory.entries ≡ short l.directory.endian bs l.directory.place
has_entries bs l h =
    let d : Directory = directory_at l.directory.endian bs l.directory.page l.directory.place in
    ap (λ x. x.entries) (page_knows bs l.directories d l h).0

page_stays : (bs cs : List ℕ) (l : Layout) → HasPage bs l → length cs ≡ length bs → AgreeOn (extents bs l) bs cs
    → HasPage cs l × (extents cs l ≡ extents bs l)
page_stays bs cs l h len agree =
    let d = l.directory in
    let p = has_paged bs l h in
    let a = agree_in bs cs d.place (6 + 12 * d.entries) d.place 2 (omega arith) (omega arith) (directory_same bs cs l p len agree) in
    let n : short d.endian cs d.place ≡ d.entries = sym (has_entries bs l h ∙ short_agrees d.endian bs cs d.place a) in
    let same : directory_at d.endian cs d.page d.place ≡ d = λ i. record { endian = d.endian; page = d.page; place = d.place; entries = n i } in
    (ap (page_of cs l.directories) same ∙ same_page bs cs l p len agree, same_extents bs cs l p len agree)

-- the premises stand in one place alone, so that the theorem with one fewer is refused for it
pub page_local : PageLocal
page_local bs cs l h = page_stays bs cs l h

pub page_stands : PageStands
page_stands bs page l e =
    let x = opened_was bs page l e in
    let ds = x.found in
    let place = get_or ds.places page 0 in
    let k = page_knows bs ds.count (directory_at ds.endian bs page place) l x.accepted in
    (λ i. page_at (k.0 i).endian bs (k.1 i) (k.0 i).page (k.0 i).place) ∙ x.accepted

pub opening_local : OpeningLocal
opening_local bs cs l e one len header agree =
    let x = opened_was bs 0 l e in
    let ds = x.found in
    let place = get_or ds.places 0 0 in
    let k = page_knows bs ds.count (directory_at ds.endian bs 0 place) l x.accepted in
    let h = page_stands bs 0 l e in
    let at : l.directory.place ≡ place = ap (λ y. y.place) k.0 in
    let n : l.directory.entries ≡ short ds.endian bs place = ap (λ y. y.entries) k.0 in
    let w : Agree bs cs l.directory.place (6 + 12 * l.directory.entries) = directory_same bs cs l (has_paged bs l h) len agree in
    let whole : Agree bs cs place (6 + 12 * short ds.endian bs place) = subst (λ y. Agree bs cs y.place (6 + 12 * y.entries)) k.0 w in
    let first : (j : ℕ) → j < ds.count → j ≡ 0 = λ j m. omega (arith, k.1, one, m) in
    let walks : walked cs ≡ Ok ds = chain_local bs cs ds x.walks record {
      long = sym len;
      header = header;
      counts = λ j m. subst (λ q. Agree bs cs (get_or ds.places q 0) 2) (sym (first j m)) (agree_in bs cs place (6 + 12 * short ds.endian bs place) place 2 (omega arith) (omega arith) whole);
      links = λ j m. subst (λ q. Agree bs cs (link_of ds.endian bs (get_or ds.places q 0)) 4) (sym (first j m))
          (agree_in bs cs place (6 + 12 * short ds.endian bs place) (place + 2 + 12 * short ds.endian bs place) 4 (omega arith) (omega arith) whole);
    } in
    open_3 cs 0 ds walks place (accepted_page cs ds walks 0 x.there)
    ∙ sym (λ i. page_at (k.0 i).endian cs (k.1 i) (k.0 i).page (k.0 i).place)
    ∙ (page_local bs cs l h len agree).0
