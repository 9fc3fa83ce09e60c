-- Pages of bytes that agree on what matters to them.
use Rattle.std.proofs.Common.{◌≡◌, ℕ, ◌+◌, ◌<◌, ◌⊎◌, List, length, None, Ok, Err, Result, sym, refl, ap, ◌∙◌, subst, inl, inr, ⊎_elim, arith}
use Rattle.std.proofs.lemmas.Bool.{cases_eq}
use Rattle.std.proofs.lemmas.List.{ext_get_or}
use Rattle.faults.specs.declared.fault.Fault.{Fault}
use Rattle.faults.specs.Faults.{then}
use Rattle.octets.specs.Rows.{byte}
use Rattle.links.specs.declared.directories.Directories.{Directories}
use Rattle.entries.specs.Entries.{directory_at}
use Rattle.pages.specs.declared.layout.Layout.{Layout}
use Rattle.pages.specs.Opening.{opened}
use Rattle.pages.specs.Extents.{extents, Covered}
use Rattle.stored.specs.Pixels.{picture_of, shown}
use Rattle.stored.proofs.Local.{picture_local}
use Rattle.rules.proofs.Meeting.{opened_was, page_was}
use Rattle.rules.proofs.Locality.{page_stands, opening_local}
use Rattle.law.specs.Slate.{listed}

-- Byte i matters to a page: with one directory, one of the header or of an extent; with several, every byte.
abbrev pub Matters : List ℕ → Layout → ℕ → Type 0
Matters bs l i = l.directories ≡ 1 → (i < 8) ⊎ Covered (extents bs l) i

same_found : (a b : Directories) (r : Result Directories Fault) → r ≡ Ok a → r ≡ Ok b → a ≡ b
same_found a b r e f = cc

-- with one directory there is no page but 0
pub only_page : (bs : List ℕ) (page other : ℕ) (l m : Layout) → opened bs page ≡ Ok l → l.directories ≡ 1 → opened bs other ≡ Ok m → other ≡ 0
only_page bs page other l m e one f =
    let x = opened_was bs page l e in
    let y = opened_was bs other m f in
    let same : x.found.count ≡ y.found.count = ap (λ d. d.count) (same_found x.found y.found _ x.walks y.walks) in
    let n : l.directories ≡ x.found.count = sym (ap (λ q. q.directories) (page_was bs x.found.count (directory_at x.found.endian bs page _) l x.accepted).laid.is) in
    omega (arith, y.there)

-- what is shown of an accepted page
pub shown_of_lem : (bs : List ℕ) (page : ℕ) (l : Layout) → opened bs page ≡ Ok l → shown bs page ≡ Ok (record { picture = picture_of bs l; orientation = l.orientation })
shown_of_lem bs page l e = ap (λ r. then r (λ m. Ok (record { picture = picture_of bs m; orientation = m.orientation }))) e

-- another page is not accepted
pub other_page : (bs : List ℕ) (page other : ℕ) (l : Layout) → opened bs page ≡ Ok l → l.directories ≡ 1 → 0 < other → listed (shown bs other) ≡ None
other_page bs page other l e one h = by (opened bs other) refl
  where
    by : (r : Result Layout Fault) → opened bs other ≡ r → listed (then r (λ m. Ok (record { picture = picture_of bs m; orientation = m.orientation }))) ≡ None
    by (Ok m) f = absurd (let z = only_page bs page other l m e one f in omega arith)
    by (Err f) g = refl

-- bytes that agree on all that matters to a page have the same page
pub record SamePage (bs cs : List ℕ) (page : ℕ) (l : Layout) : Type 0 where
  pub opens : opened cs page ≡ Ok l
  pub picture : picture_of cs l ≡ picture_of bs l

pub same_page : (bs cs : List ℕ) (page : ℕ) (l : Layout) → opened bs page ≡ Ok l → length cs ≡ length bs → ((i : ℕ) → Matters bs l i → byte cs i ≡ byte bs i) → SamePage bs cs page l
same_page bs cs page l e len same =
    ⊎_elim
    (λ one. let z : page ≡ 0 = only_page bs page page l l e one e in
    let covered : (i : ℕ) → Covered (extents bs l) i → byte bs i ≡ byte cs i = λ i c. sym (same i (λ _. inr c)) in
    record {
      opens = subst (λ p. opened cs p ≡ Ok l) (sym z)
          (opening_local bs cs l (subst (λ p. opened bs p ≡ Ok l) z e) one len (λ i h. sym (same (0 + i) (λ _. inl (omega arith)))) covered);
      picture = sym (picture_local bs cs l (page_stands bs page l e) len covered);
    })
    (λ many. let all : cs ≡ bs = ext_get_or 0 cs bs len (λ i _. same i (λ one. absurd (many one))) in
    record { opens = ap (λ b. opened b page) all ∙ e; picture = ap (λ b. picture_of b l) all })
    (cases_eq l.directories 1)
