-- What the opening of a page answers. Assumes nothing.
use Rattle.std.specs.Prelude.{◌≡◌, ℕ, List, Ok, Result}
use Rattle.faults.specs.declared.fault.Fault.{Fault}
use Rattle.faults.specs.Faults.{then}
use Rattle.octets.specs.declared.endian.Endian.{Endian}
use Rattle.links.specs.Links.{walked, placed}
use Rattle.entries.specs.declared.entry.Directory.{Directory}
use Rattle.entries.specs.Entries.{directory_at}
use Rattle.entries.specs.Fields.{fielded}
use Rattle.pages.specs.declared.layout.Layout.{Layout}
use Rattle.pages.specs.Pages.{laid_out, values_of}
use Rattle.pages.specs.Segments.{filled}

-- The page with a directory, in a file with so many directories, or the first fault: the checks of its entries, of the whole page
-- and of its segments.
unfoldable pub page_of : List ℕ → ℕ → Directory → Result Layout Fault
page_of bs directories d =
    then (fielded bs d) (λ fs.
    then (laid_out d directories fs (values_of d.endian bs fs)) (λ l.
    filled bs l))

-- the page with a directory at a place, in a byte order: no header is looked at
abbrev pub page_at : Endian → List ℕ → ℕ → ℕ → ℕ → Result Layout Fault
page_at o bs directories page place = page_of bs directories (directory_at o bs page place)

-- a page of a file, or the first fault
unfoldable pub opened : List ℕ → ℕ → Result Layout Fault
opened bs page =
    then (walked bs) (λ ds.
    then (placed ds page) (λ place.
    page_at ds.endian bs ds.count page place))

-- the bytes have a page of this layout at its directory's place, whatever their header
abbrev pub HasPage : List ℕ → Layout → Type 0
HasPage bs l = page_at l.directory.endian bs l.directories l.directory.page l.directory.place ≡ Ok l
