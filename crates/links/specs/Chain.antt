-- What a chain of directories is, whatever the order of the checks. Assumes nothing.
use Rattle.std.specs.Prelude.{◌≡◌, ℕ, zero, suc, ◌+◌, ◌*◌, ◌%◌, ◌<◌, ◌≤◌, List, length, take, Ok, ◌≢◌, slice_index}
use Rattle.octets.specs.declared.endian.Endian.{Endian}
use Rattle.octets.specs.Numbers.{short, long}
use Rattle.reads.specs.Agree.{Agree}
use Rattle.links.specs.declared.directories.Directories.{Directories}
use Rattle.links.specs.Links.{magic, entries_end, listed, places_of, walked}

-- a directory stands at a place: even, past the header, with 1 to 64 entries, and wholly within the file
pub record Stands (o : Endian) (bs : List ℕ) (place : ℕ) : Type 0 where
  pub even : place % 2 ≡ 0
  pub past : 8 ≤ place
  pub some : 1 ≤ short o bs place
  pub few : short o bs place ≤ 64
  pub within : place + 6 + 12 * short o bs place ≤ length bs

-- the place of the link of the directory at a place: after its count and its entries
abbrev pub link_of : Endian → List ℕ → ℕ → ℕ
link_of o bs place = entries_end place (short o bs place)

-- the place of the link to directory k: in the header, or at the end of the directory before
abbrev pub link_to : Endian → List ℕ → List ℕ → ℕ → ℕ
link_to o bs ds zero = 4
link_to o bs ds (suc k) = link_of o bs (slice_index ds k)

-- ds are the places of all directories of a file in a byte order
pub record WellLinked (bs : List ℕ) (o : Endian) (ds : List ℕ) : Type 0 where
  -- the first four bytes name the byte order
  pub header : take 4 bs ≡ magic o
  -- 1 to 32 directories
  pub some : 1 ≤ length ds
  pub few : length ds ≤ 32
  -- each link leads to its directory, and the last directory's own link is 0
  pub linked : (k : ℕ) → k < length ds → long o bs (link_to o bs ds k) ≡ slice_index ds k
  pub ends : long o bs (link_to o bs ds (length ds)) ≡ 0
  -- no two are the same
  pub distinct : (i k : ℕ) → i < k → k < length ds → slice_index ds i ≢ slice_index ds k
  -- each stands in the file
  pub each : (k : ℕ) → k < length ds → Stands o bs (slice_index ds k)

-- the walk accepts a file exactly if its directories are well linked, and finds just those
pub record ChainFound (bs : List ℕ) : Type 0 where
  pub sound : (d : Directories) → walked bs ≡ Ok d → WellLinked bs d.endian (places_of d) × (d ≡ listed d.endian (places_of d))
  pub complete : (o : Endian) (ds : List ℕ) → WellLinked bs o ds → walked bs ≡ Ok (listed o ds)

-- two files are as long, and agree on the header and on the count and the link of each directory
pub record SameChain (bs cs : List ℕ) (d : Directories) : Type 0 where
  pub long : length bs ≡ length cs
  pub header : Agree bs cs 0 8
  pub counts : (k : ℕ) → k < d.count → Agree bs cs (slice_index d.places k) 2
  pub links : (k : ℕ) → k < d.count → Agree bs cs (link_of d.endian bs (slice_index d.places k)) 4

-- then the walk finds the same directories in both
abbrev pub ChainLocal : Type 0
ChainLocal = (bs cs : List ℕ) (d : Directories) → walked bs ≡ Ok d → SameChain bs cs d → walked cs ≡ Ok d
