-- The header of a file and the walk along the links from directory to directory. Assumes nothing.
use Rattle.std.specs.Prelude.{ℕ, zero, suc, ◌+◌, ◌-◌, ◌*◌, ◌%◌, Bool, false, cond, ◌&&◌, ◌||◌, List, [], ◌∷◌, ◌++◌, length, take, replicate, Ok, Err, Result, ◌==◌, nat_le, nat_lt, slice_index}
use Rattle.std.specs.Str.{bytes_eq}
use Rattle.octets.specs.declared.endian.Endian.{Endian}
use Rattle.octets.specs.declared.endian.Endian.TheVariants.{Little, Big}
use Rattle.octets.specs.Numbers.{short, long}
use Rattle.faults.specs.declared.fault.Check.TheVariants.{Short, Magic, Link, Cycle, Chain, Count, Torn, Page}
use Rattle.faults.specs.declared.fault.Fault.{Fault}
use Rattle.faults.specs.Faults.{fault, bare, refused, then}
use Rattle.links.specs.declared.directories.Directories.{Directories}

-- the first four bytes of a file in a byte order: II, 42 or MM, 42
abbrev pub magic : Endian → List ℕ
magic Little = 73 ∷ 73 ∷ 42 ∷ 0 ∷ []
magic Big = 77 ∷ 77 ∷ 0 ∷ 42 ∷ []

-- the byte order that the first four bytes name
abbrev pub named : List ℕ → Result Endian Fault
named head =
    cond (bytes_eq head (magic Little)) (Ok Little)
    (cond (bytes_eq head (magic Big)) (Ok Big)
    (Err (bare Magic)))

unfoldable pub headed : List ℕ → Result Endian Fault
headed bs = refused (nat_lt (length bs) 8) (bare Short) (named (take 4 bs))

-- x stands in the list
abbrev pub has : List ℕ → ℕ → Bool
has [] x = false
has (y ∷ ys) x = y == x || has ys x

-- a link leads to no place where a directory of a file of n bytes can stand
abbrev pub stray : ℕ → ℕ → Bool
stray n link = link % 2 == 1 || (nat_lt link 8 || nat_lt n (link + 2))

-- no directory has so many entries
abbrev pub bad_count : ℕ → Bool
bad_count entries = entries == 0 || nat_lt 64 entries

-- where the entries of a directory end: there stands its own link
abbrev pub entries_end : ℕ → ℕ → ℕ
entries_end place entries = place + 2 + 12 * entries

-- The checks of a link in a file of n bytes, by the field where it stands and the directories met before.
-- The page that it leads to is the number of directories met.
abbrev pub link_checked : ℕ → List ℕ → ℕ → ℕ → Result (Unit {0}) Fault
link_checked n met field link =
    refused (stray n link) (fault Link (length met) 0 field)
    (refused (has met link) (fault Cycle (length met) 0 field)
    (refused (nat_le 32 (length met)) (fault Chain (length met) 0 field)
    (Ok tt)))

-- the checks of the directory at a place: the place of its link, or the first fault
abbrev pub directory_checked : ℕ → ℕ → ℕ → ℕ → Result ℕ Fault
directory_checked n page place entries =
    refused (bad_count entries) (fault Count page 0 place)
    (refused (nat_lt n (entries_end place entries + 4)) (fault Torn page 0 place)
    (Ok (entries_end place entries)))

-- a link is followed: the place of the next link, or the first fault
unfoldable pub followed : Endian → List ℕ → List ℕ → ℕ → ℕ → Result ℕ Fault
followed o bs met field link =
    then (link_checked (length bs) met field link) (λ _.
    directory_checked (length bs) (length met) link (short o bs link))

-- the links end: a link of 0 that is not the first
abbrev pub ended : List ℕ → ℕ → Bool
ended met link = nat_lt 0 (length met) && link == 0

-- The walk from the link field on, after the directories met: all directories in order, or the first fault.
-- At most `turns` links are followed; a 33rd never is, since `followed` refuses it, so 33 turns are a whole walk.
unfoldable pub walk_from : ℕ → Endian → List ℕ → List ℕ → ℕ → Result (List ℕ) Fault
walk_from zero o bs met field = Err (fault Chain (length met) 0 field)
walk_from (suc turns) o bs met field =
    cond (ended met (long o bs field)) (Ok met)
    (then (followed o bs met field (long o bs field)) (λ next. walk_from turns o bs (met ++ long o bs field ∷ []) next))

-- the places of a file's directories, in order, or the first fault; the first link stands in bytes 4 to 7
abbrev pub chained : Endian → List ℕ → Result (List ℕ) Fault
chained o bs = walk_from 33 o bs [] 4

-- the directories at the places ds, as the code holds them: zeros after the last
unfoldable pub listed : Endian → List ℕ → Directories
listed o ds = record { endian = o; count = length ds; places = ds ++ replicate (32 - length ds) 0 }

-- the places of the directories that are held
abbrev pub places_of : Directories → List ℕ
places_of d = take d.count d.places

-- the directories of a file in a byte order, or the first fault
abbrev pub linked : Endian → List ℕ → Result Directories Fault
linked o bs = then (chained o bs) (λ ds. Ok (listed o ds))

-- the directories of a file, or the first fault
unfoldable pub walked : List ℕ → Result Directories Fault
walked bs = then (headed bs) (λ o. linked o bs)

-- the place of a page's directory, refused where there is none: not below the count, nor below 32
abbrev pub placed : Directories → ℕ → Result ℕ Fault
placed d page = refused (nat_le d.count page || nat_le 32 page) (bare Page) (Ok (slice_index d.places page))
