-- What each refusal is called, and how checks follow one another. Assumes nothing.
use Rattle.std.specs.Prelude.{ℕ, Bool, true, false, List, ◌++◌, Ok, Err, codes, decimal, Result}
use Rattle.faults.specs.declared.fault.Check.{Check}
use Rattle.faults.specs.declared.fault.Check.TheVariants.{Past, Busy, Short, Magic, Link, Cycle, Chain, Count, Torn, Page, Order, Field, Value, Missing, Kind, Size, Tally, Segment, Outside, Small, Closed, Pages, View, Plan, Many, Space, Stage}
use Rattle.faults.specs.declared.fault.Fault.{Fault}

-- the number and the name under which a refusal is reported
pub record Report : Type 0 where
  pub number : ℕ
  pub name : List ℕ

abbrev reported : ℕ → List ℕ → Report
reported number name = record { number = number; name = name }

abbrev pub report : Check → Report
report Past = reported 1 (codes "Past")
report Busy = reported 3 (codes "Busy")
report Short = reported 4 (codes "Short")
report Magic = reported 5 (codes "Magic")
report Link = reported 6 (codes "Link")
report Cycle = reported 7 (codes "Cycle")
report Chain = reported 8 (codes "Chain")
report Count = reported 9 (codes "Count")
report Torn = reported 10 (codes "Torn")
report Page = reported 11 (codes "Page")
report Order = reported 12 (codes "Order")
report Field = reported 13 (codes "Field")
report Value = reported 14 (codes "Value")
report Missing = reported 15 (codes "Missing")
report Kind = reported 17 (codes "Kind")
report Size = reported 18 (codes "Size")
report Tally = reported 19 (codes "Tally")
report Segment = reported 20 (codes "Segment")
report Outside = reported 21 (codes "Outside")
report Small = reported 22 (codes "Small")
report Closed = reported 23 (codes "Closed")
report Pages = reported 24 (codes "Pages")
report View = reported 25 (codes "View")
report Plan = reported 26 (codes "Plan")
report Many = reported 27 (codes "Many")
report Space = reported 28 (codes "Space")
report Stage = reported 29 (codes "Stage")

abbrev pub fault : Check → ℕ → ℕ → ℕ → Fault
fault check page tag place = record { check = check; page = page; tag = tag; place = place }

-- the fault that names no page, tag or place
abbrev pub bare : Check → Fault
bare check = fault check 0 0 0

-- a check: where the test holds, the fault is the answer, and else what comes after
abbrev pub refused : {A : Type 0} → Bool → Fault → Result A Fault → Result A Fault
refused true f after = Err f
refused false f after = after

-- what follows an accepted step
abbrev pub then : {A B : Type 0} → Result A Fault → (A → Result B Fault) → Result B Fault
then (Ok x) after = after x
then (Err f) after = Err f

-- a fault as it is printed
abbrev pub printed : Fault → List ℕ
printed f =
    codes "refused " ++ (decimal (report f.check).number
    ++ (codes " " ++ ((report f.check).name
    ++ (codes " page " ++ (decimal f.page
    ++ (codes " tag " ++ (decimal f.tag
    ++ (codes " place " ++ decimal f.place))))))))
