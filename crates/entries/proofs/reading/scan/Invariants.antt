use Rattle.std.proofs.Common.{◌≡◌, ◌+◌, ◌-◌, ◌*◌, length}
use Rattle.store.specs.Looking.{Looked}
use Rattle.entries.specs.Entries.{entries_from}
use Rattle.entries.specs.Fields.{fielded}
use Rattle.entries.proofs.Scanning.{collected}
use Rattle.entries.proofs.reading.scan.Given as goal

-- the entries from here on give what all of them give
abbrev pub invariant-loop-i : goal.invariant-loop-i
invariant-loop-i g l =
    (collected (length (g.S.Store.seen l.initial.store)) l.directory.page l.least l.fields (entries_from (l.directory.entries - l.i) l.directory.endian (g.S.Store.seen l.initial.store) (l.directory.place + 2 + 12 * l.i))
    ≡ fielded (g.S.Store.seen l.initial.store) l.directory)
    × Looked g.S.Store.seen g.S.Store.may g.S.Store.trail l.initial.store l.store
