use Rattle.std.proofs.Common.{◌-◌, ◌<◌, ◌≤◌, length, sym, arith}
use Rattle.octets.proofs.Laid.{laid_past}
use Rattle.store.proofs.Changes.{front_is, sector_put, sector_gain, past_gain}
use Rattle.hold.proofs.write_sector.Goals as goal

pub returns-then-place-n : goal.returns-then-place-n
returns-then-place-n g c =
    let f = c.write.ensures in
    let xs = g.C.Store.seen c.args.card.now in
    let ys = c.args.bytes.now in
    let p = c.args.place in
    let h : p < length xs = omega arith in
    let e = front_is ys (length xs - p) c.min-count.result c.told-bytes (omega arith) in
    record {
      len = c.told-bytes;
      put = sector_put c.write.result xs _ p ys _ h e f.answer f.put;
      lists = sector_gain c.write.result xs _ p ys _ _ _ h e c.told-bytes f.answer f.lists;
      trails = sector_gain c.write.result xs _ p ys _ _ _ h e c.told-bytes f.answer f.trails;
    }

pub returns-else-place-n : goal.returns-else-place-n
returns-else-place-n g c =
    let xs = g.C.Store.seen c.args.card.now in
    let h : length xs ≤ c.args.place = omega arith in
    record { len = c.told-bytes; put = sym (laid_past xs c.args.place c.args.bytes.now h); lists = past_gain _ _ _; trails = past_gain _ _ _ }
