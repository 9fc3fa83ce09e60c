use Rattle.std.proofs.Common.{◌-◌, ◌<◌, length, arith, length-take, rules}
use Rattle.std.proofs.lemmas.List.{places}
use Rattle.store.proofs.Changes.{sector_got}
use Rattle.hold.proofs.read_sector.Goals as goal

pub returns : goal.returns
returns g c =
    let f = c.read.ensures in
    let xs = g.S.Store.seen c.args.store.now in
    let p = c.args.place in
    let h : p < length xs = c.requires in
    let t = length-take (c.min-count.result - 0) c.args.bytes.now in
    record {
      len = search (rules, places);
      got = λ k. sector_got c.read.result xs c.read.new.buffer _ _ p (omega (arith, c.told-bytes)) h f.answer f.got k;
      same = f.same;
      lists = f.lists;
      trails = f.trails;
    }
