use Rattle.std.proofs.Common.{◌^◌, ◌<◌, length, sym, ◌∙◌, arith}
use Rattle.store.proofs.Looks.{looked_none}
use Rattle.reads.proofs.Parts.{short_is, long_is}
use Rattle.entries.specs.declared.fields.Form.TheVariants.{Short, Long}
use Rattle.entries.specs.Fields.{place_of}
use Rattle.entries.proofs.Counting.{number_past, number_by}
use Rattle.entries.proofs.reading.read_number.Goals as goal

pub returns-then-place : goal.returns-then-place
returns-then-place g c =
    let bs = g.S.Store.seen c.args.store.now in
    let n : length bs < 2 ^ 31 = g.S.Store.laws.short c.args.store.now in
    let h : length bs < place_of c.args.numbers c.args.k = omega (arith, n, c.place_of-place.ensures, c.if-place.true) in
    record {
      value = sym (number_past c.args.endian bs c.args.numbers c.args.k h);
      looked = looked_none g.S.Store.seen g.S.Store.may g.S.Store.trail c.args.store.now;
    }

pub returns-in-Short : goal.returns-in-Short
returns-in-Short g c =
    let bs = g.S.Store.seen c.args.store.now in
    let r = c.read.ensures in
    record {
      value = r.value ∙ short_is c.args.endian bs _ ∙ number_by c.args.endian bs c.args.numbers c.args.k Short _ c.in-Short.is c.place_of-place.ensures;
      looked = r.looked;
    }

pub returns-in-Long : goal.returns-in-Long
returns-in-Long g c =
    let bs = g.S.Store.seen c.args.store.now in
    let r = c.read-in-Long.ensures in
    record {
      value = r.value ∙ long_is c.args.endian bs _ ∙ number_by c.args.endian bs c.args.numbers c.args.k Long _ c.in-Long.is c.place_of-place.ensures;
      looked = r.looked;
    }
