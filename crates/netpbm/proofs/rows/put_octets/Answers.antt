use Rattle.std.proofs.Common.{ℕ, ◌+◌, ◌/◌, [], ◌∷◌, sym, ap, ◌∙◌, arith}
use Rattle.std.proofs.lemmas.List.FromFn.{length-map-range_with_len, map-range_with_len_more}
use Rattle.raster.specs.Picture.{Picture}
use Rattle.pnm.specs.Netpbm.{octet}
use Rattle.pnm.proofs.Cursors.{wrote_none, wrote_then, wrote_as, wrote_length}
use Rattle.netpbm.specs.Asked.{asked_none, asked_then}
use Rattle.netpbm.proofs.rows.put_octets.Goals as goal

pub loop-place-init : goal.loop-place-init
loop-place-init g c = record { asked = asked_none _; wrote = wrote_none _ (omega (arith, c.requires.room)) }

pub put_byte-requires : goal.put_byte-requires
put_byte-requires g c =
    let p = g.G.Grid.picture c.args.grid.now in
    let f : ℕ → ℕ = octet p c.args.row in
    omega (
      arith,
      c.requires.room,
      c.size.ensures.width,
      c.div_ceil-place-end.ensures,
      c.loop-place-test.true,
      c.loop-place.invariant.wrote.put.place,
      wrote_length c.loop-place.invariant.wrote,
      length-map-range_with_len f 0 c.loop-place.place,
      length-map-range_with_len f 0 ((p.width + 7) / 8),
    )

pub loop-place-preserved : goal.loop-place-preserved
loop-place-preserved g c =
    let f : ℕ → ℕ = octet (g.G.Grid.picture c.args.grid.now) c.args.row in
    let same = c.octet-b.ensures.value ∙ ap (λ (q : Picture). octet q c.args.row c.loop-place.place) c.loop-place.invariant.asked.kept in
    record {
      asked = asked_then c.loop-place.invariant.asked c.octet-b.ensures.asked;
      wrote = wrote_as (sym (map-range_with_len_more f 0 c.loop-place.place c.loop-place.place (omega arith)))
          (wrote_then c.loop-place.invariant.wrote (wrote_as (ap (λ b. b ∷ []) same) c.put_byte.ensures));
    }
