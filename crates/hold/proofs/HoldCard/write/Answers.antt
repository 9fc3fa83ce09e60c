use Rattle.std.proofs.Common.{◌≡◌, ℕ, ◌+◌, ◌-◌, ◌/◌, ◌%◌, ◌<◌, ◌≤◌, ◌⊎◌, length, take, drop, sym, ap, ◌∙◌, inl, inr, ⊎_elim, arith, length-drop, length-take}
use Rattle.std.proofs.lemmas.List.{take_all}
use Rattle.std.proofs.lemmas.Bool.{leb-true, cases_lt}
use Rattle.hold.specs.Kept.{overlaid, kept}
use Rattle.hold.specs.KeptLaws.{length_overlaid, with_seen}
use Rattle.octets.specs.Sectors.{patched}
use Rattle.store.proofs.Changes.{grown_gain}
use Rattle.hold.proofs.Kept.{progress_none, progress_more, progress_length}
use Rattle.hold.proofs.HoldCard.write.Goals as goal

pub loop-done-init : goal.loop-done-init
loop-done-init g c = progress_none _ _

pub put-requires : goal.put-requires
put-requires g c =
    let p = c.loop-done.invariant in
    let h = leb-true _ _ (sym c.if-not-within.ensures) in
    let a = c.args.self.now in
    let below₀ = g.C.Store.seen a.below in
    let n = length_overlaid a.table.slots below₀ in
    let bytes = c.args.bytes.now in
    let fit : c.args.place + length bytes ≤ length below₀ = omega (arith, c.length.ensures) in
    let m = progress_length g.C.Store _ _ _ _ _ fit p in
    let count = c.min-count.ensures in
    let l : length (take (c.loop-done.done + c.min-count.result - c.loop-done.done) (drop c.loop-done.done bytes)) ≡ c.min-count.result =
    omega (arith, length-take (c.loop-done.done + c.min-count.result - c.loop-done.done) (drop c.loop-done.done bytes), length-drop c.loop-done.done bytes) in
    record { within = omega arith; some = omega arith; one = omega arith }

pub loop-done-preserved : goal.loop-done-preserved
loop-done-preserved g c =
    let p = c.loop-done.invariant in
    let h = leb-true _ _ (sym c.if-not-within.ensures) in
    let a = c.args.self.now in
    let below₀ = g.C.Store.seen a.below in
    let laws = g.C.Store.laws in
    let n = length_overlaid a.table.slots below₀ in
    let bytes = c.args.bytes.now in
    let done = c.loop-done.done in
    let count = c.min-count.result in
    let place = c.args.place in
    let is = c.min-count.ensures in
    let fit : place + length bytes ≤ length below₀ = omega (arith, c.length.ensures) in
    let edge : (done + count ≡ length bytes) ⊎ ((place + done + count) % 512 ≡ 0) =
    ⊎_elim (λ (z : 512 - (place + done) % 512 < length bytes - done). inr (omega arith)) (λ (z : length bytes - done ≤ 512 - (place + done) % 512). inl (omega arith))
    (cases_lt (512 - (place + done) % 512) (length bytes - done)) in
    progress_more g.C.Store _ _ _ g.C.Store.laws place done count bytes _
    fit (omega arith) (omega arith) (omega arith) edge (ap (λ (k : ℕ). take k (drop done bytes)) (let e : done + count - done ≡ count = omega arith in e)) p c.put.ensures.put c.put.ensures.kept

pub returns : goal.returns
returns g c =
    let p = c.loop-done.invariant in
    let h = leb-true _ _ (sym c.if-not-within.ensures) in
    let a = c.args.self.now in
    let below₀ = g.C.Store.seen a.below in
    let laws = g.C.Store.laws in
    let bytes = c.args.bytes.now in
    let place = c.args.place in
    let slots₀ = a.table.slots in
    let fit : place + length bytes ≤ length (overlaid slots₀ below₀) = omega (arith, c.length.ensures) in
    let put : overlaid c.loop-done.self.table.slots (g.C.Store.seen c.loop-done.self.below) ≡ patched (overlaid slots₀ below₀) place bytes =
    p.put.put ∙ ap (patched (overlaid slots₀ below₀) place) (take_all c.loop-done.done bytes c.loop-done-test.false) in
    record {
      answer = fit;
      put = put;
      lists = grown_gain (overlaid slots₀ below₀) _ place bytes _ _ put fit (λ s. with_seen slots₀ below₀ _ s (laws.held a.below s)) p.put.lists;
      trails = grown_gain (overlaid slots₀ below₀) _ place bytes _ _ put fit (λ s. with_seen slots₀ below₀ _ s (laws.trailed a.below s _ (laws.held a.below s))) p.put.trails;
      last = λ _ k. ap (λ (n : ℕ). kept c.loop-done.self.table.slots ((place + n - 1) / 512)) (let e : length bytes ≡ c.loop-done.done = omega (arith, p.upto) in e) ∙ p.last (omega (arith, p.upto));
    }
