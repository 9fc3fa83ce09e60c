use Rattle.std.proofs.Common.{◌≡◌, ℕ, ◌+◌, ◌*◌, ◌%◌, ◌<◌, false, length, set, None, sym, ap, ◌∙◌, arith, refl}
use Rattle.hold.specs.declared.slots.Sector.{Sector}
use Rattle.hold.specs.Kept.{kept, overlaid}
use Rattle.octets.specs.Sectors.{laid}
use Rattle.hold.proofs.Kept.{flush_same, flush_nogain, kept_same, kept_other, kept_is, quiet_same}
use Rattle.hold.proofs.Hold.flush.Goals as goal

pub returns-in-Some : goal.returns-in-Some
returns-in-Some g c =
    let slots = c.args.self.now.table.slots in
    let below = g.C.Store.seen c.args.self.now.below in
    let i = c.args.i in
    let t : Sector = c.in-Some.sector in
    let n : length slots ≡ 8 = omega arith in
    let l : i < length slots = omega (arith, c.requires) in
    let w = c.write_sector.ensures in
    let put : g.C.Store.seen c.write_sector.new.card ≡ laid below (512 * (8 * t.tag + i)) t.bytes = w.put ∙ ap (λ (p : ℕ). laid below p t.bytes) c.first_byte.ensures.is in
    let same : overlaid (set slots i None) (g.C.Store.seen c.write_sector.new.card) ≡ overlaid slots below =
    ap (overlaid (set slots i None)) put ∙ flush_same slots i t below l c.in-Some.is c.requires w.len in
    let free : (s : ℕ) → s % 8 ≡ i → kept (set slots i None) s ≡ false = λ s e. kept_same slots i None s l e in
    let laws = g.C.Store.laws in
    record {
      quiet = record {
        same = same;
        lists = flush_nogain slots (set slots i None) below _ _ _ (8 * t.tag + i) same (free (8 * t.tag + i) (omega (arith, c.requires))) (laws.held c.args.self.now.below) (rw (sym c.first_byte.ensures.is) w.lists);
        trails = flush_nogain slots (set slots i None) below _ _ _ (8 * t.tag + i) same (free (8 * t.tag + i) (omega (arith, c.requires)))
            (λ s. laws.trailed c.args.self.now.below s _ (laws.held c.args.self.now.below s)) (rw (sym c.first_byte.ensures.is) w.trails);
      };
      others = λ s un. kept_other slots i None s un;
      free = free;
    }

pub returns-in_default : goal.returns-in_default
returns-in_default g c = record {
  quiet = quiet_same;
  others = λ s un. refl;
  free = λ s e. kept_is c.args.self.now.table.slots c.args.i None c.in_default.is s e;
}
