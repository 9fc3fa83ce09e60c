use Rattle.std.proofs.Common.{◌≡◌, ℕ, ◌/◌, ◌%◌, ◌<◌, length, set, Some, refl, ◌∙◌, arith}
use Rattle.std.proofs.lemmas.Bool.{eq-eqb}
use Rattle.hold.specs.declared.slots.Sector.{Sector}
use Rattle.hold.specs.Kept.{overlaid}
use Rattle.hold.proofs.Kept.{quiet_trans, quiet_table, length_quiet, load_same, kept_same}
use Rattle.hold.proofs.Hold.claim.Goals as goal

pub read_sector-requires : goal.read_sector-requires
read_sector-requires g c = omega (arith, c.requires, length_quiet g.C.Store _ _ c.flush.ensures.quiet.same)

pub returns : goal.returns
returns g c =
    let s₀ = c.args.sector in
    let i : ℕ = c.args.sector % 8 in
    let slots = c.flush.new.self.table.slots in
    let below = g.C.Store.seen c.flush.new.self.below in
    let f : Sector = record { tag = c.args.sector / 8; bytes = c.read_sector.new.bytes } in
    let n : length slots ≡ 8 = omega arith in
    let l : i < length slots = omega arith in
    let r = c.read_sector.ensures in
    let same : overlaid (set slots i (Some f)) below ≡ overlaid slots below = load_same slots i s₀ f below l refl c.flush.ensures.free refl r.got in
    record {
      quiet = quiet_trans c.flush.ensures.quiet (quiet_table _ _ r.same same g.C.Store.laws r.lists r.trails);
      kept = kept_same slots i (Some f) s₀ l refl ∙ eq-eqb (s₀ / 8) (s₀ / 8) refl;
    }
