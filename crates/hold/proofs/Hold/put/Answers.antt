use Rattle.std.proofs.Common.{◌≡◌, ℕ, ◌/◌, ◌%◌, ◌<◌, List, length, set, None, Some, sym, refl, ap, ◌∙◌, arith}
use Rattle.std.proofs.lemmas.Bool.{eqb-true, eq-eqb, false≢true}
use Rattle.hold.specs.declared.slots.Sector.{Sector}
use Rattle.hold.specs.Kept.{overlaid}
use Rattle.hold.specs.Changes.{seen_by}
use Rattle.octets.specs.Sectors.{patched}
use Rattle.hold.proofs.Kept.{length_quiet, patch_same, quiet_grown, kept_same, kept_is}
use Rattle.hold.proofs.Hold.put.Goals as goal

pub returns-in-Some : goal.returns-in-Some
returns-in-Some g c =
    let place = c.args.place in
    let given = c.args.bytes.now in
    let s₀ : ℕ = c.args.place / 512 in
    let i : ℕ = c.args.place / 512 % 8 in
    let h = c.claim.new.self in
    let slots = c.claim.new.self.table.slots in
    let below = g.C.Store.seen c.claim.new.self.below in
    let t : Sector = c.in-Some.kept in
    let f : Sector = c.patch.new.self in
    let n : length slots ≡ 8 = omega arith in
    let l : i < length slots = omega arith in
    let q = c.claim.ensures.quiet in
    let p = c.patch.ensures in
    let at = c.in-Some.is in
    let m = length_quiet g.C.Store c.args.self.now h q.same in
    let put : overlaid (set slots i (Some f)) below ≡ patched (seen_by g.C.Store c.args.self.now) place given =
    patch_same slots i place t f below given l at refl c.claim.ensures.kept p.tag p.bytes p.len c.requires.one (omega (arith, c.requires.within))
    ∙ ap (λ (xs : List ℕ). patched xs place given) q.same in
    record {
      put = record { put = put; lists = quiet_grown _ slots (set slots i (Some f)) _ below _ _ q.lists; trails = quiet_grown _ slots (set slots i (Some f)) _ below _ _ q.trails };
      kept = kept_same slots i (Some f) s₀ l refl ∙ eq-eqb f.tag (s₀ / 8) (p.tag ∙ eqb-true t.tag (s₀ / 8) (sym (kept_is slots i (Some t) at s₀ refl) ∙ c.claim.ensures.kept));
    }

pub returns-in_default : goal.returns-in_default
returns-in_default g c =
    let s₀ : ℕ = c.args.place / 512 in
    absurd (false≢true (sym (kept_is c.claim.new.self.table.slots (s₀ % 8) None c.in_default.is s₀ refl) ∙ c.claim.ensures.kept))
