-- Single bytes of what may be found.
use Rattle.std.proofs.Common.{◌≡◌, ℕ, ◌+◌, ◌*◌, ◌/◌, ◌%◌, Bool, true, false, cond, ◌⊎◌, List, [], ◌∷◌, length, Some, None, Option, sym, ap, ◌∙◌, inl, inr, ⊎_elim, arith}
use Rattle.octets.specs.Rows.{byte}
use Rattle.octets.specs.Sectors.{sector, patched, In, Lists}
use Rattle.octets.proofs.Patches.{get_or_sector}
use Rattle.store.specs.Power.{Cut, write_lays, touches}
use Rattle.drafts.specs.Steps.{Write, bytes_by, lays_by}

-- byte i can only be found as it stands in bs
abbrev pub Firm : List ℕ → Lists → ℕ → Type 0
Firm bs may i = (x : List ℕ) → In x (may (i / 512)) → byte x (i % 512) ≡ byte bs i

-- a may list gains at most what a write is laid down to write
abbrev pub Gains : List ℕ → Option Write → Lists → Lists → Type 0
Gains bs w may may' = (s : ℕ) (x : List ℕ) → In x (may' s) → In x (may s) ⊎ In x (lays_by bs w s)

pub sector_byte : (bs : List ℕ) (i : ℕ) → byte (sector bs (i / 512)) (i % 512) ≡ byte bs i
sector_byte bs i =
    let whole : 512 * (i / 512) + i % 512 ≡ i = omega arith in
    get_or_sector bs (i / 512) (i % 512) 0 (omega arith) ∙ ap (byte bs) whole

in_cond : (q : Bool) (x y : List ℕ) → In x (cond q (y ∷ []) []) → x ≡ y
in_cond true x y (inl e) = e
in_cond true x y (inr h) = absurd h
in_cond false x y h = absurd h

pub in_lays : (bs : List ℕ) (place : ℕ) (given : List ℕ) (s : ℕ) (x : List ℕ) → In x (write_lays bs place given s) → x ≡ sector (patched bs place given) s
unfolding write_lays
in_lays bs place given s x h = in_cond (touches place (length given) s) x (sector (patched bs place given) s) h

-- what a write is laid down to write has the bytes after it
pub laid_byte : (bs : List ℕ) (w : Option Write) (i : ℕ) (x : List ℕ) → In x (lays_by bs w (i / 512)) → byte x (i % 512) ≡ byte (bytes_by bs w) i
laid_byte bs None i x h = absurd h
laid_byte bs (Some w) i x h =
    ap (λ z. byte z (i % 512)) (in_lays bs w.place w.given (i / 512) x h) ∙ sector_byte (patched bs w.place w.given) i

-- a byte that is firm and that the write under way leaves
pub found_byte : (bs cs : List ℕ) (may : Lists) (w : Option Write) (found : List ℕ) (i : ℕ) → Cut bs may (lays_by bs w) found → Firm cs may i → byte (bytes_by bs w) i ≡ byte cs i
    → byte found i ≡ byte cs i
found_byte bs cs may w found i c firm e =
    sym (sector_byte found i)
    ∙ ⊎_elim (λ h. firm (sector found (i / 512)) h) (λ h. laid_byte bs w i (sector found (i / 512)) h ∙ e) (c.each (i / 512))

pub firm_as : (bs cs : List ℕ) (may : Lists) (i : ℕ) → byte bs i ≡ byte cs i → Firm bs may i → Firm cs may i
firm_as bs cs may i e firm x h = firm x h ∙ e

-- a byte stays firm that a write leaves
pub firm_after : (bs cs : List ℕ) (may may' : Lists) (w : Option Write) (i : ℕ) → Gains bs w may may' → byte (bytes_by bs w) i ≡ byte cs i → Firm cs may i → Firm cs may' i
firm_after bs cs may may' w i g e firm x h = ⊎_elim (firm x) (λ k. laid_byte bs w i x k ∙ e) (g (i / 512) x h)

-- after a settle every byte is firm
pub firm_settled : (bs : List ℕ) (may : Lists) → ((s : ℕ) (x : List ℕ) → In x (may s) → x ≡ sector bs s) → (i : ℕ) → Firm bs may i
firm_settled bs may h i x k = ap (λ z. byte z (i % 512)) (h (i / 512) x k) ∙ sector_byte bs i
