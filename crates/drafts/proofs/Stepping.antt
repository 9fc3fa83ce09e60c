-- A step of a holder, from what its store did.
use Rattle.std.proofs.Common.{◌≡◌, ℕ, false, ◌⊎◌, List, [], ◌∷◌, length, Some, None, Option, sym, ap, ◌∙◌, subst, inl, inr, ⊎_elim, true≢false}
use Rattle.octets.specs.Sectors.{sector, patched, In, Lists, Touched}
use Rattle.store.specs.Rules.{Gain}
use Rattle.store.specs.Power.{write_lays}
use Rattle.store.proofs.Changes.{touched_or}
use Rattle.std.proofs.lemmas.Bool.{cond-true, and_from, lt-ltb}
use Rattle.drafts.specs.declared.call.Call.{Call}
use Rattle.drafts.specs.Mem.{Mem, Lawful, Quiet, Settled}
use Rattle.drafts.specs.Wrote.{Wrote}
use Rattle.drafts.specs.Steps.{Held, world, Answer, Write, write, answer_of, held_of, write_of, bytes_by, lays_by, lays, settles, Step}

pub quiet_then : {k m n : Mem} → Quiet k m → Quiet m n → Quiet k n
quiet_then p q = record {
  seen = q.seen ∙ p.seen;
  may = record { none = λ s c i. p.may.none s c (q.may.none s c i) };
  trail = record { none = λ s c i. p.trail.none s c (q.trail.none s c i) };
}

pub settled_quiet : {k m n : Mem} → Settled k m → Quiet m n → Settled k n
settled_quiet {k} {m} {n} p q = record {
  seen = q.seen ∙ p.seen;
  may = record { only = λ s c i. p.may.only s c (q.may.none s c i) ∙ ap (λ b. sector b s) (sym q.seen) };
  trail = record { none = λ s c i. p.trail.none s c (q.trail.none s c i) };
}

-- nothing is written where nothing is laid down
none_seen : (bs : List ℕ) (w : Option Write) → w ≡ None → bytes_by bs w ≡ bs
none_seen bs w e = ap (bytes_by bs) e

-- a call that only looks
pub quiet_step : (c : Call) (h k : Held) (a : Answer) {m n : Mem} → Quiet m n → a ≡ answer_of h m.seen c → k ≡ held_of h m.seen c
    → write_of h m.seen c ≡ None → settles h c ≡ false → Step c (world h m) a (world k n)
quiet_step c h k a {m} {n} q e f w z = record {
  answer = e;
  holds = f;
  seen = q.seen ∙ sym (none_seen m.seen (write_of h m.seen c) w);
  may = λ s x i. inl (q.may.none s x i);
  settled = λ y. absurd (true≢false (sym y ∙ z));
  trail = λ s x i. inl (q.trail.none s x i);
}

-- a call that settles the store, and looks
pub settled_step : (c : Call) (h k : Held) (a : Answer) {m n : Mem} → Lawful m → Settled m n → a ≡ answer_of h m.seen c → k ≡ held_of h m.seen c
    → write_of h m.seen c ≡ None → Step c (world h m) a (world k n)
settled_step c h k a {m} {n} law q e f w =
    let is : (s : ℕ) (x : List ℕ) → In x (n.may s) → x ≡ sector m.seen s = λ s x i. q.may.only s x i ∙ ap (λ b. sector b s) q.seen in
    record {
      answer = e;
      holds = f;
      seen = q.seen ∙ sym (none_seen m.seen (write_of h m.seen c) w);
      may = λ s x i. inl (subst (λ y. In y (m.may s)) (sym (is s x i)) (law.held s));
      settled = λ _. is;
      trail = λ s x i. inl (q.trail.none s x i);
    }

lays_is : (bs : List ℕ) (place : ℕ) (given : List ℕ) (s : ℕ) → Touched place (length given) s → write_lays bs place given s ≡ sector (patched bs place given) s ∷ []
unfolding write_lays
lays_is bs place given s t = cond-true _ _ _ (and_from _ _ (lt-ltb _ _ t.0) (and_from _ _ (lt-ltb _ _ t.1) (lt-ltb _ _ t.2)))

-- what a list gained by a write is what the write is laid down to write
gained : (bs now : List ℕ) (place : ℕ) (given : List ℕ) (old new : Lists) → now ≡ patched bs place given → Gain now place (length given) old new
    → (s : ℕ) (x : List ℕ) → In x (new s) → In x (old s) ⊎ In x (write_lays bs place given s)
gained bs now place given old new e g s x i =
    ⊎_elim
    (λ (t : Touched place (length given) s). ⊎_elim
    (λ (q : x ≡ sector now s). inr (subst (λ (xs : List (List ℕ)). In x xs) (sym (lays_is bs place given s t)) (inl (q ∙ ap (λ (b : List ℕ). sector b s) e))))
    inl
    (g.touched s t x i))
    (λ (un : Touched place (length given) s → ⊥). inl (g.others s un x i))
    (touched_or place (length given) s)

-- a call that makes one write, after reads
pub wrote_step : (c : Call) (h k : Held) (a : Answer) {l m n : Mem} (place : ℕ) (given : List ℕ) → Quiet l m → Wrote m place given n
    → a ≡ answer_of h l.seen c → k ≡ held_of h l.seen c → write_of h l.seen c ≡ Some (write place given) → settles h c ≡ false → Step c (world h l) a (world k n)
wrote_step c h k a {l} {m} {n} place given q w e f b z =
    let now : n.seen ≡ patched l.seen place given = w.seen ∙ ap (λ o. patched o place given) q.seen in
    let laid : lays h l.seen c ≡ write_lays l.seen place given = ap (lays_by l.seen) b in
    let old : (s : ℕ) (x : List ℕ) → In x (write_lays l.seen place given s) → In x (lays h l.seen c s) = λ s x i. subst (λ (g : Lists). In x (g s)) (sym laid) i in
    record {
      answer = e;
      holds = f;
      seen = now ∙ sym (ap (bytes_by l.seen) b);
      may = λ s x i. ⊎_elim (λ j. inl (q.may.none s x j)) (λ j. inr (old s x j)) (gained l.seen n.seen place given m.may n.may now w.may s x i);
      settled = λ y. absurd (true≢false (sym y ∙ z));
      trail = λ s x i. ⊎_elim (λ j. inl (q.trail.none s x j)) (λ j. inr (old s x j)) (gained l.seen n.seen place given m.trail n.trail now w.trail s x i);
    }
