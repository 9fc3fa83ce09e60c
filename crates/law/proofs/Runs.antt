-- The law over a run, call by call.
use Rattle.std.proofs.Common.{◌≡◌, ℕ, ◌^◌, ◌<◌, ◌⊎◌, List, [], ◌∷◌, ◌++◌, length, Some, Option, sym, refl, ap, ◌∙◌, subst, inl, inr, ⊎_elim, append_assoc, append-nil}
use Rattle.octets.specs.Sectors.{In, Lists}
use Rattle.drafts.specs.declared.call.Call.{Call}
use Rattle.drafts.specs.declared.call.Call.TheVariants.{Open, Pixel, Window, Arrow, Begin, Carry, Rest, Switch, Keep, Scrap}
use Rattle.drafts.specs.Mem.{Mem}
use Rattle.drafts.specs.Steps.{Answer, Held, World, world, fresh, Step, Sound, Write, answer_of, held_of, bytes_of, lays, lays_by}
use Rattle.law.specs.Slate.{Slate}
use Rattle.law.specs.Book.{Book, book, book_of, buffer_by, under}
use Rattle.law.specs.Run.{Line, made, Stepped, Runs, Right, turned, ends, Told, Written, LawfulRun, RunsLawful}
use Rattle.law.proofs.Good.{Good, At, book_is, picture_is, sound_of}
use Rattle.law.proofs.Founds.{safe}
use Rattle.law.proofs.Outcomes.{Moves, Outcome, pixel_keeps, window_keeps, arrow_keeps, write_is}
use Rattle.law.proofs.Opens.{open_keeps, rest_keeps, scrap_keeps}
use Rattle.law.proofs.Begins.{begin_keeps}
use Rattle.law.proofs.Carries.{carry_keeps}
use Rattle.law.proofs.Switches.{switch_keeps, keep_keeps}

-- each call answers as is due and keeps what holds between calls
pub keeps : (c : Call) (h : Held) (bs : List ℕ) (may may' : Lists) (sl : Slate) → Good h bs may sl → Moves h bs c may may'
    → Outcome (book sl h.draft bs) c (answer_of h bs c) (held_of h bs c) (bytes_of h bs c) may'
keeps (Open page) h bs may may' sl = open_keeps page h bs may may' sl
keeps (Pixel x y) h bs may may' sl = pixel_keeps x y h bs may may' sl
keeps (Window area room) h bs may may' sl = window_keeps area room h bs may may' sl
keeps Arrow h bs may may' sl = arrow_keeps h bs may may' sl
keeps (Begin v plan) h bs may may' sl = begin_keeps v plan h bs may may' sl
keeps Carry h bs may may' sl = carry_keeps h bs may may' sl
keeps Rest h bs may may' sl = rest_keeps h bs may may' sl
keeps Switch h bs may may' sl = switch_keeps h bs may may' sl
keeps Keep h bs may may' sl = keep_keeps h bs may may' sl
keeps Scrap h bs may may' sl = scrap_keeps h bs may may' sl

-- the lines so far are answered as is due, and the holder is where they lead
pub record HeldTo (start : Mem) (done : List Line) (w : World) : Type 0 where
  pub told : Told (book_of start.seen) done
  pub trail : (s : ℕ) (x : List ℕ) → In x (w.mem.trail s) → In x (start.trail s) ⊎ Written (book_of start.seen) done s x
  pub at : At (ends (book_of start.seen) done) w.held w.mem.seen w.mem.may

told_more : (b : Book) (ls : List Line) (l : Line) → Told b ls → Right (ends b ls) l → Told b (ls ++ (l ∷ []))
told_more b [] l t r = (r, tt)
told_more b (x ∷ xs) l t r = (t.0, told_more (turned b x) xs l t.1 r)

ends_more : (b : Book) (ls : List Line) (l : Line) → turned (ends b ls) l ≡ ends b (ls ++ (l ∷ []))
ends_more b [] l = refl
ends_more b (x ∷ xs) l = ends_more (turned b x) xs l

written_more : (b : Book) (ls : List Line) (l : Line) (s : ℕ) (x : List ℕ) → Written b ls s x → Written b (ls ++ (l ∷ [])) s x
written_more b [] l s x h = absurd h
written_more b (y ∷ ys) l s x (inl h) = inl h
written_more b (y ∷ ys) l s x (inr h) = inr (written_more (turned b y) ys l s x h)

written_last : (b : Book) (ls : List Line) (l : Line) (s : ℕ) (x : List ℕ) → In x (under (ends b ls) (Some (made l)) s) → Written b (ls ++ (l ∷ [])) s x
written_last b [] l s x h = inl h
written_last b (y ∷ ys) l s x h = inr (written_last (turned b y) ys l s x h)

pub held_sound : (start : Mem) (done : List Line) (w : World) → HeldTo start done w → Sound w
held_sound start done w h = sound_of w.held w.mem (ends (book_of start.seen) done).slate h.at.good

-- what a step writes is what the book says
step_under : (c : Call) (k : Book) (v : World) (s : ℕ) (x : List ℕ) → At k v.held v.mem.seen v.mem.may → In x (lays v.held v.mem.seen c s) → In x (under k (Some c) s)
step_under c k v s x a i =
    subst (λ (z : Book). In x (under z (Some c) s)) (book_is k v.held.draft v.mem.seen a.draft a.bytes)
    (subst (λ (w : Option Write). In x (lays_by v.mem.seen w s)) (write_is c v.held v.mem.seen v.mem.may k.slate a.good) i)

step_outcome : (c : Call) (a : Answer) (k : Book) (v w : World) → At k v.held v.mem.seen v.mem.may → Step c v a w → Outcome k c a w.held w.mem.seen w.mem.may
step_outcome c a k v w at s =
    let h = v.held in let bs = v.mem.seen in let may' = w.mem.may in
    let o = keeps c h bs v.mem.may may' k.slate at.good (record { gain = s.may; settled = s.settled }) in
    subst (λ (z : Book). Outcome z c a w.held w.mem.seen may') (book_is k h.draft bs at.draft at.bytes)
    (subst (λ (z : List ℕ). Outcome (book k.slate h.draft bs) c a w.held z may') (sym s.seen)
    (subst (λ (z : Held). Outcome (book k.slate h.draft bs) c a z (bytes_of h bs c) may') (sym s.holds)
    (subst (λ (z : Answer). Outcome (book k.slate h.draft bs) c z (held_of h bs c) (bytes_of h bs c) may') (sym s.answer) o)))

-- one line more
pub held_more : (start : Mem) (done : List Line) (v w : World) (l : Line) → HeldTo start done v → Stepped v l w → HeldTo start (done ++ (l ∷ [])) w
held_more start done v w l h s =
    let b = book_of start.seen in
    let k = ends b done in
    let e = s.step (held_sound start done v h) in
    let o = step_outcome (made l) l.answer k v w h.at e in
    record {
      told = told_more b done l h.told (record { answer = o.right; buffer = s.buffer ∙ ap (λ p. buffer_by p l.call l.before) (picture_is v.held v.mem.seen v.mem.may k.slate h.at.good) });
      trail = λ t x i. ⊎_elim
          (λ y. ⊎_elim (λ z. inl z) (λ z. inr (written_more b done l t x z)) (h.trail t x y))
          (λ y. inr (written_last b done l t x (step_under (made l) k v t x h.at y)))
          (e.trail t x i);
      at = subst (λ (z : Book). At z w.held w.mem.seen w.mem.may) (ends_more b done l) o.at;
    }

-- a holder just made, whatever is on the store
pub held_none : (m : Mem) → length m.seen < 2 ^ 31 → HeldTo m [] (world fresh m)
held_none m short = record {
  told = tt;
  trail = λ s x i. inl i;
  at = record {
    draft = refl;
    bytes = refl;
    good = record { short = short; turn = refl; shown = record { none = refl; shows = refl; picture = refl; ledger = λ page. refl } };
  };
}

pub held_law : (start : Mem) (done : List Line) (w : World) → HeldTo start done w → LawfulRun start done w.mem
held_law start done w h = record {
  answers = h.told;
  seen = sym h.at.bytes;
  trail = h.trail;
  found = safe (ends (book_of start.seen) done) w.held w.mem h.at;
}

-- from any point of a run on
held_runs : (start : Mem) (done : List Line) (v : World) (ls : List Line) (w : World) → HeldTo start done v → Runs v ls w → HeldTo start (done ++ ls) w
held_runs start done v [] w h e = subst (λ (d : List Line). HeldTo start d w) (sym (append-nil done)) (subst (HeldTo start done) e h)
held_runs start done v (l ∷ ls) w h r =
    subst (λ (d : List Line). HeldTo start d w) (append_assoc done (l ∷ []) ls)
    (held_runs start (done ++ (l ∷ [])) r.0 ls w (held_more start done v r.0 l h r.1) r.2)

pub runs_lawful : RunsLawful
runs_lawful m lines w law r = held_law m lines w (held_runs m [] (world fresh m) lines w (held_none m law.short) r)
