-- What a call comes to: it is answered as is due, and what holds between calls still holds.
use Rattle.std.proofs.Common.{◌≡◌, ℕ, true, ◌⊎◌, List, Ok, Err, sym, refl, ap, subst, ⊎_elim}
use Rattle.faults.specs.declared.fault.Fault.{Fault}
use Rattle.octets.specs.Sectors.{sector, In, Lists}
use Rattle.raster.specs.declared.grid.Area.{Area}
use Rattle.raster.specs.Picture.{pixel_of}
use Rattle.netpbm.specs.Window.{window_answer}
use Rattle.drafts.specs.declared.call.Call.{Call}
use Rattle.drafts.specs.declared.call.Call.TheVariants.{Open, Pixel, Window, Arrow, Begin, Carry, Rest, Switch, Keep, Scrap}
use Rattle.drafts.specs.declared.call.Reply.TheVariants.{Number}
use Rattle.drafts.specs.Steps.{Held, Answer, number, answer_of, write_of, lays, settles, carry_write_by}
use Rattle.law.specs.Slate.{Slate}
use Rattle.law.specs.Book.{Book, book, due, after, write_in}
use Rattle.law.proofs.Good.{Good, At, Less, good_less, picture_is}

-- what a call does to the may lists
pub record Moves (h : Held) (bs : List ℕ) (c : Call) (may may' : Lists) : Type 0 where
  pub gain : (s : ℕ) (x : List ℕ) → In x (may' s) → In x (may s) ⊎ In x (lays h bs c s)
  pub settled : settles h c ≡ true → (s : ℕ) (x : List ℕ) → In x (may' s) → x ≡ sector bs s

pub record Outcome (k : Book) (c : Call) (a : Answer) (h : Held) (bs : List ℕ) (may : Lists) : Type 0 where
  pub right : a ≡ due k c
  pub at : At (after k c a) h bs may

-- a call that is laid down to write nothing
pub nothing_gained : (may may' : Lists) → ((s : ℕ) (x : List ℕ) → In x (may' s) → In x (may s) ⊎ ⊥) → Less may' may
nothing_gained may may' g s x h = ⊎_elim (λ k. k) (λ k. absurd k) (g s x h)

-- a refused call
pub refused : (c : Call) (f : Fault) (h : Held) (bs : List ℕ) (may may' : Lists) (sl : Slate) → Good h bs may sl → Less may' may → Err f ≡ due (book sl h.draft bs) c
    → Outcome (book sl h.draft bs) c (Err f) h bs may'
refused c f h bs may may' sl g less e = record { right = e; at = record { draft = refl; bytes = refl; good = good_less h bs may may' sl less g } }

-- a question
same_after : (k : Book) (c : Call) (a : Answer) → ((b : Answer) → after k c b ≡ k) → k ≡ after k c a
same_after k c a e = sym (e a)

asked : (c : Call) (a : Answer) (h : Held) (bs : List ℕ) (may may' : Lists) (sl : Slate) → Good h bs may sl → Less may' may → a ≡ due (book sl h.draft bs) c
    → ((b : Answer) → after (book sl h.draft bs) c b ≡ book sl h.draft bs) → Outcome (book sl h.draft bs) c a h bs may'
asked c a h bs may may' sl g less e n = record {
  right = e;
  at = subst (λ (z : Book). At z h bs may') (sym (n a)) (record { draft = refl; bytes = refl; good = good_less h bs may may' sl less g });
}

pixel_after : (k : Book) (x y : ℕ) (a : Answer) → after k (Pixel x y) a ≡ k
pixel_after k x y (Ok _) = refl
pixel_after k x y (Err _) = refl

window_after : (k : Book) (area : Area) (room : ℕ) (a : Answer) → after k (Window area room) a ≡ k
window_after k area room (Ok _) = refl
window_after k area room (Err _) = refl

arrow_after : (k : Book) (a : Answer) → after k Arrow a ≡ k
arrow_after k (Ok _) = refl
arrow_after k (Err _) = refl

pub pixel_keeps : (x y : ℕ) (h : Held) (bs : List ℕ) (may may' : Lists) (sl : Slate) → Good h bs may sl → Moves h bs (Pixel x y) may may'
    → Outcome (book sl h.draft bs) (Pixel x y) (answer_of h bs (Pixel x y)) h bs may'
pixel_keeps x y h bs may may' sl g m =
    asked (Pixel x y) (answer_of h bs (Pixel x y)) h bs may may' sl g (nothing_gained may may' m.gain)
    (ap (λ p. number (pixel_of p x y)) (picture_is h bs may sl g)) (pixel_after (book sl h.draft bs) x y)

pub window_keeps : (area : Area) (room : ℕ) (h : Held) (bs : List ℕ) (may may' : Lists) (sl : Slate) → Good h bs may sl → Moves h bs (Window area room) may may'
    → Outcome (book sl h.draft bs) (Window area room) (answer_of h bs (Window area room)) h bs may'
window_keeps area room h bs may may' sl g m =
    asked (Window area room) (answer_of h bs (Window area room)) h bs may may' sl g (nothing_gained may may' m.gain)
    (ap (λ p. number (window_answer p area room)) (picture_is h bs may sl g)) (window_after (book sl h.draft bs) area room)

pub arrow_keeps : (h : Held) (bs : List ℕ) (may may' : Lists) (sl : Slate) → Good h bs may sl → Moves h bs Arrow may may'
    → Outcome (book sl h.draft bs) Arrow (answer_of h bs Arrow) h bs may'
arrow_keeps h bs may may' sl g m =
    asked Arrow (answer_of h bs Arrow) h bs may may' sl g (nothing_gained may may' m.gain) (ap (λ t. Ok (Number t)) g.turn) (arrow_after (book sl h.draft bs))

-- what a call writes is what the book says
pub write_is : (c : Call) (h : Held) (bs : List ℕ) (may : Lists) (sl : Slate) → Good h bs may sl → write_of h bs c ≡ write_in (book sl h.draft bs) c
write_is (Open page) h bs may sl g = refl
write_is (Pixel x y) h bs may sl g = refl
write_is (Window area room) h bs may sl g = refl
write_is Arrow h bs may sl g = refl
write_is (Begin v plan) h bs may sl g = refl
write_is Carry h bs may sl g = ap (λ p. carry_write_by p h.draft) (picture_is h bs may sl g)
write_is Rest h bs may sl g = refl
write_is Switch h bs may sl g = refl
write_is Keep h bs may sl g = refl
write_is Scrap h bs may sl g = refl
