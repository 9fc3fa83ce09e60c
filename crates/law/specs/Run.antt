-- The law over whole runs of a holder, whatever its store holds at first. Assumes nothing.
use Rattle.std.specs.Prelude.{◌≡◌, ℕ, ◌⊎◌, List, [], ◌∷◌, length, Some, Option}
use Rattle.octets.specs.Sectors.{In}
use Rattle.store.specs.Power.{Cut}
use Rattle.drafts.specs.declared.call.Call.{Call}
use Rattle.drafts.specs.declared.call.Call.TheVariants.{Open, Pixel, Window, Arrow, Begin, Carry, Rest, Switch, Keep, Scrap}
use Rattle.drafts.specs.Mem.{Mem, Lawful}
use Rattle.drafts.specs.Steps.{Answer, World, world, fresh, picture_in, Step, Sound}
use Rattle.law.specs.Book.{Book, book_of, due, buffer_by, after, under, Safe}

-- a line of a run: a call, its answer, and the buffer that a window fills, before and after
pub record Line : Type 0 where
  pub call : Call
  pub answer : Answer
  pub before : List ℕ
  pub filled : List ℕ

-- the call as it is made: a window's room is its buffer's length
abbrev pub roomed : Call → ℕ → Call
roomed (Open page) n = Open page
roomed (Pixel x y) n = Pixel x y
roomed (Window area room) n = Window area n
roomed Arrow n = Arrow
roomed (Begin v plan) n = Begin v plan
roomed Carry n = Carry
roomed Rest n = Rest
roomed Switch n = Switch
roomed Keep n = Keep
roomed Scrap n = Scrap

abbrev pub made : Line → Call
made l = roomed l.call (length l.before)

-- a run of a holder: each line is a step, and a window leaves its buffer as the picture shown asks for
pub record Stepped (v : World) (l : Line) (w : World) : Type 0 where
  pub step : Sound v → Step (made l) v l.answer w
  pub buffer : l.filled ≡ buffer_by (picture_in v.held v.mem.seen) l.call l.before

abbrev pub Runs : World → List Line → World → Type 0
Runs v [] w = v ≡ w
Runs v (l ∷ ls) w = (u : World) × Stepped v l u × Runs u ls w

-- a line is answered as it is due
pub record Right (b : Book) (l : Line) : Type 0 where
  pub answer : l.answer ≡ due b (made l)
  pub buffer : l.filled ≡ buffer_by b.slate.picture l.call l.before

-- the book after a line, and after all lines of a run
abbrev pub turned : Book → Line → Book
turned b l = after b (made l) l.answer

abbrev pub ends : Book → List Line → Book
ends b [] = b
ends b (l ∷ ls) = ends (turned b l) ls

-- each line of a run is answered as it is due
abbrev pub Told : Book → List Line → Type 0
Told b [] = Unit {0}
Told b (l ∷ ls) = Right b l × Told (turned b l) ls

-- a line of the run is laid down to write the content x into sector s
abbrev pub Written : Book → List Line → ℕ → List ℕ → Type 0
Written b [] s x = ⊥
Written b (l ∷ ls) s x = In x (under b (Some (made l)) s) ⊎ Written (turned b l) ls s x

-- The law over a run that begins with the store at m and ends with it at n: the answers, the bytes seen, what was written meanwhile, and what is found
-- if power ends now or inside any next call.
pub record LawfulRun (m : Mem) (lines : List Line) (n : Mem) : Type 0 where
  pub answers : Told (book_of m.seen) lines
  pub seen : n.seen ≡ (ends (book_of m.seen) lines).bytes
  pub trail : (s : ℕ) (x : List ℕ) → In x (n.trail s) → In x (m.trail s) ⊎ Written (book_of m.seen) lines s x
  pub found : (c : Option Call) (found : List ℕ) → Cut n.seen n.may (under (ends (book_of m.seen) lines) c) found → Safe (ends (book_of m.seen) lines) c found

-- every run of a holder that is made over a store obeys the law
abbrev pub RunsLawful : Type 0
RunsLawful = (m : Mem) (lines : List Line) (w : World) → Lawful m → Runs (world fresh m) lines w → LawfulRun m lines w.mem
