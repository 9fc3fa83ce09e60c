-- The lines of a run that are answered so far.
use Rattle.std.proofs.Common.{◌≡◌, ℕ, zero, suc, ◌+◌, ◌<◌, List, [], ◌∷◌, ◌++◌, map, length, get_or, take, drop, set, sym, refl, ap, ◌∙◌, add-one, arith}
use Rattle.std.proofs.lemmas.List.{length-drop, drop-drop}
use Rattle.holder.specs.declared.replay.Line.{Line}
use Rattle.holder.specs.Lines.{line_of, lines_of}

-- of the lines sent, the first i are answered, each with the call that was sent, and the others are as they were
pub record Replayed (i : ℕ) (sent answered : List Line) : Type 0 where
  pub calls : map (λ l. l.call) answered ≡ map (λ l. l.call) sent
  pub rest : drop i answered ≡ drop i sent

-- the calls stay where one line is answered
calls_set : (ls : List Line) (i : ℕ) (d l : Line) → i < length ls → l.call ≡ (get_or ls i d).call → map (λ x. x.call) (set ls i l) ≡ map (λ x. x.call) ls
calls_set [] i d l h e = let no : ⊥ = omega arith in absurd no
calls_set (x ∷ xs) zero d l h e = ap (λ z. z ∷ map (λ y. y.call) xs) e
calls_set (x ∷ xs) (suc i) d l h e = ap (λ z. x.call ∷ z) (calls_set xs i d l (omega arith) e)

-- what is left after one more
drop_set : (ls : List Line) (i : ℕ) (l : Line) → drop (suc i) (set ls i l) ≡ drop (suc i) ls
drop_set [] i l = refl
drop_set (x ∷ xs) zero l = refl
drop_set (x ∷ xs) (suc i) l = drop_set xs i l

pub replayed_more : (sent ls : List Line) (i : ℕ) (d l : Line) → i < length ls → l.call ≡ (get_or ls i d).call → Replayed i sent ls → Replayed (i + 1) sent (set ls i l)
replayed_more sent ls i d l h e r = record {
  calls = calls_set ls i d l h e ∙ r.calls;
  rest = ap (λ n. drop n (set ls i l)) (add-one i) ∙ drop_set ls i l ∙ sym (ap (λ n. drop n ls) (add-one i)) ∙ sym (drop-drop 1 i ls) ∙ ap (drop 1) r.rest ∙ drop-drop 1 i sent;
}

-- one line more
lines_suc : (sent ls : List Line) (i : ℕ) (d l : Line) → i < length ls → drop i ls ≡ drop i sent
    → lines_of (take (suc i) sent) (take (suc i) (set ls i l)) ≡ lines_of (take i sent) (take i ls) ++ (line_of (get_or ls i d) l ∷ [])
lines_suc sent [] i d l h e = let no : ⊥ = omega arith in absurd no
lines_suc [] (x ∷ xs) i d l h e =
    let n = length-drop i (x ∷ xs) in
    let m = length-drop {A = Line} i [] in
    let k = ap length e in
    let no : ⊥ = omega arith in absurd no
lines_suc (y ∷ ys) (x ∷ xs) zero d l h e = ap (λ z. line_of z l ∷ []) (sym (ap (λ (zs : List Line). get_or zs 0 x) e))
lines_suc (y ∷ ys) (x ∷ xs) (suc i) d l h e = ap (λ z. line_of y x ∷ z) (lines_suc ys xs i d l (omega arith) e)

pub lines_more : (sent ls : List Line) (i : ℕ) (d l : Line) → i < length ls → drop i ls ≡ drop i sent
    → lines_of (take (i + 1) sent) (take (i + 1) (set ls i l)) ≡ lines_of (take i sent) (take i ls) ++ (line_of (get_or ls i d) l ∷ [])
lines_more sent ls i d l h e = ap (λ n. lines_of (take n sent) (take n (set ls i l))) (add-one i) ∙ lines_suc sent ls i d l h e
