-- The words of a line, and which lines ask for nothing. Assumes nothing.
use Rattle.std.specs.Prelude.{◌≡◌, ◌↔◌, ℕ, List, [], ◌∷◌, Option, None, Result, IfOk, slice_index, ⊤}
use Rattle.std.specs.Borrow.{Bor}
use Rattle.std.specs.Iterator.{DrainsIf}
use Rattle.std.specs.Str.Iter.{split_whitespace_rest, split_whitespace_steps}
use Rattle.std.specs.declared.str.SplitWhitespace.{SplitWhitespace}

-- these are the words of the line, which white space parts
abbrev pub IsWordsOf : List ℕ → List (Bor (List ℕ)) → Type 0
IsWordsOf line words = (parts : SplitWhitespace) × (split_whitespace_rest parts ≡ line) × DrainsIf split_whitespace_steps ⊤ parts words

-- there is no word, or the first begins with #
abbrev pub Silent : List (Bor (List ℕ)) → Type 0
Silent [] = ⊤
Silent (w ∷ ws) = slice_index w.now 0 ≡ 35

-- a line that is not refused asks for nothing exactly if it is blank or a comment
abbrev pub SilentAsksNothing : {T E : Type 0} → List ℕ → Result (Option T) E → Type 0
SilentAsksNothing line result = IfOk result (λ asked. (words : List (Bor (List ℕ))) × IsWordsOf line words × (Silent words ↔ (asked ≡ None)))
