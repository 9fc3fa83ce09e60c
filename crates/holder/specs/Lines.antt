-- The lines of a run, as they are sent and as they are answered. Assumes nothing.
use Rattle.std.specs.Prelude.{List, [], ◌∷◌, vec_items}
use Rattle.holder.specs.declared.replay.Line.{Line}
use Rattle.law.specs.Run.{Line as RunLine}

abbrev pub line_of : Line → Line → RunLine
line_of sent answered = record { call = sent.call; answer = answered.answer; before = vec_items sent.buffer; filled = vec_items answered.buffer }

-- line by line
abbrev pub lines_of : List Line → List Line → List RunLine
lines_of [] answered = []
lines_of (s ∷ ss) [] = []
lines_of (s ∷ ss) (a ∷ rest) = line_of s a ∷ lines_of ss rest
