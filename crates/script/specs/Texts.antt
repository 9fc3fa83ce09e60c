-- What a refused line is told. Assumes nothing.
use Rattle.std.specs.Prelude.{◌≡◌, ℕ, List, [], codes, ⊤}
use Rattle.script.specs.declared.words.Wrong.{Wrong}
use Rattle.script.specs.declared.words.Wrong.TheVariants.{Memory, Call, Count, Number, Choice}
use Rattle.script.specs.declared.words.Refusal.{Refusal}
use Rattle.script.specs.declared.words.Refusal.TheVariants.{Memory as NoMemory, Call as NoCall, Count as BadCount, Number as NoNumber, Choice as NoChoice}

abbrev pub text : Wrong → List ℕ
text Memory = codes "there is not enough memory"
text Call = codes "there is no such call"
text Count = codes "it has too few or too many words"
text Number = codes "a word is no number that fits 32 bits"
text Choice = codes "a word is none of those that may stand there"

-- what is wrong, without the word that a refusal names
abbrev pub unnamed : Refusal → Wrong
unnamed NoMemory = Memory
unnamed NoCall = Call
unnamed BadCount = Count
unnamed (NoNumber word) = Number
unnamed NoChoice = Choice

-- a refusal names no word: the one that it has is empty
abbrev pub Wordless : Refusal → Type 0
Wordless NoMemory = ⊤
Wordless NoCall = ⊤
Wordless BadCount = ⊤
Wordless (NoNumber word) = word.now ≡ []
Wordless NoChoice = ⊤
