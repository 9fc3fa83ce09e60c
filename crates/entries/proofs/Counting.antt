-- Numbers under a tag, inside the bytes and past them.
use Rattle.std.proofs.Common.{◌≡◌, ℕ, ◌+◌, ◌<◌, List, length, sym, ap, ◌∙◌, arith}
use Rattle.std.proofs.lemmas.Bool.{cond-false, lt-leb}
use Rattle.octets.specs.Numbers.{short, long}
use Rattle.octets.specs.declared.endian.Endian.{Endian}
use Rattle.reads.specs.Reads.{inside, short_at, long_at}
use Rattle.entries.specs.declared.fields.Form.{Form}
use Rattle.entries.specs.declared.fields.Form.TheVariants.{Short, Long}
use Rattle.entries.specs.declared.fields.Numbers.{Numbers}
use Rattle.entries.specs.Fields.{number_at, number_in, place_of}

past_by : (o : Endian) (bs : List ℕ) (f : Form) (place : ℕ) → length bs < place → number_in o bs f place ≡ 0
unfolding short_at long_at
past_by o bs Short place h = cond-false (inside bs place 2) (short o bs place) 0 (lt-leb (place + 2) (length bs) (omega arith))
past_by o bs Long place h = cond-false (inside bs place 4) (long o bs place) 0 (lt-leb (place + 4) (length bs) (omega arith))

-- a number that begins past the end is 0
pub number_past : (o : Endian) (bs : List ℕ) (v : Numbers) (k : ℕ) → length bs < place_of v k → number_at o bs v k ≡ 0
unfolding number_at
number_past o bs v k h = past_by o bs v.form (place_of v k) h

pub number_by : (o : Endian) (bs : List ℕ) (v : Numbers) (k : ℕ) (f : Form) (place : ℕ) → v.form ≡ f → place ≡ place_of v k → number_in o bs f place ≡ number_at o bs v k
unfolding number_at
number_by o bs v k f place e p = ap (λ x. number_in o bs x place) (sym e) ∙ ap (number_in o bs v.form) p
