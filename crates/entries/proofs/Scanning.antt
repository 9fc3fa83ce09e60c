-- The entries that are left in a loop over a directory.
use Rattle.std.proofs.Common.{◌≡◌, ℕ, suc, ◌+◌, ◌-◌, ◌*◌, ◌<◌, ◌≤◌, List, [], ◌∷◌, length, Ok, Err, Result, sym, refl, ap, ◌∙◌, arith}
use Rattle.faults.specs.declared.fault.Fault.{Fault}
use Rattle.faults.specs.Faults.{then}
use Rattle.octets.specs.declared.endian.Endian.{Endian}
use Rattle.entries.specs.declared.entry.Directory.{Directory}
use Rattle.entries.specs.declared.entry.Entry.{Entry}
use Rattle.entries.specs.declared.fields.Fields.{Fields}
use Rattle.entries.specs.Entries.{accepted, entry_at, entries_from, scanned}
use Rattle.entries.specs.Fields.{gathered_from, gathered, no_fields, fielded}

-- the entries from the i-th on are that one and those after it
pub entries_more : (o : Endian) (bs : List ℕ) (n i at : ℕ) → i < n → entries_from (n - i) o bs (at + 12 * i) ≡ entry_at o bs (at + 12 * i) ∷ entries_from (n - (i + 1)) o bs (at + 12 * (i + 1))
entries_more o bs n i at h =
    let k : n - i ≡ suc (n - (i + 1)) = omega arith in
    let p : at + 12 * i + 12 ≡ at + 12 * (i + 1) = omega arith in
    ap (λ m. entries_from m o bs (at + 12 * i)) k ∙ ap (λ q. entry_at o bs (at + 12 * i) ∷ entries_from (n - (i + 1)) o bs q) p

-- past the last none is left
pub entries_none : (o : Endian) (bs : List ℕ) (n i at : ℕ) → n ≤ i → entries_from (n - i) o bs at ≡ []
entries_none o bs n i at h = let k : n - i ≡ 0 = omega arith in ap (λ m. entries_from m o bs at) k

-- what the entries that are left give, after the tags gathered before
abbrev pub collected : ℕ → ℕ → ℕ → Fields → List Entry → Result Fields Fault
collected n page least got es = then (scanned n page least es) (λ _. Ok (gathered_from got es))

collect_one : (n page : ℕ) (got : Fields) (e : Entry) (es : List Entry) (r : Result ℕ Fault)
    → then (then r (λ next. scanned n page next es)) (λ _. Ok (gathered_from got (e ∷ es))) ≡ then r (λ next. collected n page next (gathered_from got (e ∷ [])) es)
collect_one n page got e es (Ok x) = refl
collect_one n page got e es (Err f) = refl

-- A turn of the loop at the i-th entry, which was read from bytes that are seen as before.
pub collect_turn : (o : Endian) (bs cs : List ℕ) (n i at : ℕ) → i < n → cs ≡ bs → (e : Entry) → e ≡ entry_at o cs (at + 12 * i)
    → (size page least : ℕ) (got : Fields) (r : Result ℕ Fault) → r ≡ accepted size page least e
    → collected size page least got (entries_from (n - i) o bs (at + 12 * i)) ≡ then r (λ next. collected size page next (gathered_from got (e ∷ [])) (entries_from (n - (i + 1)) o bs (at + 12 * (i + 1))))
collect_turn o bs cs n i at h s e q size page least got r a =
    let rest : List Entry = entries_from (n - (i + 1)) o bs (at + 12 * (i + 1)) in
    let here : entries_from (n - i) o bs (at + 12 * i) ≡ e ∷ rest =
    entries_more o bs n i at h ∙ ap (λ x. x ∷ rest) (sym (q ∙ ap (λ xs. entry_at o xs (at + 12 * i)) s)) in
    ap (collected size page least got) here
    ∙ collect_one size page got e rest (accepted size page least e)
    ∙ ap (λ x. then x (λ next. collected size page next (gathered_from got (e ∷ [])) rest)) (sym a)

-- before the first turn, all are left
pub collect_start : (bs : List ℕ) (d : Directory) → collected (length bs) d.page 0 no_fields (entries_from (d.entries - 0) d.endian bs (d.place + 2 + 12 * 0)) ≡ fielded bs d
unfolding fielded gathered
collect_start bs d =
    let k : d.entries - 0 ≡ d.entries = omega arith in
    let p : d.place + 2 + 12 * 0 ≡ d.place + 2 = omega arith in
    ap (λ m. collected (length bs) d.page 0 no_fields (entries_from m d.endian bs (d.place + 2 + 12 * 0))) k
    ∙ ap (λ q. collected (length bs) d.page 0 no_fields (entries_from d.entries d.endian bs q)) p

-- after the last, what was gathered is the answer
pub collect_end : (bs : List ℕ) (o : Endian) (size page least n i at : ℕ) (got : Fields) → n ≤ i → collected size page least got (entries_from (n - i) o bs at) ≡ Ok got
collect_end bs o size page least n i at got h = ap (collected size page least got) (entries_none o bs n i at h)
