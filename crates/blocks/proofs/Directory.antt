-- A directory read back from its bytes.
use Rattle.std.proofs.Common.{◌≡◌, ℕ, ◌+◌, ◌-◌, ◌*◌, ◌%◌, ◌^◌, ◌<◌, ◌≤◌, Bool, true, false, cond, not, ◌&&◌, ◌||◌, eqb, ltb, List, [], ◌∷◌, ◌++◌, length, get_or, replicate, Some, None, Ok, Option, Result, refl, ap, ◌∙◌, ap₂, arith}
use Rattle.std.specs.List.{flat_map}
use Rattle.std.proofs.lemmas.List.{length-append, length-replicate}
use Rattle.std.proofs.lemmas.Bool.{true≢false, leb-true, cond_both, le-ltb}
use Rattle.std.proofs.lemmas.Bool.Decides.{nat_tests}
use Rattle.faults.specs.declared.fault.Fault.{Fault}
use Rattle.faults.specs.declared.fault.Check.TheVariants.{Order, Field as FieldCheck, Value}
use Rattle.faults.specs.Faults.{fault, refused, then}
use Rattle.octets.specs.declared.endian.Endian.{Endian}
use Rattle.octets.specs.Numbers.{short, long, number_bytes}
use Rattle.octets.specs.Rows.{Holds}
use Rattle.octets.proofs.Rows.{holds_front, holds_back}
use Rattle.entries.specs.declared.entry.Entry.{Entry}
use Rattle.entries.specs.declared.entry.Shape.{Shape}
use Rattle.entries.specs.Entries.{size_of, home_of, entry_at, entries_from, shape_of, fits, astray, shaped, accepted, scanned}
use Rattle.plans.specs.Outlines.{directory_size}
use Rattle.plans.specs.Directories.{Field, number_size, value_bytes, inline, last_bytes, entry_bytes, outer_bytes, outer_size, entries_bytes, directory_bytes}
use Rattle.blocks.proofs.Numbers.{number_held, length_numbers}

-- a field's numbers take the bytes of its type and count
abbrev pub Sized : Field → Type 0
Sized f = length f.numbers * number_size f.kind ≡ size_of f.kind f.count

-- a field of a listed tag has the type and count that it must have
abbrev pub Fit : Option Shape → ℕ → ℕ → Type 0
Fit None kind count = Unit {0}
Fit (Some s) kind count = fits s kind count ≡ true

-- what the reader and the writer of a field rely on
pub record Good (f : Field) : Type 0 where
  pub tag_fits : f.tag < 65536
  pub kind_fits : f.kind < 65536
  pub count_fits : f.count < 4294967296
  pub sized : Sized f
  pub numbers_fit : (j : ℕ) → j < length f.numbers → get_or f.numbers j 0 < 256 ^ number_size f.kind
  pub even : outer_size f % 2 ≡ 0
  pub shape : Fit (shape_of f.tag) f.kind f.count

pub length_values : (o : Endian) (f : Field) → Sized f → length (value_bytes o f) ≡ size_of f.kind f.count
length_values o f g = length_numbers o (number_size f.kind) f.numbers ∙ g

-- the entry of a field at a place, whose values go to `out` if they are longer than 4 bytes
abbrev pub laid_entry : ℕ → ℕ → Field → Entry
laid_entry at out f = record { tag = f.tag; kind = f.kind; count = f.count; place = at; values = home_of at (size_of f.kind f.count) out }

cond_same : {A : Type 0} (b : Bool) (x y z : A) → (b ≡ false → y ≡ z) → cond b x y ≡ cond b x z
cond_same true x y z h = refl
cond_same false x y z h = h refl

cond_holds : (bs : List ℕ) (b : Bool) (p q : ℕ) (xs ys zs : List ℕ) → Holds bs p (cond b (xs ++ zs) ys) → Holds bs q (cond b [] xs) → Holds bs (cond b p q) xs
cond_holds bs true p q xs ys zs h k = holds_front bs p xs zs h
cond_holds bs false p q xs ys zs h k = k

cond_number : (bs : List ℕ) (b : Bool) (p : ℕ) (xs ys : List ℕ) → Holds bs p (cond b xs ys) → b ≡ false → Holds bs p ys
cond_number bs true p xs ys h e = absurd (true≢false e)
cond_number bs false p xs ys h e = h

module _ (o : Endian) (bs : List ℕ) (at out : ℕ) (f : Field) (g : Good f) (h : Holds bs at (entry_bytes o out f)) where
  rest1 : Holds bs (at + 2) (number_bytes o 2 f.kind ++ (number_bytes o 4 f.count ++ last_bytes o out f))
  rest1 = holds_back bs at (at + 2) (number_bytes o 2 f.tag) (number_bytes o 2 f.kind ++ (number_bytes o 4 f.count ++ last_bytes o out f)) refl h

  rest2 : Holds bs (at + 4) (number_bytes o 4 f.count ++ last_bytes o out f)
  rest2 = holds_back bs (at + 2) (at + 4) (number_bytes o 2 f.kind) (number_bytes o 4 f.count ++ last_bytes o out f) (omega arith) rest1

  pub last_held : Holds bs (at + 8) (last_bytes o out f)
  last_held = holds_back bs (at + 4) (at + 8) (number_bytes o 4 f.count) (last_bytes o out f) (omega arith) rest2

  tag_held : short o bs at ≡ f.tag
  tag_held = number_held o bs at 2 f.tag g.tag_fits (holds_front bs at (number_bytes o 2 f.tag) (number_bytes o 2 f.kind ++ (number_bytes o 4 f.count ++ last_bytes o out f)) h)

  kind_held : short o bs (at + 2) ≡ f.kind
  kind_held = number_held o bs (at + 2) 2 f.kind g.kind_fits (holds_front bs (at + 2) (number_bytes o 2 f.kind) (number_bytes o 4 f.count ++ last_bytes o out f) rest1)

  count_held : long o bs (at + 4) ≡ f.count
  count_held = number_held o bs (at + 4) 4 f.count g.count_fits (holds_front bs (at + 4) (number_bytes o 4 f.count) (last_bytes o out f) rest2)

  place_held : out < 4294967296 → home_of at (size_of (short o bs (at + 2)) (long o bs (at + 4))) (long o bs (at + 8)) ≡ home_of at (size_of f.kind f.count) out
  place_held b =
      ap₂ (λ k c. home_of at (size_of k c) (long o bs (at + 8))) kind_held count_held
      ∙ cond_same (inline f) (at + 8) (long o bs (at + 8)) out
      (λ e. number_held o bs (at + 8) 4 out b (cond_number bs (inline f) (at + 8) (value_bytes o f ++ replicate (4 - length (value_bytes o f)) 0) (number_bytes o 4 out) last_held e))

  pub entry_held : out < 4294967296 → entry_at o bs at ≡ laid_entry at out f
  unfolding entry_at
  entry_held b = λ i. record { tag = tag_held i; kind = kind_held i; count = count_held i; place = at; values = place_held b i }

  pub values_held : Holds bs out (outer_bytes o f) → Holds bs (laid_entry at out f).values (value_bytes o f)
  values_held k = cond_holds bs (inline f) (at + 8) out (value_bytes o f) (number_bytes o 4 out) (replicate (4 - length (value_bytes o f)) 0) last_held k

pub length_entry : (o : Endian) (out : ℕ) (f : Field) → Sized f → length (entry_bytes o out f) ≡ 12
length_entry o out f g = cond_both (inline f) (value_bytes o f ++ replicate (4 - length (value_bytes o f)) 0) (number_bytes o 4 out)
    (λ xs. length (number_bytes o 2 f.tag ++ (number_bytes o 2 f.kind ++ (number_bytes o 4 f.count ++ xs))) ≡ 12)
    (λ e. omega (arith, length-append (value_bytes o f) (replicate (4 - length (value_bytes o f)) 0), length-replicate {A = ℕ} (4 - length (value_bytes o f)) 0, length_values o f g, leb-true (size_of f.kind f.count) 4 e))
    (λ e. refl)

pub length_outer : (o : Endian) (f : Field) → Sized f → length (outer_bytes o f) ≡ outer_size f
length_outer o f g = go (inline f)
  where
    go : (b : Bool) → length (cond b [] (value_bytes o f)) ≡ cond b 0 (size_of f.kind f.count)
    go true = refl
    go false = length_values o f g

-- the entries of fields
unfoldable pub laid : ℕ → ℕ → List Field → List Entry
laid at out [] = []
laid at out (f ∷ fs) = laid_entry at out f ∷ laid (at + 12) (out + outer_size f) fs

abbrev pub GoodAll : List Field → Type 0
GoodAll [] = Unit {0}
GoodAll (f ∷ fs) = Good f × GoodAll fs

abbrev pub SizedAll : List Field → Type 0
SizedAll [] = Unit {0}
SizedAll (f ∷ fs) = Sized f × SizedAll fs

pub sized_all : (fs : List Field) → GoodAll fs → SizedAll fs
sized_all [] g = tt
sized_all (f ∷ fs) g = (g.0.sized, sized_all fs g.1)

abbrev pub HeldAll : Endian → List ℕ → ℕ → ℕ → List Field → Type 0
HeldAll o bs at out [] = Unit {0}
HeldAll o bs at out (f ∷ fs) = Holds bs (laid_entry at out f).values (value_bytes o f) × HeldAll o bs (at + 12) (out + outer_size f) fs

pub entries_held : (o : Endian) (bs : List ℕ) (at out : ℕ) (fs : List Field) → length bs < 4294967296 → GoodAll fs
    → Holds bs at (entries_bytes o out fs) → Holds bs out (flat_map (outer_bytes o) fs)
    → (entries_from (length fs) o bs at ≡ laid at out fs) × HeldAll o bs at out fs
unfolding entries_bytes laid
entries_held o bs at out [] b g h k = (refl, tt)
entries_held o bs at out (f ∷ fs) b g h k =
    let mine : Holds bs at (entry_bytes o out f) = holds_front bs at (entry_bytes o out f) (entries_bytes o (out + outer_size f) fs) h in
    let rest : (entries_from (length fs) o bs (at + 12) ≡ laid (at + 12) (out + outer_size f) fs) × HeldAll o bs (at + 12) (out + outer_size f) fs =
    entries_held o bs (at + 12) (out + outer_size f) fs b g.1
    (holds_back bs at (at + 12) (entry_bytes o out f) (entries_bytes o (out + outer_size f) fs) (omega (arith, length_entry o out f g.0.sized)) h)
    (holds_back bs out (out + outer_size f) (outer_bytes o f) (flat_map (outer_bytes o) fs) (omega (arith, length_outer o f g.0.sized)) k) in (
      ap₂ (λ (e : Entry) (es : List Entry). e ∷ es) (entry_held o bs at out f g.0 mine (omega (arith, k.fits))) rest.0,
      (values_held o bs at out f g.0 mine (holds_front bs out (outer_bytes o f) (flat_map (outer_bytes o) fs) k), rest.1),
    )

-- tags in order, from some number on
abbrev pub Ascending : ℕ → List Field → Type 0
Ascending least [] = Unit {0}
Ascending least (f ∷ fs) = (least ≤ f.tag) × Ascending (f.tag + 1) fs

-- a check that is not broken
pub not_refused : {A : Type 0} (b : Bool) (f : Fault) (r : Result A Fault) → b ≡ false → refused b f r ≡ r
not_refused true f r e = absurd (true≢false e)
not_refused false f r e = refl

shape_passes : (n page : ℕ) (e : Entry) (m : Option Shape) → Fit m e.kind e.count → astray n e ≡ false → shaped n page e m ≡ Ok (e.tag + 1)
shape_passes n page e None f a = refl
shape_passes n page e (Some s) f a =
    not_refused (not (fits s e.kind e.count)) (fault FieldCheck page e.tag e.place) _ (ap not f)
    ∙ not_refused (astray n e) (fault Value page e.tag e.place) (Ok (e.tag + 1)) a

-- values at a right place are not astray
right_place : (v n z : ℕ) → v % 2 ≡ 0 → 8 ≤ v → v + z ≤ n → (ltb 4 z && (eqb (v % 2) 1 || (ltb v 8 || ltb n (v + z)))) ≡ false
right_place v n z e f k = grind (arith, nat_tests)

pub entries_pass : (o : Endian) (bs : List ℕ) (page least at out : ℕ) (fs : List Field) → GoodAll fs → HeldAll o bs at out fs → Ascending least fs
    → at % 2 ≡ 0 → 8 ≤ at → out % 2 ≡ 0 → 8 ≤ out → scanned (length bs) page least (laid at out fs) ≡ Ok tt
unfolding laid accepted
entries_pass o bs page least at out [] g h a e1 e2 e3 e4 = refl
entries_pass o bs page least at out (f ∷ fs) g h a e1 e2 e3 e4 =
    let v : ℕ = cond (inline f) (at + 8) out in
    let even : v % 2 ≡ 0 = cond_both (inline f) (at + 8) out (λ n. n % 2 ≡ 0) (λ _. omega arith) (λ _. e3) in
    let far : 8 ≤ v = cond_both (inline f) (at + 8) out (λ n. 8 ≤ n) (λ _. omega arith) (λ _. e4) in
    let fits : v + size_of f.kind f.count ≤ length bs = omega (arith, h.0.fits, length_values o f g.0.sized) in
    let next : (out + outer_size f) % 2 ≡ 0 = omega (arith, g.0.even) in
    let mine : accepted (length bs) page least (laid_entry at out f) ≡ Ok (f.tag + 1) =
    not_refused (ltb f.tag least) (fault Order page 0 at) _ (le-ltb f.tag least a.0)
    ∙ shape_passes (length bs) page (laid_entry at out f) (shape_of f.tag) g.0.shape (right_place v (length bs) (size_of f.kind f.count) even far fits) in
    ap (λ r. then r (λ next. scanned (length bs) page next (laid (at + 12) (out + outer_size f) fs))) mine
    ∙ entries_pass o bs page (f.tag + 1) (at + 12) (out + outer_size f) fs g.1 h.1 a.1 (omega arith) (omega arith) next (omega arith)

-- the size of the values that stand after the directory
abbrev pub outers : List Field → ℕ
outers [] = 0
outers (f ∷ fs) = outer_size f + outers fs

pub length_entries : (o : Endian) (out : ℕ) (fs : List Field) → SizedAll fs → length (entries_bytes o out fs) ≡ 12 * length fs
unfolding entries_bytes
length_entries o out [] g = refl
length_entries o out (f ∷ fs) g =
    omega (arith, length-append (entry_bytes o out f) (entries_bytes o (out + outer_size f) fs), length_entry o out f g.0, length_entries o (out + outer_size f) fs g.1)

pub length_outers : (o : Endian) (fs : List Field) → SizedAll fs → length (flat_map (outer_bytes o) fs) ≡ outers fs
length_outers o [] g = refl
length_outers o (f ∷ fs) g =
    omega (arith, length-append (outer_bytes o f) (flat_map (outer_bytes o) fs), length_outer o f g.0, length_outers o fs g.1)

pub length_directory : (o : Endian) (place : ℕ) (fs : List Field) → SizedAll fs → length (directory_bytes o place fs) ≡ directory_size (length fs) + outers fs
unfolding directory_bytes
length_directory o place fs g =
    let out : ℕ = place + directory_size (length fs) in
    omega (arith, length-append (entries_bytes o out fs) (number_bytes o 4 0 ++ flat_map (outer_bytes o) fs), length_entries o out fs g, length_outers o fs g)

-- the parts of a directory that is held
pub record PartsHeld (o : Endian) (bs : List ℕ) (place : ℕ) (fs : List Field) : Type 0 where
  pub count : Holds bs place (number_bytes o 2 (length fs))
  pub entries : Holds bs (place + 2) (entries_bytes o (place + directory_size (length fs)) fs)
  pub link : Holds bs (place + 2 + 12 * length fs) (number_bytes o 4 0)
  pub outer : Holds bs (place + directory_size (length fs)) (flat_map (outer_bytes o) fs)

pub directory_parts : (o : Endian) (bs : List ℕ) (place : ℕ) (fs : List Field) → SizedAll fs → Holds bs place (directory_bytes o place fs) → PartsHeld o bs place fs
unfolding directory_bytes
directory_parts o bs place fs g h =
    let out : ℕ = place + directory_size (length fs) in
    let link : ℕ = place + 2 + 12 * length fs in
    let h1 : Holds bs (place + 2) (entries_bytes o out fs ++ (number_bytes o 4 0 ++ flat_map (outer_bytes o) fs)) =
    holds_back bs place (place + 2) (number_bytes o 2 (length fs)) (entries_bytes o out fs ++ (number_bytes o 4 0 ++ flat_map (outer_bytes o) fs)) refl h in
    let h2 : Holds bs link (number_bytes o 4 0 ++ flat_map (outer_bytes o) fs) =
    holds_back bs (place + 2) link (entries_bytes o out fs) (number_bytes o 4 0 ++ flat_map (outer_bytes o) fs) (omega (arith, length_entries o out fs g)) h1 in
    record {
      count = holds_front bs place (number_bytes o 2 (length fs)) (entries_bytes o out fs ++ (number_bytes o 4 0 ++ flat_map (outer_bytes o) fs)) h;
      entries = holds_front bs (place + 2) (entries_bytes o out fs) (number_bytes o 4 0 ++ flat_map (outer_bytes o) fs) h1;
      link = holds_front bs link (number_bytes o 4 0) (flat_map (outer_bytes o) fs) h2;
      outer = holds_back bs link out (number_bytes o 4 0) (flat_map (outer_bytes o) fs) (omega arith) h2;
    }

-- what a directory's bytes say
pub record Said (o : Endian) (bs : List ℕ) (place : ℕ) (fs : List Field) : Type 0 where
  pub count : short o bs place ≡ length fs
  pub entries : entries_from (length fs) o bs (place + 2) ≡ laid (place + 2) (place + directory_size (length fs)) fs
  pub values : HeldAll o bs (place + 2) (place + directory_size (length fs)) fs
  pub link : long o bs (place + 2 + 12 * length fs) ≡ 0

pub directory_held : (o : Endian) (bs : List ℕ) (place : ℕ) (fs : List Field) → GoodAll fs → length bs < 4294967296 → length fs < 65536
    → Holds bs place (directory_bytes o place fs) → Said o bs place fs
directory_held o bs place fs g b few h =
    let parts = directory_parts o bs place fs (sized_all fs g) h in
    let both = entries_held o bs (place + 2) (place + directory_size (length fs)) fs b g parts.entries parts.outer in
    record {
      count = number_held o bs place 2 (length fs) few parts.count;
      entries = both.0;
      values = both.1;
      link = number_held o bs (place + 2 + 12 * length fs) 4 0 (omega arith) parts.link;
    }
