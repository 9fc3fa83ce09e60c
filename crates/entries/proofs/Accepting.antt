-- Laws of the checks of an entry.
use Rattle.std.proofs.Common.{◌≡◌, ℕ, ◌+◌, ◌<◌, ◌≤◌, true, false, Some, Ok, Err, Option, sym, ap, ◌∙◌}
use Rattle.std.proofs.lemmas.Bool.{le-ltb, lt-ltb}
use Rattle.faults.specs.declared.fault.Check.TheVariants.{Order, Field, Value}
use Rattle.faults.specs.Faults.{refused, fault}
use Rattle.entries.specs.declared.entry.Entry.{Entry}
use Rattle.entries.specs.declared.entry.Shape.{Shape}
use Rattle.entries.specs.Entries.{accepted, shaped, shape_of, fits, astray}

-- a tag in order is checked by its shape
pub accepted_by : (n page least : ℕ) (e : Entry) (m : Option Shape) → least ≤ e.tag → m ≡ shape_of e.tag → accepted n page least e ≡ shaped n page e m
unfolding accepted
accepted_by n page least e m h s =
    ap (λ b. refused b (fault Order page 0 e.place) (shaped n page e (shape_of e.tag))) (le-ltb e.tag least h) ∙ ap (shaped n page e) (sym s)

-- each fault in its turn
module _ (n page least : ℕ) (e : Entry) where
  pub refused_order : e.tag < least → accepted n page least e ≡ Err (fault Order page 0 e.place)
  unfolding accepted
  refused_order h = ap (λ b. refused b (fault Order page 0 e.place) (shaped n page e (shape_of e.tag))) (lt-ltb e.tag least h)

  module _ (s : Shape) (h : least ≤ e.tag) (k : Some s ≡ shape_of e.tag) where
    pub refused_field : fits s e.kind e.count ≡ false → accepted n page least e ≡ Err (fault Field page e.tag e.place)
    refused_field f = accepted_by n page least e (Some s) h k ∙ simp f

    module _ (f : fits s e.kind e.count ≡ true) where
      pub refused_value : astray n e ≡ true → accepted n page least e ≡ Err (fault Value page e.tag e.place)
      refused_value a = accepted_by n page least e (Some s) h k ∙ simp (f, a)

      pub accepted_listed : astray n e ≡ false → accepted n page least e ≡ Ok (e.tag + 1)
      accepted_listed a = accepted_by n page least e (Some s) h k ∙ simp (f, a)
