-- Laws of checks and steps, one after another.
use Rattle.std.proofs.Common.{◌≡◌, ℕ, Bool, true, false, Ok, Err, Result, refl, ap, arith}
use Rattle.faults.specs.declared.fault.Fault.{Fault}
use Rattle.faults.specs.Faults.{refused, then}

pub then_err : {A B : Type 0} (r : Result A Fault) (after : A → Result B Fault) (f : Fault) → r ≡ Err f → then r after ≡ Err f
then_err r after f e = ap (λ x. then x after) e

pub then_ok : {A B : Type 0} (r : Result A Fault) (after : A → Result B Fault) (x : A) → r ≡ Ok x → then r after ≡ after x
then_ok r after x e = ap (λ y. then y after) e

-- what is accepted has passed the check
pub passed : {A : Type 0} (b : Bool) (f : Fault) (after : Result A Fault) (x : A) → refused b f after ≡ Ok x → (b ≡ false) × (after ≡ Ok x)
passed true f after x e = absurd (let z : ◌≡◌ {A = ℕ} 0 1 = cc in omega arith)
passed false f after x e = (refl, e)

-- what is accepted after a step had that step accepted
pub then_was : {A B : Type 0} (r : Result A Fault) (after : A → Result B Fault) (y : B) → then r after ≡ Ok y → (x : A) × (r ≡ Ok x) × (after x ≡ Ok y)
then_was (Ok x) after y e = (x, refl, e)
then_was (Err f) after y e = absurd (let z : ◌≡◌ {A = ℕ} 0 1 = cc in omega arith)
