-- Numbers in bytes that agree are equal.
use Rattle.std.proofs.Common.{◌≡◌, ℕ, ◌+◌, ◌-◌, ◌≤◌, List, subst, arith}
use Rattle.octets.specs.declared.endian.Endian.{Endian}
use Rattle.octets.specs.Numbers.{word, short, long}
use Rattle.octets.specs.Rows.{byte}
use Rattle.octets.proofs.Digits.{number_same}
use Rattle.reads.specs.Agree.{Agree}

pub word_agrees : (o : Endian) (bs cs : List ℕ) (place n : ℕ) → Agree bs cs place n → word o bs place n ≡ word o cs place n
word_agrees o bs cs place n a = number_same o n (λ i. byte bs (place + i)) (λ i. byte cs (place + i)) a

pub short_agrees : (o : Endian) (bs cs : List ℕ) (place : ℕ) → Agree bs cs place 2 → short o bs place ≡ short o cs place
short_agrees o bs cs place a = word_agrees o bs cs place 2 a

pub long_agrees : (o : Endian) (bs cs : List ℕ) (place : ℕ) → Agree bs cs place 4 → long o bs place ≡ long o cs place
long_agrees o bs cs place a = word_agrees o bs cs place 4 a

-- fewer bytes, from a later place on
pub agree_in : (bs cs : List ℕ) (place n at m : ℕ) → place ≤ at → at + m ≤ place + n → Agree bs cs place n → Agree bs cs at m
agree_in bs cs place n at m h k a i l =
    let z : place + (at + i - place) ≡ at + i = omega arith in
    subst (λ q. byte bs q ≡ byte cs q) z (a (at + i - place) (omega arith))
