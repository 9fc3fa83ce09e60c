-- A call's result as an answer, and the drafts in it. Assumes nothing.
use Rattle.std.specs.Prelude.{◌≡◌, ℕ, ◌+◌, ◌<◌, ◌≤◌, true, List, length, Some, None, Ok, Err, Option, Result}
use Rattle.faults.specs.declared.fault.Fault.{Fault}
use Rattle.drafts.specs.declared.call.Reply.TheVariants.{Done, Number}
use Rattle.drafts.specs.Mem.{Mem, Quiet}
use Rattle.drafts.specs.Wrote.{Wrote}
use Rattle.drafts.specs.declared.state.Draft.{Draft}
use Rattle.drafts.specs.declared.state.Stage.{Stage}
use Rattle.drafts.specs.Steps.{Answer, stage_of}
use Rattle.holder.specs.declared.token.Ticket.{Ticket}
use Rattle.holder.specs.declared.token.AtBegun.{AtBegun}
use Rattle.holder.specs.declared.token.AtRested.{AtRested}
use Rattle.holder.specs.declared.token.AtSwitched.{AtSwitched}

abbrev pub Begun : Type 0
Begun = Ticket AtBegun

abbrev pub Rested : Type 0
Rested = Ticket AtRested

abbrev pub Switched : Type 0
Switched = Ticket AtSwitched

-- a result without the draft that a refusal hands back
abbrev pub spent : {T S : Type 0} → Result T (Ticket S × Fault) → Result T Fault
spent (Ok t) = Ok t
spent (Err d) = Err d.1

abbrev pub told_unit : Result (Unit {0}) Fault → Answer
told_unit (Ok _) = Ok Done
told_unit (Err f) = Err f

abbrev pub told_begin : Result (Begun × ℕ) Fault → Answer
told_begin (Ok d) = Ok (Number d.1)
told_begin (Err f) = Err f

-- a draft that is handed on
abbrev pub told_draft : {S : Type 0} → Result (Ticket S) Fault → Answer
told_draft (Ok _) = Ok Done
told_draft (Err f) = Err f

abbrev pub told_carry : Result (Begun × ℕ) (Begun × Fault) → Answer
told_carry r = told_begin (spent r)

abbrev pub told_rest : Result Rested (Begun × Fault) → Answer
told_rest r = told_draft (spent r)

abbrev pub told_switch : Result Switched (Rested × Fault) → Answer
told_switch r = told_draft (spent r)

-- a draft that is handed out is live; one that is handed on or back is live as the one taken
abbrev pub LiveBegin : Result (Begun × ℕ) Fault → Type 0
LiveBegin (Ok d) = d.0.live ≡ true
LiveBegin (Err _) = Unit {0}

abbrev pub LiveCarry : Begun → Result (Begun × ℕ) (Begun × Fault) → Type 0
LiveCarry b (Ok d) = d.0 ≡ b
LiveCarry b (Err d) = d.0 ≡ b

-- by `rest` or `switch`
abbrev pub LiveOn : {S T : Type 0} → Ticket S → Result (Ticket T) (Ticket S × Fault) → Type 0
LiveOn b (Ok d) = d.live ≡ b.live
LiveOn b (Err d) = d.0 ≡ b

-- a write of some bytes at a place, and nothing where it is refused, which is where they do not fit
abbrev pub WroteBy : Result (Unit {0}) Fault → Mem → ℕ → List ℕ → Mem → Type 0
WroteBy (Ok _) m place given n = (place + length given ≤ length m.seen) × Wrote m place given n
WroteBy (Err _) m place given n = (length m.seen < place + length given) × Quiet m n

-- the draft that is out, if it is at a stage
abbrev pub OutAt : Option Draft → Stage → Option Draft → Type 0
OutAt (Some d) stage out = (out ≡ Some d) × (d.stage ≡ stage)
OutAt None stage out = stage_of out ≡ Some stage → ⊥
