-- What an answer says, over any kind of value: lists of numbers as lists.
use Rattle.std.specs.Prelude.{List, ℕ, Ok, Err, Result}
use Rattle.refusals.specs.declared.Refusal.{Refusal}
use Rattle.lists.specs.FixedList.{held}
use Rattle.calls.specs.declared.answer.Answer.{Answer}
use Rattle.calls.specs.declared.answer.Answer.TheVariants.{Begun, Asked, Settled, Granted, Finished, Cleared, Abandoned, Ring, Owing}
use Rattle.calls.specs.declared.granted.GrantedLock.{GrantedLock}
use Rattle.calls.specs.declared.granted.Schedule.{Schedule}
use Rattle.calls.specs.declared.asked.Asked.{Asked as AskedT}
use Rattle.calls.specs.declared.finished.Finished.{Finished as FinishedT}

-- what is answered, a refusal among the rest
pub data Answered (V : Type 0) : Type 0 where
  begun : (number : ℕ) → Answered V
  asked : AskedT → Answered V
  settled : (timestamp : ℕ) → Answered V
  granted : (number : ℕ) → GrantedLock → Schedule → (value : V) → Answered V
  finished : FinishedT → Answered V
  cleared : (serial : ℕ) → Answered V
  abandoned : Answered V
  ring_listed : (numbers : List ℕ) → Answered V
  owing_listed : (numbers : List ℕ) → Answered V
  refused : Refusal → Answered V

-- what a reply says
abbrev pub says : {V : Type 0} → Result (Answer V) Refusal → Answered V
says (Ok (Begun number)) = begun number
says (Ok (Asked a)) = asked a
says (Ok (Settled timestamp)) = settled timestamp
says (Ok (Granted g)) = granted g.number g.lock g.schedule g.value
says (Ok (Finished f)) = finished f
says (Ok (Cleared serial)) = cleared serial
says (Ok Abandoned) = abandoned
says (Ok (Ring numbers)) = ring_listed (held numbers)
says (Ok (Owing numbers)) = owing_listed (held numbers)
says (Err refusal) = refused refusal
