-- The table of answers that are written: the kind of each, its fields in their order and widths, and the codes that stand in them.
use Rattle.std.specs.Prelude.{ℕ, ◌^◌, ◌<◌, min, All, List, [], ◌∷◌, ◌++◌, length, ℤ}
use Rattle.std.specs.Int.{w16, w32, to_be_bytes}
use Rattle.std.specs.List.{flat_map}
use Rattle.refusals.specs.Numbers.{layer_number, reason_layer, reason_number}
use Rattle.answer_lines.specs.Kinds.{kind_number}
use Rattle.answer_lines.specs.declared.kinds.AnswerKind.TheVariants.{Refused as RefusedKind, Begun as BegunKind, Asked as AskedKind, Settled as SettledKind, Granted as GrantedKind, Finished as FinishedKind, Cleared as ClearedKind, Abandoned as AbandonedKind, Ring as RingKind, Owing as OwingKind}
use Rattle.values.specs.Bytes.{bytes_of_number, Signed32}
use Rattle.calls.specs.Answers.{Answered, begun, asked, settled, granted, finished, cleared, abandoned, ring_listed, owing_listed, refused}
use Rattle.calls.specs.declared.asked.Asked.{Asked}
use Rattle.calls.specs.declared.asked.Asked.TheVariants.{Own, Moved, Last, Away}
use Rattle.calls.specs.declared.finished.Finished.{Finished}
use Rattle.calls.specs.declared.finished.Finished.TheVariants.{Cleared, Owing}
use Rattle.calls.specs.declared.granted.GrantedLock.{GrantedLock}
use Rattle.calls.specs.declared.granted.GrantedLock.TheVariants.{Read, Write, SemiRead}
use Rattle.calls.specs.declared.granted.Schedule.{Schedule}
use Rattle.calls.specs.declared.granted.Schedule.TheVariants.{Normal, PreScheduled}

-- the code of where ask put a request
abbrev pub asked_code : Asked → ℕ
asked_code (Own place) = 0
asked_code (Moved place) = 1
asked_code (Last place) = 2
asked_code (Away bar) = 3

-- the place of the request, or the bar that it did not pass
abbrev pub asked_timestamp : Asked → ℕ
asked_timestamp (Own place) = place
asked_timestamp (Moved place) = place
asked_timestamp (Last place) = place
asked_timestamp (Away bar) = bar

-- the code of a granted lock
abbrev pub lock_code : GrantedLock → ℕ
lock_code Read = 0
lock_code Write = 1
lock_code SemiRead = 2

-- the code of whether a conflicting lock granted earlier still stands
abbrev pub schedule_code : Schedule → ℕ
schedule_code Normal = 0
schedule_code PreScheduled = 1

-- the code of where finish put a transaction
abbrev pub finished_code : Finished → ℕ
finished_code (Cleared serial) = 0
finished_code Owing = 1

-- an owing transaction has no serial place yet, and 0 is written
abbrev pub finished_serial : Finished → ℕ
finished_serial (Cleared serial) = serial
finished_serial Owing = 0

-- a place is written in two bytes; no frame leads to one that they do not hold
abbrev pub written_place : ℕ → ℕ
written_place place = min place 65535

-- the bytes of an answer: its kind, and its fields behind it
abbrev pub answer_bytes : Answered ℤ → List ℕ
answer_bytes (begun number) = kind_number BegunKind ∷ to_be_bytes w16 number
answer_bytes (asked a) = kind_number AskedKind ∷ asked_code a ∷ to_be_bytes w32 (asked_timestamp a)
answer_bytes (settled timestamp) = kind_number SettledKind ∷ to_be_bytes w32 timestamp
answer_bytes (granted number lock schedule value) = kind_number GrantedKind ∷ (to_be_bytes w16 number ++ (lock_code lock ∷ schedule_code schedule ∷ bytes_of_number value))
answer_bytes (finished f) = kind_number FinishedKind ∷ finished_code f ∷ to_be_bytes w16 (finished_serial f)
answer_bytes (cleared serial) = kind_number ClearedKind ∷ to_be_bytes w16 serial
answer_bytes abandoned = kind_number AbandonedKind ∷ []
answer_bytes (ring_listed numbers) = kind_number RingKind ∷ length numbers ∷ flat_map (to_be_bytes w16) numbers
answer_bytes (owing_listed numbers) = kind_number OwingKind ∷ length numbers ∷ flat_map (to_be_bytes w16) numbers
answer_bytes (refused r) = kind_number RefusedKind ∷ layer_number (reason_layer r.reason) ∷ reason_number r.reason ∷ to_be_bytes w16 (written_place r.place)

-- each field fits its width
abbrev pub AnswerFits : Answered ℤ → Type 0
AnswerFits (begun number) = number < 2 ^ 16
AnswerFits (asked a) = asked_timestamp a < 2 ^ 32
AnswerFits (settled timestamp) = timestamp < 2 ^ 32
AnswerFits (granted number lock schedule value) = (number < 2 ^ 16) × Signed32 value
AnswerFits (finished f) = finished_serial f < 2 ^ 16
AnswerFits (cleared serial) = serial < 2 ^ 16
AnswerFits abandoned = Unit {0}
AnswerFits (ring_listed numbers) = (length numbers < 256) × All (λ n. n < 2 ^ 16) numbers
AnswerFits (owing_listed numbers) = (length numbers < 256) × All (λ n. n < 2 ^ 16) numbers
AnswerFits (refused r) = r.place < 2 ^ 16
