-- Laws of the table of answers: its bytes are bytes, and no two answers have the same ones.
use Rattle.std.proofs.Common.{◌≡◌, ℕ, ◌/◌, ◌^◌, ◌<◌, All, cond, eqb, List, [], ◌∷◌, ◌++◌, length, get_or, drop, ℤ, refl, ap, ◌∙◌, arith}
use Rattle.std.specs.Int.{w16, w32, bytes_high_first, cast_unsigned, from_be_bytes, to_be_bytes}
use Rattle.std.specs.List.{flat_map}
use Rattle.std.proofs.lemmas.Nat.{from_be_bytes-to_be_bytes_2, from_be_bytes-to_be_bytes_4}
use Rattle.refusals.specs.Numbers.{layer_number, reason_layer, reason_number, refusal_at}
use Rattle.refusals.proofs.Numbers.{layer_below, reason_at, reason_back, reason_below}
use Rattle.values.specs.Bytes.{bytes_of_number, number_of_bytes}
use Rattle.hexlines.specs.Hex.{Bytes}
use Rattle.hexlines.proofs.Chunks.{length-entries, list_back, list_in}
use Rattle.hexlines.proofs.Bytes.{Bytes-nil, Bytes-cons, Bytes-append, Bytes-high_first, Bytes-flat_map}
use Rattle.calls.specs.Answers.{Answered, begun, asked, settled, granted, finished, cleared, abandoned, ring_listed, owing_listed, refused}
use Rattle.calls.specs.declared.asked.Asked.{Asked}
use Rattle.calls.specs.declared.asked.Asked.TheVariants.{Own, Moved, Last, Away}
use Rattle.calls.specs.declared.finished.Finished.{Finished}
use Rattle.calls.specs.declared.finished.Finished.TheVariants.{Cleared, Owing}
use Rattle.calls.specs.declared.granted.GrantedLock.{GrantedLock}
use Rattle.calls.specs.declared.granted.GrantedLock.TheVariants.{Read, Write, SemiRead}
use Rattle.calls.specs.declared.granted.Schedule.{Schedule}
use Rattle.calls.specs.declared.granted.Schedule.TheVariants.{Normal, PreScheduled}
use Rattle.answer_lines.specs.AnswerTable.{answer_bytes, AnswerFits, asked_code, asked_timestamp, finished_code, finished_serial, lock_code, schedule_code, written_place}
use Rattle.answer_lines.specs.Written.{PlaceFits}

asked_below : (a : Asked) → asked_code a < 256
asked_below (Own place) = omega arith
asked_below (Moved place) = omega arith
asked_below (Last place) = omega arith
asked_below (Away bar) = omega arith

lock_below : (l : GrantedLock) → lock_code l < 256
lock_below Read = omega arith
lock_below Write = omega arith
lock_below SemiRead = omega arith

schedule_below : (s : Schedule) → schedule_code s < 256
schedule_below Normal = omega arith
schedule_below PreScheduled = omega arith

finished_below : (f : Finished) → finished_code f < 256
finished_below (Cleared serial) = omega arith
finished_below Owing = omega arith

-- a byte, a code and the bytes of a number
Bytes-coded : (kind code k n : ℕ) → kind < 256 → code < 256 → Bytes (kind ∷ code ∷ bytes_high_first k n)
Bytes-coded kind code k n low small = Bytes-cons kind (code ∷ bytes_high_first k n) low (Bytes-cons code (bytes_high_first k n) small (Bytes-high_first k n))

-- a byte, a count and that many numbers
Bytes-listed : (kind count : ℕ) (numbers : List ℕ) → kind < 256 → count < 256 → Bytes (kind ∷ count ∷ flat_map (to_be_bytes w16) numbers)
Bytes-listed kind count numbers low few =
    let each = Bytes-flat_map (to_be_bytes w16) numbers (λ k d _. Bytes-high_first 2 (get_or numbers k d)) in
    Bytes-cons kind (count ∷ flat_map (to_be_bytes w16) numbers) low (Bytes-cons count (flat_map (to_be_bytes w16) numbers) few each)

pub bytes_of_answer : (a : Answered ℤ) → (PlaceFits a → AnswerFits a) → Bytes (answer_bytes a)
bytes_of_answer (begun number) fits = Bytes-cons 0x81 (to_be_bytes w16 number) (omega arith) (Bytes-high_first 2 number)
bytes_of_answer (asked a) fits = Bytes-coded 0x82 (asked_code a) 4 (asked_timestamp a) (omega arith) (asked_below a)
bytes_of_answer (settled timestamp) fits = Bytes-cons 0x83 (to_be_bytes w32 timestamp) (omega arith) (Bytes-high_first 4 timestamp)
bytes_of_answer (granted number lock schedule value) fits =
    let codes = Bytes-coded (lock_code lock) (schedule_code schedule) 4 (cast_unsigned w32 value) (lock_below lock) (schedule_below schedule) in
    let fields = Bytes-append (to_be_bytes w16 number) (lock_code lock ∷ schedule_code schedule ∷ bytes_of_number value) (Bytes-high_first 2 number) codes in
    Bytes-cons 0x84 (to_be_bytes w16 number ++ (lock_code lock ∷ schedule_code schedule ∷ bytes_of_number value)) (omega arith) fields
bytes_of_answer (finished f) fits = Bytes-coded 0x85 (finished_code f) 2 (finished_serial f) (omega arith) (finished_below f)
bytes_of_answer (cleared serial) fits = Bytes-cons 0x86 (to_be_bytes w16 serial) (omega arith) (Bytes-high_first 2 serial)
bytes_of_answer abandoned fits = Bytes-cons 0x87 [] (omega arith) Bytes-nil
bytes_of_answer (ring_listed numbers) fits = Bytes-listed 0x88 (length numbers) numbers (omega arith) (fits tt).0
bytes_of_answer (owing_listed numbers) fits = Bytes-listed 0x89 (length numbers) numbers (omega arith) (fits tt).0
bytes_of_answer (refused r) fits =
    let place = Bytes-coded (layer_number (reason_layer r.reason)) (reason_number r.reason) 2 (written_place r.place) (layer_below (reason_layer r.reason)) (reason_below r.reason) in
    Bytes-cons 0x00 (layer_number (reason_layer r.reason) ∷ reason_number r.reason ∷ to_be_bytes w16 (written_place r.place)) (omega arith) place

-- an answer from its bytes
asked_at : ℕ → ℕ → Asked
asked_at code timestamp = cond (eqb code 0) (Own timestamp) (cond (eqb code 1) (Moved timestamp) (cond (eqb code 2) (Last timestamp) (Away timestamp)))

lock_at : ℕ → GrantedLock
lock_at code = cond (eqb code 0) Read (cond (eqb code 1) Write SemiRead)

schedule_at : ℕ → Schedule
schedule_at code = cond (eqb code 0) Normal PreScheduled

finished_at : ℕ → ℕ → Finished
finished_at code serial = cond (eqb code 0) (Cleared serial) Owing

abbrev numbers_in : List ℕ → List ℕ
numbers_in bytes = list_in 2 (from_be_bytes w16) bytes

answer_in : List ℕ → ℕ → Answered ℤ
answer_in s kind =
    cond (eqb kind 0x81) (begun (from_be_bytes w16 (drop 1 s)))
    (cond (eqb kind 0x82) (asked (asked_at (get_or s 1 0) (from_be_bytes w32 (drop 2 s))))
    (cond (eqb kind 0x83) (settled (from_be_bytes w32 (drop 1 s)))
    (cond (eqb kind 0x84) (granted (from_be_bytes w16 (drop 1 s)) (lock_at (get_or s 3 0)) (schedule_at (get_or s 4 0)) (number_of_bytes (drop 5 s)))
    (cond (eqb kind 0x85) (finished (finished_at (get_or s 1 0) (from_be_bytes w16 (drop 2 s))))
    (cond (eqb kind 0x86) (cleared (from_be_bytes w16 (drop 1 s)))
    (cond (eqb kind 0x87) abandoned
    (cond (eqb kind 0x88) (ring_listed (numbers_in (drop 2 s)))
    (cond (eqb kind 0x89) (owing_listed (numbers_in (drop 2 s)))
    (refused (refusal_at (reason_at (get_or s 2 0)) (from_be_bytes w16 (drop 3 s))))))))))))

asked_back : (a : Asked) → asked_at (asked_code a) (asked_timestamp a) ≡ a
unfolding asked_at
asked_back (Own place) = refl
asked_back (Moved place) = refl
asked_back (Last place) = refl
asked_back (Away bar) = refl

lock_back : (l : GrantedLock) → lock_at (lock_code l) ≡ l
unfolding lock_at
lock_back Read = refl
lock_back Write = refl
lock_back SemiRead = refl

schedule_back : (s : Schedule) → schedule_at (schedule_code s) ≡ s
unfolding schedule_at
schedule_back Normal = refl
schedule_back PreScheduled = refl

finished_back : (f : Finished) → finished_at (finished_code f) (finished_serial f) ≡ f
unfolding finished_at
finished_back (Cleared serial) = refl
finished_back Owing = refl

numbers_back : (numbers : List ℕ) → All (λ n. n < 2 ^ 16) numbers → numbers_in (flat_map (to_be_bytes w16) numbers) ≡ numbers
numbers_back numbers fit =
    let count : length (flat_map (to_be_bytes w16) numbers) / 2 ≡ length numbers = omega (arith, length-entries 2 (to_be_bytes w16) (λ n. refl) numbers) in
    list_back 2 (to_be_bytes w16) (λ n. refl) (from_be_bytes w16) numbers count (λ k d within. from_be_bytes-to_be_bytes_2 (get_or numbers k d) (fit k d within))

answer_back : (a : Answered ℤ) → AnswerFits a → answer_in (answer_bytes a) (get_or (answer_bytes a) 0 0) ≡ a
unfolding answer_in
answer_back (begun number) fits = ap begun (from_be_bytes-to_be_bytes_2 number fits)
answer_back (asked a) fits =
    let time = from_be_bytes-to_be_bytes_4 (asked_timestamp a) fits in
    let whole = asked_back a in
    cc
answer_back (settled timestamp) fits = ap settled (from_be_bytes-to_be_bytes_4 timestamp fits)
answer_back (granted number lock schedule value) fits =
    let e = from_be_bytes-to_be_bytes_2 number fits.0 in
    let f = lock_back lock in
    let g = schedule_back schedule in
    let h = fits.1 in
    cc
answer_back (finished f) fits =
    let serial = from_be_bytes-to_be_bytes_2 (finished_serial f) fits in
    let whole = finished_back f in
    cc
answer_back (cleared serial) fits = ap cleared (from_be_bytes-to_be_bytes_2 serial fits)
answer_back abandoned fits = refl
answer_back (ring_listed numbers) fits = ap ring_listed (numbers_back numbers fits.1)
answer_back (owing_listed numbers) fits = ap owing_listed (numbers_back numbers fits.1)
answer_back (refused r) fits =
    let whole : written_place r.place ≡ r.place = omega arith in
    let place : from_be_bytes w16 (to_be_bytes w16 (written_place r.place)) ≡ r.place = from_be_bytes-to_be_bytes_2 (written_place r.place) (omega arith) ∙ whole in
    ap (λ reason. refused (refusal_at reason (from_be_bytes w16 (to_be_bytes w16 (written_place r.place))))) (reason_back r.reason)
    ∙ ap (λ n. refused (refusal_at r.reason n)) place

pub same_answer : (a b : Answered ℤ) → AnswerFits a → AnswerFits b → answer_bytes a ≡ answer_bytes b → a ≡ b
same_answer a b fits fits' e =
    let back = answer_back a fits in
    let back' = answer_back b fits' in
    cc
