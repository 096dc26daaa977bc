-- Laws of the table of frames: how long a call's frame is, that its modes are modes, and that no other call has the same frame.
use Rattle.std.proofs.Common.{◌≡◌, ℕ, zero, suc, ◌*◌, ◌/◌, ◌<◌, ◌≤◌, All, List, [], ◌∷◌, ◌++◌, length, get_or, slice_index, drop, ℤ, sym, refl, ap, ◌∙◌, arith, w16, w32}
use Rattle.std.specs.Int.{cast_unsigned, from_be_bytes, to_be_bytes}
use Rattle.std.specs.List.{flat_map}
use Rattle.std.proofs.lemmas.List.Elements.{All-weaker}
use Rattle.std.proofs.lemmas.Nat.{from_be_bytes-to_be_bytes_2, from_be_bytes-to_be_bytes_4}
use Rattle.hexlines.specs.Hex.{Bytes}
use Rattle.hexlines.proofs.Chunks.{length-entries, list_back, list_in}
use Rattle.protocols.specs.declared.question.Mode.{Mode}
use Rattle.protocols.specs.declared.question.Mode.TheVariants.{Read, Write}
use Rattle.values.specs.Bytes.{bytes_of_number, number_of_bytes, Signed32}
use Rattle.calls.specs.declared.access.Access.{Access}
use Rattle.calls.specs.Calls.{Call, begin, ask, settle, grant, finish, clear, abandon, ring, owing}
use Rattle.frames.specs.declared.kinds.FrameKind.{FrameKind}
use Rattle.frames.specs.declared.kinds.FrameKind.TheVariants.{Begin, Ask, Settle, Grant, Finish, Clear, Abandon, Ring, Owing}
use Rattle.frames.specs.Kinds.{kind_number}
use Rattle.frames.specs.Table.{access_bytes, call_bytes, fields, Fits, kind_of, mode_code, RightLength}
use Rattle.frames.specs.Fields.{access_in, mode_of}
use Rattle.hexlines.proofs.Bytes.{Bytes-append, Bytes-cons, Bytes-flat_map, Bytes-nil, Bytes-to_be_bytes}

-- a kind from its number
kind_at : ℕ → FrameKind
kind_at n = get_or (Begin ∷ Begin ∷ Ask ∷ Settle ∷ Grant ∷ Finish ∷ Clear ∷ Abandon ∷ Ring ∷ []) n Owing

kind_back : (kind : FrameKind) → kind_at (kind_number kind) ≡ kind
unfolding kind_at
kind_back Begin = refl
kind_back Ask = refl
kind_back Settle = refl
kind_back Grant = refl
kind_back Finish = refl
kind_back Clear = refl
kind_back Abandon = refl
kind_back Ring = refl
kind_back Owing = refl

pub same_kind : (k l : FrameKind) → kind_number k ≡ kind_number l → k ≡ l
same_kind k l e = sym (kind_back k) ∙ ap kind_at e ∙ kind_back l

length-access_bytes : (accesses : List Access) → length (flat_map access_bytes accesses) ≡ length accesses * 2
length-access_bytes accesses = length-entries 2 access_bytes (λ a. refl) accesses

length-value_bytes : (values : List ℤ) → length (flat_map bytes_of_number values) ≡ length values * 4
length-value_bytes values = length-entries 4 bytes_of_number (λ v. refl) values

pub right_length : (c : Call ℤ) → RightLength (kind_of c) (length (call_bytes c))
right_length (begin protocol site timestamp interval accesses) = (length accesses, omega (arith, length-access_bytes accesses))
right_length (ask number item) = (0, refl)
right_length (settle number) = (0, refl)
right_length (grant item) = (0, refl)
right_length (finish number values) = (length values, omega (arith, length-value_bytes values))
right_length (clear number) = (0, refl)
right_length (abandon number) = (0, refl)
right_length ring = (0, refl)
right_length owing = (0, refl)

mode_below : (m : Mode) → mode_code m ≤ 1
mode_below Read = omega arith
mode_below Write = omega arith

pub modes_fit : (accesses : List Access) (i : ℕ) → slice_index (flat_map access_bytes accesses) (2 * i) ≤ 1
modes_fit [] i = omega arith
modes_fit (a ∷ accesses) zero = mode_below a.mode
modes_fit (a ∷ accesses) (suc i) =
    let twice : 2 * suc i ≡ suc (suc (2 * i)) = omega arith in
    rw twice (modes_fit accesses i)

mode_back : (m : Mode) → mode_of (mode_code m) ≡ m
mode_back Read = refl
mode_back Write = refl

access_back : (a : Access) → access_in (access_bytes a) ≡ a
access_back a = ap (λ m. record { mode = m; item = a.item }) (mode_back a.mode)

accesses_back : (accesses : List Access) → list_in 2 access_in (flat_map access_bytes accesses) ≡ accesses
accesses_back accesses =
    let count : length (flat_map access_bytes accesses) / 2 ≡ length accesses = omega (arith, length-access_bytes accesses) in
    list_back 2 access_bytes (λ a. refl) access_in accesses count (λ k d _. access_back (get_or accesses k d))

values_back : (values : List ℤ) → All Signed32 values → list_in 4 number_of_bytes (flat_map bytes_of_number values) ≡ values
values_back values signed =
    let count : length (flat_map bytes_of_number values) / 4 ≡ length values = omega (arith, length-value_bytes values) in
    list_back 4 bytes_of_number (λ v. refl) number_of_bytes values count signed

call_in : List ℕ → FrameKind → Call ℤ
call_in s Begin = begin (slice_index s 1) (slice_index s 2) (from_be_bytes w32 (drop 3 s)) (from_be_bytes w32 (drop 7 s)) (list_in 2 access_in (drop 11 s))
call_in s Ask = ask (from_be_bytes w16 (drop 1 s)) (slice_index s 3)
call_in s Settle = settle (from_be_bytes w16 (drop 1 s))
call_in s Grant = grant (slice_index s 1)
call_in s Finish = finish (from_be_bytes w16 (drop 1 s)) (list_in 4 number_of_bytes (drop 3 s))
call_in s Clear = clear (from_be_bytes w16 (drop 1 s))
call_in s Abandon = abandon (from_be_bytes w16 (drop 1 s))
call_in s Ring = ring
call_in s Owing = owing

call_back : (c : Call ℤ) → Fits c → call_in (call_bytes c) (kind_of c) ≡ c
unfolding call_in
call_back (begin protocol site timestamp interval accesses) fits =
    let e = from_be_bytes-to_be_bytes_4 timestamp fits.2 in
    let f = from_be_bytes-to_be_bytes_4 interval fits.3 in
    let g = accesses_back accesses in
    cc
call_back (ask number item) fits = let e = from_be_bytes-to_be_bytes_2 number fits.0 in cc
call_back (settle number) fits = let e = from_be_bytes-to_be_bytes_2 number fits in cc
call_back (grant item) fits = refl
call_back (finish number values) fits =
    let e = from_be_bytes-to_be_bytes_2 number fits.0 in
    let f = values_back values fits.1 in
    cc
call_back (clear number) fits = let e = from_be_bytes-to_be_bytes_2 number fits in cc
call_back (abandon number) fits = let e = from_be_bytes-to_be_bytes_2 number fits in cc
call_back ring fits = refl
call_back owing fits = refl

pub same_call : (c d : Call ℤ) → Fits c → Fits d → call_bytes c ≡ call_bytes d → c ≡ d
same_call c d fits fits' e =
    let numbers : kind_number (kind_of c) ≡ kind_number (kind_of d) = ap (λ s. slice_index s 0) e in
    let kinds = same_kind (kind_of c) (kind_of d) numbers in
    let back = call_back c fits in
    let back' = call_back d fits' in
    cc

-- what fits its width is bytes
accesses_bytes : (accesses : List Access) → All (λ a. a.item < 256) accesses → Bytes (flat_map access_bytes accesses)
accesses_bytes accesses fits =
    let each = All-weaker (λ a. a.item < 256) (λ a. Bytes (access_bytes a)) (λ a item. Bytes-cons (mode_code a.mode) (a.item ∷ []) (omega (arith, mode_below a.mode)) (Bytes-cons a.item [] item Bytes-nil)) accesses fits in
    Bytes-flat_map access_bytes accesses each

kind_below : (kind : FrameKind) → kind_number kind < 256
kind_below Begin = omega arith
kind_below Ask = omega arith
kind_below Settle = omega arith
kind_below Grant = omega arith
kind_below Finish = omega arith
kind_below Clear = omega arith
kind_below Abandon = omega arith
kind_below Ring = omega arith
kind_below Owing = omega arith

bytes_of_fields : (c : Call ℤ) → Fits c → Bytes (fields c)
bytes_of_fields (begin protocol site timestamp interval accesses) fits =
    let list = flat_map access_bytes accesses in
    let from_interval = to_be_bytes w32 interval ++ list in
    let from_timestamp = to_be_bytes w32 timestamp ++ from_interval in
    let small = Bytes-append (to_be_bytes w32 interval) list (Bytes-to_be_bytes w32 interval) (accesses_bytes accesses fits.4) in
    let small' = Bytes-append (to_be_bytes w32 timestamp) from_interval (Bytes-to_be_bytes w32 timestamp) small in
    Bytes-cons protocol (site ∷ from_timestamp) fits.0 (Bytes-cons site from_timestamp fits.1 small')
bytes_of_fields (ask number item) fits = Bytes-append (to_be_bytes w16 number) (item ∷ []) (Bytes-to_be_bytes w16 number) (Bytes-cons item [] fits.1 Bytes-nil)
bytes_of_fields (settle number) fits = Bytes-to_be_bytes w16 number
bytes_of_fields (grant item) fits = Bytes-cons item [] fits Bytes-nil
bytes_of_fields (finish number values) fits =
    Bytes-append (to_be_bytes w16 number) (flat_map bytes_of_number values) (Bytes-to_be_bytes w16 number)
    (Bytes-flat_map bytes_of_number values (λ k d within. Bytes-to_be_bytes w32 (cast_unsigned w32 (get_or values k d))))
bytes_of_fields (clear number) fits = Bytes-to_be_bytes w16 number
bytes_of_fields (abandon number) fits = Bytes-to_be_bytes w16 number
bytes_of_fields ring fits = Bytes-nil
bytes_of_fields owing fits = Bytes-nil

pub bytes_of_call : (c : Call ℤ) → Fits c → Bytes (call_bytes c)
bytes_of_call c fits = Bytes-cons (kind_number (kind_of c)) (fields c) (kind_below (kind_of c)) (bytes_of_fields c fits)
