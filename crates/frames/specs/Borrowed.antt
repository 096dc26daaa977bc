-- What a frame says, with the lists that it borrows from the decoded line.
use Rattle.std.specs.Prelude.{◌≡◌, ◌≢◌, ℕ, ◌*◌, ◌%◌, ◌<◌, ◌≤◌, All, List, length, ℤ, Ok, Err, Result, slice_index}
use Rattle.std.specs.List.{flat_map}
use Rattle.values.specs.Bytes.{bytes_of_number, number_of_bytes, Signed32}
use Rattle.calls.specs.declared.access.Access.{Access}
use Rattle.calls.specs.Calls.{Call, begin, ask, settle, grant, finish, clear, abandon, ring, owing}
use Rattle.frames.specs.Table.{access_bytes}
use Rattle.frames.specs.Fields.{access_in}
use Rattle.frames.specs.Entries.{entries_of}
use Rattle.frames.specs.declared.entries.Entries.{Entries}
use Rattle.frames.specs.declared.malformed.Malformed.{Malformed}
use Rattle.frames.specs.declared.malformed.Malformed.TheVariants.{Length, BadMode}
use Rattle.frames.specs.declared.frame.Frame.{Frame}
use Rattle.frames.specs.declared.frame.Frame.TheVariants.{Begin, Ask, Settle, Grant, Finish, Clear, Abandon, Ring, Owing}

-- two bytes for each access
abbrev pub accesses_of : Entries Access 2 → List Access
accesses_of a = entries_of access_in a

-- four bytes for each value
abbrev pub values_of : Entries ℤ 4 → List ℤ
values_of v = entries_of number_of_bytes v

-- the call that a frame is
abbrev pub frame_call : Frame → Call ℤ
frame_call (Begin protocol site timestamp interval accesses) = begin protocol site timestamp interval (accesses_of accesses)
frame_call (Ask number item) = ask number item
frame_call (Settle number) = settle number
frame_call (Grant item) = grant item
frame_call (Finish number values) = finish number (values_of values)
frame_call (Clear number) = clear number
frame_call (Abandon number) = abandon number
frame_call Ring = ring
frame_call Owing = owing

-- the first access whose mode is neither 00 nor 01 is the one at i; each access has two bytes, and its mode is the first
pub record FirstBadMode (bytes : List ℕ) (i : ℕ) : Type 0 where
  pub within : 2 * i < length bytes
  pub bad : 1 < slice_index bytes (2 * i)
  pub before : (j : ℕ) → j < i → slice_index bytes (2 * j) ≤ 1

-- bytes that are values, four for each
abbrev pub ValuesIn : List ℕ → Result (Entries ℤ 4) Malformed → Type 0
ValuesIn bytes (Ok v) = (bytes ≡ flat_map bytes_of_number (values_of v)) × All Signed32 (values_of v)
ValuesIn bytes (Err Length) = length bytes % 4 ≢ 0
ValuesIn bytes (Err (BadMode i)) = ⊥

-- bytes that are accesses, two for each
abbrev pub AccessesIn : List ℕ → Result (Entries Access 2) Malformed → Type 0
AccessesIn bytes (Ok a) = (bytes ≡ flat_map access_bytes (accesses_of a)) × All (λ x. x.item < 256) (accesses_of a)
AccessesIn bytes (Err Length) = length bytes % 2 ≢ 0
AccessesIn bytes (Err (BadMode i)) = (length bytes % 2 ≡ 0) × FirstBadMode bytes i
