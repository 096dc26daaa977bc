-- The table of frames that are read: the fields of each kind in their order and widths, and how long it is.
use Rattle.std.specs.Prelude.{◌≡◌, ℕ, ◌+◌, ◌*◌, ◌^◌, ◌<◌, All, List, [], ◌∷◌, ◌++◌, ℤ}
use Rattle.std.specs.Int.{w16, w32, to_be_bytes}
use Rattle.std.specs.List.{flat_map}
use Rattle.protocols.specs.declared.question.Mode.{Mode}
use Rattle.protocols.specs.declared.question.Mode.TheVariants.{Read, Write}
use Rattle.values.specs.Bytes.{bytes_of_number, Signed32}
use Rattle.calls.specs.declared.access.Access.{Access}
use Rattle.calls.specs.Calls.{Call, begin, ask, settle, grant, finish, clear, abandon, ring, owing}
use Rattle.frames.specs.declared.kinds.FrameKind.{FrameKind}
use Rattle.frames.specs.declared.kinds.FrameKind.TheVariants.{Begin, Ask, Settle, Grant, Finish, Clear, Abandon, Ring, Owing}
use Rattle.frames.specs.Kinds.{kind_number}

-- the kind of a call's frame
abbrev pub kind_of : {V : Type 0} → Call V → FrameKind
kind_of (begin protocol site timestamp interval accesses) = Begin
kind_of (ask number item) = Ask
kind_of (settle number) = Settle
kind_of (grant item) = Grant
kind_of (finish number values) = Finish
kind_of (clear number) = Clear
kind_of (abandon number) = Abandon
kind_of ring = Ring
kind_of owing = Owing

-- the byte of a mode
abbrev pub mode_code : Mode → ℕ
mode_code Read = 0
mode_code Write = 1

-- the two bytes of an access
abbrev pub access_bytes : Access → List ℕ
access_bytes a = mode_code a.mode ∷ a.item ∷ []

-- the bytes behind the kind
abbrev pub fields : Call ℤ → List ℕ
fields (begin protocol site timestamp interval accesses) = protocol ∷ site ∷ (to_be_bytes w32 timestamp ++ (to_be_bytes w32 interval ++ flat_map access_bytes accesses))
fields (ask number item) = to_be_bytes w16 number ++ item ∷ []
fields (settle number) = to_be_bytes w16 number
fields (grant item) = item ∷ []
fields (finish number values) = to_be_bytes w16 number ++ flat_map bytes_of_number values
fields (clear number) = to_be_bytes w16 number
fields (abandon number) = to_be_bytes w16 number
fields ring = []
fields owing = []

-- the bytes of a call's frame
abbrev pub call_bytes : Call ℤ → List ℕ
call_bytes c = kind_number (kind_of c) ∷ fields c

-- the bytes of a frame without its list
abbrev pub fixed_length : FrameKind → ℕ
fixed_length Begin = 11
fixed_length Ask = 4
fixed_length Settle = 3
fixed_length Grant = 2
fixed_length Finish = 3
fixed_length Clear = 3
fixed_length Abandon = 3
fixed_length Ring = 1
fixed_length Owing = 1

-- the bytes of one entry of its list; 0 where it has no list
abbrev pub entry_length : FrameKind → ℕ
entry_length Begin = 2
entry_length Ask = 0
entry_length Settle = 0
entry_length Grant = 0
entry_length Finish = 4
entry_length Clear = 0
entry_length Abandon = 0
entry_length Ring = 0
entry_length Owing = 0

-- a frame of that kind can have n bytes
abbrev pub RightLength : FrameKind → ℕ → Type 0
RightLength kind n = (entries : ℕ) × (n ≡ fixed_length kind + entries * entry_length kind)

-- each field fits its width
abbrev pub Fits : Call ℤ → Type 0
Fits (begin protocol site timestamp interval accesses) = (protocol < 256) × (site < 256) × (timestamp < 2 ^ 32) × (interval < 2 ^ 32) × All (λ a. a.item < 256) accesses
Fits (ask number item) = (number < 2 ^ 16) × (item < 256)
Fits (settle number) = number < 2 ^ 16
Fits (grant item) = item < 256
Fits (finish number values) = (number < 2 ^ 16) × All Signed32 values
Fits (clear number) = number < 2 ^ 16
Fits (abandon number) = number < 2 ^ 16
Fits ring = Unit {0}
Fits owing = Unit {0}
