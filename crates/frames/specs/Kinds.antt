-- The kinds of frame that are read.
use Rattle.std.specs.Prelude.{◌≡◌, ℕ, Ok, Err, Result, ◌≢◌}
use Rattle.frames.specs.declared.kinds.FrameKind.{FrameKind}
use Rattle.frames.specs.declared.kinds.FrameKind.TheVariants.{Begin, Ask, Settle, Grant, Finish, Clear, Abandon, Ring, Owing}
use Rattle.frames.specs.declared.kinds.UnknownKind.{UnknownKind}

-- the number of a kind
abbrev pub kind_number : FrameKind → ℕ
kind_number Begin = 1
kind_number Ask = 2
kind_number Settle = 3
kind_number Grant = 4
kind_number Finish = 5
kind_number Clear = 6
kind_number Abandon = 7
kind_number Ring = 8
kind_number Owing = 9

-- the kind that a byte is the number of
abbrev pub KindOf : ℕ → Result FrameKind UnknownKind → Type 0
KindOf byte (Err _) = (kind : FrameKind) → kind_number kind ≢ byte
KindOf byte (Ok kind) = kind_number kind ≡ byte
