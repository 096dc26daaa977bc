-- When bytes are a frame, what it says, and why they are refused otherwise.
use Rattle.std.specs.Prelude.{◌≡◌, ℕ, suc, ◌+◌, ◌*◌, List, ◌∷◌, length, drop, Ok, Err, Result, ◌≢◌}
use Rattle.refusals.specs.declared.Refusal.{Refusal}
use Rattle.refusals.specs.declared.Reason.TheVariants.{UnknownKind, WrongLength, BadMode}
use Rattle.refusals.specs.Numbers.{refusal_at}
use Rattle.frames.specs.declared.frame.Frame.{Frame}
use Rattle.frames.specs.declared.kinds.FrameKind.{FrameKind}
use Rattle.frames.specs.declared.kinds.FrameKind.TheVariants.{Begin}
use Rattle.frames.specs.declared.malformed.Malformed.{Malformed}
use Rattle.frames.specs.declared.malformed.Malformed.TheVariants.{Length, BadMode}
use Rattle.frames.specs.Kinds.{kind_number}
use Rattle.frames.specs.Table.{call_bytes, fixed_length, Fits, RightLength}
use Rattle.frames.specs.Borrowed.{FirstBadMode, frame_call}

-- the first question answered no: a known kind, a right length, modes 00 and 01
pub data Unframed (bytes : List ℕ) (e : Refusal) : Type 0 where
  unknown_kind : ((kind : FrameKind) (rest : List ℕ) → bytes ≢ kind_number kind ∷ rest) → e ≡ refusal_at UnknownKind 0 → Unframed bytes e
  wrong_length : (kind : FrameKind) (rest : List ℕ) → bytes ≡ kind_number kind ∷ rest → ¬ RightLength kind (length bytes) → e ≡ refusal_at WrongLength (length bytes) → Unframed bytes e
  bad_mode : (i : ℕ) (rest : List ℕ) → bytes ≡ kind_number Begin ∷ rest → RightLength Begin (length bytes) → FirstBadMode (drop (fixed_length Begin) bytes) i → e ≡ refusal_at BadMode (fixed_length Begin + 2 * i) → Unframed bytes e

-- what is behind the byte of a kind, as the fields of that kind
abbrev pub FieldsOf : FrameKind → List ℕ → Result Frame Malformed → Type 0
FieldsOf kind bytes (Ok f) = (kind_number kind ∷ bytes ≡ call_bytes (frame_call f)) × Fits (frame_call f)
FieldsOf kind bytes (Err Length) = ¬ RightLength kind (suc (length bytes))
FieldsOf kind bytes (Err (BadMode i)) = (kind ≡ Begin) × RightLength Begin (suc (length bytes)) × FirstBadMode (drop (fixed_length Begin) (kind_number kind ∷ bytes)) i

-- what bytes are read as
abbrev pub FrameOf : List ℕ → Result Frame Refusal → Type 0
FrameOf bytes (Ok f) = (bytes ≡ call_bytes (frame_call f)) × Fits (frame_call f)
FrameOf bytes (Err e) = Unframed bytes e
