-- When a line is a frame, what it says, and why it is refused otherwise.
use Rattle.std.specs.Prelude.{◌≡◌, ℕ, ◌≤◌, List, length, ℤ, Ok, Err, Result}
use Rattle.refusals.specs.declared.Refusal.{Refusal}
use Rattle.hexlines.specs.Hex.{hex, Bytes}
use Rattle.hexlines.specs.Decoding.{Undecoded}
use Rattle.calls.specs.Calls.{Call}
use Rattle.frames.specs.declared.frame.Frame.{Frame}
use Rattle.frames.specs.Table.{call_bytes, Fits}
use Rattle.frames.specs.Borrowed.{frame_call}
use Rattle.frames.specs.Reading.{Unframed}

-- the line of a call: what a writer of frames would write for it
pub record LineSays (line : List ℕ) (c : Call ℤ) : Type 0 where
  pub short : length line ≤ 140
  pub spelled : line ≡ hex (call_bytes c)
  pub fits : Fits c

-- the first question answered no, of the line's characters or else of its bytes
pub data Unread (line : List ℕ) (e : Refusal) : Type 0 where
  undecoded : Undecoded line e → Unread line e
  unframed : (bytes : List ℕ) → length line ≤ 140 → line ≡ hex bytes → Bytes bytes → Unframed bytes e → Unread line e

-- what a line is read as: the frame that says its call, or why it says none
abbrev pub LineOf : List ℕ → Result Frame Refusal → Type 0
LineOf line (Ok f) = LineSays line (frame_call f)
LineOf line (Err e) = Unread line e

-- a line that says a call is read as this call
abbrev pub LineBack : List ℕ → Result Frame Refusal → Type 0
LineBack line (Ok f) = (c : Call ℤ) → LineSays line c → frame_call f ≡ c
LineBack line (Err e) = (c : Call ℤ) → ¬ LineSays line c

-- and no other line says it
abbrev pub LineOnly : List ℕ → Result Frame Refusal → Type 0
LineOnly line (Ok f) = (other : List ℕ) → LineSays other (frame_call f) → other ≡ line
LineOnly line (Err e) = Unit {0}
