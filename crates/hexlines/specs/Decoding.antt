-- When a line is decoded, into which bytes, and why it is refused otherwise.
use Rattle.std.specs.Prelude.{◌≡◌, ◌≢◌, ℕ, ◌%◌, ◌<◌, ◌≤◌, All, List, length, take, Ok, Err, Result, slice_index}
use Rattle.refusals.specs.declared.Refusal.{Refusal}
use Rattle.refusals.specs.declared.Reason.TheVariants.{LineTooLong, NotHexadecimal}
use Rattle.refusals.specs.Numbers.{refusal_at}
use Rattle.lists.specs.declared.fixed.FixedList.{FixedList}
use Rattle.lists.specs.FixedList.{held}
use Rattle.hexlines.specs.Hex.{hex, Digit, Bytes}

-- the first character that is no digit stands at i
pub record FirstOther (line : List ℕ) (i : ℕ) : Type 0 where
  pub within : i < length line
  pub before : All Digit (take i line)
  pub other : ¬ Digit (slice_index line i)

-- the first question answered no: at most 140 characters, only digits, evenly many
pub data Undecoded (line : List ℕ) (e : Refusal) : Type 0 where
  too_long : 140 < length line → e ≡ refusal_at LineTooLong 140 → Undecoded line e
  not_digit : (i : ℕ) → length line ≤ 140 → FirstOther line i → e ≡ refusal_at NotHexadecimal i → Undecoded line e
  odd : length line ≤ 140 → All Digit line → length line % 2 ≡ 1 → e ≡ refusal_at NotHexadecimal (length line) → Undecoded line e

-- what decoding a line makes: the bytes that it spells, or why it spells none
abbrev pub DecodeOf : List ℕ → Result (FixedList ℕ 70) Refusal → Type 0
DecodeOf line (Ok decoded) = (length line ≤ 140) × (line ≡ hex (held decoded)) × Bytes (held decoded)
DecodeOf line (Err e) = Undecoded line e

-- a line that spells bytes is decoded into just these
abbrev pub Back : List ℕ → Result (FixedList ℕ 70) Refusal → Type 0
Back line (Ok decoded) = (bytes : List ℕ) → Bytes bytes → line ≡ hex bytes → held decoded ≡ bytes
Back line (Err e) = (bytes : List ℕ) → Bytes bytes → length bytes ≤ 70 → line ≢ hex bytes
