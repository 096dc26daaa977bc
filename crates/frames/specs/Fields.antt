-- The fields that bytes spell.
use Rattle.std.specs.Prelude.{◌≡◌, ℕ, if◌then◌else◌, List, [], ◌∷◌, length, ◌==◌, slice_index, refl}
use Rattle.std.proofs.Common.{arith}
use Rattle.hexlines.specs.Hex.{Bytes}
use Rattle.protocols.specs.declared.question.Mode.{Mode}
use Rattle.protocols.specs.declared.question.Mode.TheVariants.{Read, Write}
use Rattle.calls.specs.declared.access.Access.{Access}

-- 00 is a read; the reader lets no other byte through than 00 and 01
abbrev pub mode_of : ℕ → Mode
mode_of code = if code == 0 then Read else Write

-- the access of a mode's byte and an item's
abbrev pub access_of : ℕ → ℕ → Access
access_of code item = record { mode = mode_of code; item = item }

-- the access that two bytes spell
abbrev pub access_in : List ℕ → Access
access_in bytes = access_of (slice_index bytes 0) (slice_index bytes 1)

-- one byte is the list of itself
pub one_byte : (bytes : List ℕ) → length bytes ≡ 1 → Bytes bytes → slice_index bytes 0 ∷ [] ≡ bytes
one_byte [] one small = absurd (omega arith)
one_byte (a ∷ []) one small = refl
one_byte (a ∷ b ∷ bytes) one small = absurd (omega arith)
