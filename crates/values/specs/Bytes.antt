-- A signed number and its four bytes, most significant first, in two's complement.
use Rattle.std.specs.Prelude.{◌≡◌, ℕ, List, ℤ}
use Rattle.std.specs.Int.{w32, cast_signed, cast_unsigned, from_be_bytes, to_be_bytes}

-- the number that four bytes spell
abbrev pub number_of_bytes : List ℕ → ℤ
number_of_bytes bytes = cast_signed w32 (from_be_bytes w32 bytes)

-- the four bytes that spell a number
abbrev pub bytes_of_number : ℤ → List ℕ
bytes_of_number value = to_be_bytes w32 (cast_unsigned w32 value)

-- a number of 32 bits with a sign: it comes back from its bytes
abbrev pub Signed32 : ℤ → Type 0
Signed32 v = number_of_bytes (bytes_of_number v) ≡ v
