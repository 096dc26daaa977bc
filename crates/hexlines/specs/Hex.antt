-- Bytes as hexadecimal digits: two for each byte, the more significant first, in lower case.
use Rattle.std.specs.Prelude.{◌≡◌, ℕ, ◌+◌, ◌/◌, ◌%◌, ◌<◌, if◌then◌else◌, List, [], ◌∷◌, flat_map, nat_lt, slice_index}

-- the digit of a number below 16: 0 to 9, then a to f
abbrev pub digit : ℕ → ℕ
digit n = if nat_lt n 10 then 48 + n else 87 + n

-- the two digits of a byte
abbrev pub byte_digits : ℕ → List ℕ
byte_digits b = digit (b / 16) ∷ digit (b % 16) ∷ []

-- the line that spells some bytes
abbrev pub hex : List ℕ → List ℕ
hex bytes = flat_map byte_digits bytes

-- the character is the digit of some number below 16
abbrev pub Digit : ℕ → Type 0
Digit c = (n : ℕ) × (n < 16) × (c ≡ digit n)

-- each is below 256, in the form that std's lemmas on the bytes of numbers take (past the end `slice_index` answers 0)
abbrev pub Bytes : List ℕ → Type 0
Bytes bytes = (k : ℕ) → slice_index bytes k < 256
