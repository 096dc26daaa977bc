-- What is written for an answer.
use Rattle.std.specs.Prelude.{All, ◌≡◌, ℕ, ◌%◌, ◌^◌, ◌<◌, List, length, ℤ}
use Rattle.hexlines.specs.Hex.{Digit, hex}
use Rattle.calls.specs.Answers.{Answered, begun, asked, settled, granted, finished, cleared, abandoned, ring_listed, owing_listed, refused}
use Rattle.answer_lines.specs.AnswerTable.{answer_bytes, AnswerFits}

-- a place past 65,535 is cut when it is written; every other answer is written whole
abbrev pub PlaceFits : Answered ℤ → Type 0
PlaceFits (begun number) = Unit {0}
PlaceFits (asked a) = Unit {0}
PlaceFits (settled timestamp) = Unit {0}
PlaceFits (granted number lock schedule value) = Unit {0}
PlaceFits (finished f) = Unit {0}
PlaceFits (cleared serial) = Unit {0}
PlaceFits abandoned = Unit {0}
PlaceFits (ring_listed numbers) = Unit {0}
PlaceFits (owing_listed numbers) = Unit {0}
PlaceFits (refused r) = r.place < 2 ^ 16

-- the bytes of an answer, whose fields fit their widths
pub record Spelled (answer : Answered ℤ) (bytes : List ℕ) : Type 0 where
  pub value : bytes ≡ answer_bytes answer
  pub fits : PlaceFits answer → AnswerFits answer

-- the line is lowercase hexadecimal of even length, and whoever decodes it by the table comes back to the same answer
pub record Written (answer : Answered ℤ) (line : List ℕ) : Type 0 where
  pub spelled : line ≡ hex (answer_bytes answer)
  pub lowercase : All Digit line
  pub even : length line % 2 ≡ 0
  pub back : PlaceFits answer → (other : Answered ℤ) → AnswerFits other → line ≡ hex (answer_bytes other) → other ≡ answer
