-- An input as lines: a line feed (10) ends a line, the end of the input ends one begun.
use Rattle.std.specs.Prelude.{◌≡◌, ℕ, ◌<◌, List, [], ◌∷◌, length, Some, None, Option, ◌==◌, if◌then◌else◌}
use Rattle.std.specs.List.{onto_first}
use Rattle.hexlines.specs.declared.split.Split.{Split}
use Rattle.hexlines.specs.declared.split.Lines.{Lines}

-- the lines of an input: a character goes to the front of the first line, or begins a line where there is none
abbrev pub lines : List ℕ → List (List ℕ)
lines [] = []
lines (c ∷ cs) = if c == 10 then [] ∷ lines cs else onto_first c (lines cs)

-- the first line and the input behind it, of which the other lines are
abbrev pub SplitOf : List ℕ → Option Split → Type 0
SplitOf input None = input ≡ []
SplitOf input (Some s) = (lines input ≡ s.line.now ∷ lines s.rest.now) × (length s.rest.now < length input)

-- the lines that an iterator will still give
abbrev pub lines_left : Lines → List (List ℕ)
lines_left s = lines s.rest.now
