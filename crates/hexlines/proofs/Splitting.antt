-- The first line ends at the first line feed, or with the input.
use Rattle.std.proofs.Common.{◌≡◌, ℕ, ◌+◌, ◌<◌, eqb, List, [], ◌∷◌, length, take, drop, Some, None, subst, arith}
use Rattle.std.proofs.lemmas.List.{take_rest}
use Rattle.std.proofs.lemmas.Grind.{common_steps}
use Rattle.std.specs.List.{after_first, before_first, position_or_len}
use Rattle.std.specs.Prelude.{position}
use Rattle.hexlines.specs.Lines.{lines}

-- up to the first line feed, and behind it
lines-first : (input : List ℕ) → position_or_len (λ c. eqb c 10) input < length input → lines input ≡ before_first (λ c. eqb c 10) input ∷ lines (after_first (λ c. eqb c 10) input)
lines-first [] h = absurd (omega arith)
lines-first (c ∷ cs) h = grind (arith, common_steps, lines-first cs)

-- what the place of the first line feed is, as a number
place : (input : List ℕ) (end : ℕ) → position (λ c. eqb c 10) input ≡ Some end → (position_or_len (λ c. eqb c 10) input ≡ end) × (end < length input)
place input end e = grind (arith, common_steps)

pub lines_at_feed : (input : List ℕ) (end : ℕ) → position (λ c. eqb c 10) input ≡ Some end → lines input ≡ take end input ∷ lines (drop (end + 1) input)
lines_at_feed input end e =
    let p = place input end e in
    subst (λ n. lines input ≡ take n input ∷ lines (drop (n + 1) input)) p.0 (lines-first input (omega arith))

pub lines_without_feed : (input : List ℕ) → 0 < length input → position (λ c. eqb c 10) input ≡ None → lines input ≡ input ∷ []
lines_without_feed [] h e = absurd (omega arith)
lines_without_feed (c ∷ []) h e = grind (arith, common_steps)
lines_without_feed (c ∷ d ∷ cs) h e = grind (arith, common_steps, lines_without_feed (d ∷ cs) (omega arith))

-- what the first line is, with and without a line feed
pub ruleset first_lines = (take_rest, lines_at_feed, lines_without_feed)
