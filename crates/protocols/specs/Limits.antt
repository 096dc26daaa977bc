-- The limits of what a protocol is asked.
use Rattle.std.specs.Prelude.{ℕ, ◌≤◌}
use Rattle.protocols.specs.declared.question.Question.{Question}

-- no timestamp and no place in a queue is above this
abbrev pub last_timestamp : ℕ
last_timestamp = 1000000000

-- no interval is above this
abbrev pub longest_interval : ℕ
longest_interval = 1000000

-- a question within the limits
pub record Within (q : Question) : Type 0 where
  pub timestamp_low : 1 ≤ q.timestamp
  pub timestamp_high : q.timestamp ≤ last_timestamp
  pub interval_low : 1 ≤ q.interval
  pub interval_high : q.interval ≤ longest_interval
