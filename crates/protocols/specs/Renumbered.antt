-- The question as the second protocol of a bank is asked it: its numbers come behind the first one's.
use Rattle.std.specs.Prelude.{ℕ, ◌-◌}
use Rattle.protocols.specs.declared.question.Question.{Question}

-- the question with its number counted from `before`
abbrev pub renumbered : ℕ → Question → Question
renumbered before q =
    record { number = q.number - before; mode = q.mode; timestamp = q.timestamp; interval = q.interval; bar = q.bar }
