-- The byte that the line of each kind of answer begins with.
use Rattle.std.specs.Prelude.{ℕ}
use Rattle.answer_lines.specs.declared.kinds.AnswerKind.{AnswerKind}
use Rattle.answer_lines.specs.declared.kinds.AnswerKind.TheVariants.{Refused, Begun, Asked, Settled, Granted, Finished, Cleared, Abandoned, Ring, Owing}

-- the number of a kind
abbrev pub kind_number : AnswerKind → ℕ
kind_number Refused = 0x00
kind_number Begun = 0x81
kind_number Asked = 0x82
kind_number Settled = 0x83
kind_number Granted = 0x84
kind_number Finished = 0x85
kind_number Cleared = 0x86
kind_number Abandoned = 0x87
kind_number Ring = 0x88
kind_number Owing = 0x89
