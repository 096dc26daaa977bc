use Rattle.std.proofs.Common.{sym, ◌∙◌}
use Rattle.frames.proofs.Chunks.{accesses_in, bad_mode_in}
use Rattle.frames.proofs.cursor.Cursor.accesses.Goals as goal

pub returns-in-Some-clause-value : goal.returns-in-Some-clause-value
returns-in-Some-clause-value c = bad_mode_in c.args.self.now c.in_ok-accesses.accesses c.in_ok-accesses.ensures.value c.in-Some.i (sym c.bad_mode.ensures ∙ c.in-Some.is)

pub returns-in-None-clause-value : goal.returns-in-None-clause-value
returns-in-None-clause-value c = accesses_in c.args.self.now c.in_ok-accesses.accesses c.in_ok-accesses.ensures.value (sym c.bad_mode.ensures ∙ c.in-None.is)
