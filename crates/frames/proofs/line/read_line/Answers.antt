use Rattle.std.proofs.Common.{rules, ◌≡◌, Err}
use Rattle.frames.specs.Line.{LineOf, undecoded}
use Rattle.frames.proofs.Back.{back, only}
use Rattle.frames.proofs.line.read_line.Goals as goal

pub returns-in_err-buffer : goal.returns-in_err-buffer
returns-in_err-buffer c =
    let line = c.args.line.now in
    let same : c.from_residual.result ≡ Err c.in_err-buffer.field-0.0 = search rules in
    let value : LineOf line c.from_residual.result = rw same (undecoded c.in_err-buffer.ensures.value) in
    record { value = value; back = back line _ value; only = only line _ value }
