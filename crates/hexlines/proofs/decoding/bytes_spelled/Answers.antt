use Rattle.std.proofs.Common.{◌/◌, length, arith}
use Rattle.hexlines.specs.Hex.{Digit}
use Rattle.hexlines.specs.Decoding.{not_digit}
use Rattle.hexlines.proofs.Chunks.{All-first_chunks}
use Rattle.hexlines.proofs.decoding.bytes_spelled.Goals as goal

pub returns-in-Some : goal.returns-in-Some
returns-in-Some c = not_digit c.in-Some.place (omega arith) c.in-Some.ensures c.at-in-Some.ensures

pub bytes_of-requires-clause-digits : goal.bytes_of-requires-clause-digits
bytes_of-requires-clause-digits c =
    let line = c.args.line.now in
    rw c.as_chunks.ensures.front (All-first_chunks Digit 2 (length line / 2) line c.in_default.ensures)
