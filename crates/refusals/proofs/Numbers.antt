-- No two reasons have one number, and each number fits a byte.
use Rattle.std.proofs.Common.{◌≡◌, ℕ, ◌<◌, cond, eqb, refl, arith}
use Rattle.refusals.specs.declared.Layer.{Layer}
use Rattle.refusals.specs.declared.Layer.TheVariants.{Reader, Board, Store}
use Rattle.refusals.specs.declared.Reason.{Reason}
use Rattle.refusals.specs.declared.Reason.TheVariants.{NoSuchItem, NoRoom, BadTapeRow, LineTooLong, NotHexadecimal, UnknownKind, WrongLength, BadMode}
use Rattle.refusals.specs.Numbers.{layer_number, reason_number}

-- the reason of a number
abbrev pub reason_at : ℕ → Reason
reason_at n =
    cond (eqb n 20) NoSuchItem (cond (eqb n 21) NoRoom (cond (eqb n 22) BadTapeRow
    (cond (eqb n 30) LineTooLong (cond (eqb n 31) NotHexadecimal (cond (eqb n 32) UnknownKind (cond (eqb n 33) WrongLength BadMode))))))

pub reason_back : (r : Reason) → reason_at (reason_number r) ≡ r
reason_back NoSuchItem = refl
reason_back NoRoom = refl
reason_back BadTapeRow = refl
reason_back LineTooLong = refl
reason_back NotHexadecimal = refl
reason_back UnknownKind = refl
reason_back WrongLength = refl
reason_back BadMode = refl

pub reason_below : (r : Reason) → reason_number r < 256
reason_below NoSuchItem = omega arith
reason_below NoRoom = omega arith
reason_below BadTapeRow = omega arith
reason_below LineTooLong = omega arith
reason_below NotHexadecimal = omega arith
reason_below UnknownKind = omega arith
reason_below WrongLength = omega arith
reason_below BadMode = omega arith

pub layer_below : (l : Layer) → layer_number l < 256
layer_below Reader = omega arith
layer_below Board = omega arith
layer_below Store = omega arith
