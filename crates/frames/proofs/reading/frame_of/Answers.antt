use Rattle.frames.proofs.Frames.{no_length, no_mode}
use Rattle.frames.proofs.reading.frame_of.Goals as goal

pub returns-in-Err-Length : goal.returns-in-Err-Length
returns-in-Err-Length c =
    let cut = rw c.in_ok-number.ensures.ok_part at c.split_first.ensures.cases in
    let wrong = rw c.in-Err-Length.field-0-is at c.in-Err-Length.ensures in
    no_length _ _ _ _ cut.0 c.in_ok-kind.ensures _ wrong c.at.ensures

pub returns-in-Err-BadMode : goal.returns-in-Err-BadMode
returns-in-Err-BadMode c =
    let cut = rw c.in_ok-number.ensures.ok_part at c.split_first.ensures.cases in
    let wrong = rw c.in-Err-BadMode.field-0-is at c.in-Err-BadMode.ensures in
    no_mode _ _ _ _ cut.0 c.in_ok-kind.ensures _ c.in-Err-BadMode.i wrong c.at-in-Err-BadMode.ensures
