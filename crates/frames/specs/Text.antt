-- What is printed of a frame, where a clause can say it: none speaks of how a list is printed.
use Rattle.std.specs.Prelude.{ℕ, List, ◌++◌, Some, None, codes, decimal, Option}
use Rattle.frames.specs.declared.frame.Frame.{Frame}
use Rattle.frames.specs.declared.frame.Frame.TheVariants.{Begin, Ask, Settle, Grant, Finish, Clear, Abandon, Ring, Owing}

-- a frame in words, its numbers in decimal
abbrev pub frame_text : Frame → Option (List ℕ)
frame_text (Begin protocol site timestamp interval accesses) = None
frame_text (Ask number item) = Some (codes "ask " ++ (decimal number ++ (codes " for item " ++ decimal item)))
frame_text (Settle number) = Some (codes "settle " ++ decimal number)
frame_text (Grant item) = Some (codes "grant item " ++ decimal item)
frame_text (Finish number values) = None
frame_text (Clear number) = Some (codes "clear " ++ decimal number)
frame_text (Abandon number) = Some (codes "abandon " ++ decimal number)
frame_text Ring = Some (codes "ring")
frame_text Owing = Some (codes "owing")
