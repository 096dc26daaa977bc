-- What is printed of a plan record and of its row form, where a contract can say it: no clause speaks of how a float or a width is printed.
use Rattle.std.specs.Prelude.{ℕ, List, ◌++◌, Some, None, codes, decimal, Option}
use Rattle.std.specs.Float.Ieee.{Float}
use Rattle.values.specs.declared.plan.Plan.{Plan}
use Rattle.values.specs.declared.plan.Plan.TheVariants.{Empty, Orbit, Booking}

-- the text of a plan record, where it has no floats
abbrev pub plan_text : Plan Float → Option (List ℕ)
plan_text Empty = Some (codes "empty")
plan_text (Orbit x y z epoch) = None
plan_text (Booking station start end) =
    Some (codes "booking of station " ++ (decimal station ++ (codes ", seconds " ++ (decimal start ++ (codes " to " ++ decimal end)))))

-- the text of its row form, where it has no floats
abbrev pub plan_row_text : Plan ℕ → Option (List ℕ)
plan_row_text Empty = Some (codes "empty")
plan_row_text (Orbit x y z epoch) = None
plan_row_text (Booking station start end) =
    Some (codes "booking " ++ (decimal station ++ (codes ", " ++ (decimal start ++ (codes " to " ++ decimal end)))))
