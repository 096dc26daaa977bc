-- The row form of a plan record, and the record that a row form stands for.
use Rattle.std.specs.Prelude.{◌≡◌, ℕ, from_bits, to_bits}
use Rattle.std.specs.Float.{binary64}
use Rattle.std.specs.Float.Ieee.{Float}
use Rattle.values.specs.declared.plan.Plan.{Plan}
use Rattle.values.specs.declared.plan.Plan.TheVariants.{Empty, Orbit, Booking}

-- each float as its 64 bits, not-a-number as 7ff8000000000000
abbrev pub plan_row : Plan Float → Plan ℕ
plan_row Empty = Empty
plan_row (Orbit x y z epoch) = Orbit (to_bits binary64 x) (to_bits binary64 y) (to_bits binary64 z) epoch
plan_row (Booking station start end) = Booking station start end

-- every pattern of not-a-number is read as not-a-number
abbrev pub plan_of_row : Plan ℕ → Plan Float
plan_of_row Empty = Empty
plan_of_row (Orbit x y z epoch) = Orbit (from_bits binary64 x) (from_bits binary64 y) (from_bits binary64 z) epoch
plan_of_row (Booking station start end) = Booking station start end

-- q is p with each coordinate changed as R says, and all else as it was
abbrev pub MapsCoordinates : {C D : Type 0} → (C → D → Type 0) → Plan C → Plan D → Type 0
MapsCoordinates R Empty q = q ≡ Empty
MapsCoordinates {D = D} R (Orbit x y z epoch) q = (x' : D) × (y' : D) × (z' : D) × R x x' × R y y' × R z z' × (q ≡ Orbit x' y' z' epoch)
MapsCoordinates R (Booking station start end) q = q ≡ Booking station start end
