-- The place of precedence agreement is reached by the smallest whole number of intervals.
use Rattle.std.proofs.Common.{ℕ, ◌+◌, ◌-◌, ◌*◌, ◌/◌, ◌<◌, ◌≤◌, div-lt_iff_lt-mul, add-mul, one-mul, arith}
use native.Mathlib.Nat.{lt-div-mul-add}
use Rattle.std.proofs.lemmas.Bool.Decides.{nat_tests}
use Rattle.protocols.specs.Placed.{Smallest, AgreedBySmallestStep}

module _ (t i bar : ℕ) (not-above : t ≤ bar) (step : 1 ≤ i) where
  pub smallest : Smallest t i bar ((bar - t) / i + 1)
  smallest = record {
    positive = omega arith;
    above = omega (arith, add-mul ((bar - t) / i) 1 i, one-mul i, lt-div-mul-add {a = bar - t} {b = i} step);
    least = λ j low past.
        let under : bar - t < j * i = omega arith in
        omega (arith, (div-lt_iff_lt-mul {k = i} {x = bar - t} {y = j} step).1 under);
  }

pub by_smallest_step : AgreedBySmallestStep
by_smallest_step t i bar not-above step = ((bar - t) / i + 1, smallest t i bar not-above step, grind (arith, nat_tests))
