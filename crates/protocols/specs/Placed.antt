-- The answers of the delivered protocols.
use Rattle.std.specs.Prelude.{◌≡◌, ℕ, ◌+◌, ◌-◌, ◌*◌, ◌/◌, ◌<◌, ◌≤◌, if◌then◌else◌, ◌==◌, nat_le, nat_lt}
use Rattle.protocols.specs.declared.question.Placement.{Placement}
use Rattle.protocols.specs.declared.question.Placement.TheVariants.{Own, Moved, Away}
use Rattle.protocols.specs.Limits.{last_timestamp}

-- timestamp ordering takes what is above the bar and turns away the rest
abbrev pub ordered : ℕ → ℕ → Placement
ordered timestamp bar = (if nat_lt bar timestamp then Own else Away)

-- the first of timestamp + interval, timestamp + 2 × interval, .. above the bar
abbrev pub first_above : ℕ → ℕ → ℕ → ℕ
first_above timestamp interval bar = timestamp + ((bar - timestamp) / interval + 1) * interval

-- a move to a place, unless that passes the limit
abbrev pub within_limit : ℕ → Placement
within_limit place = (if nat_le place last_timestamp then Moved place else Away)

-- precedence agreement moves what is not above the bar to the first such place, unless that passes the limit; by an interval of 0 there is none
abbrev pub agreed : ℕ → ℕ → ℕ → Placement
agreed timestamp interval bar =
    (if nat_lt bar timestamp then Own else (if interval == 0 then Away else within_limit (first_above timestamp interval bar)))

-- k is the smallest whole number of at least 1 with which timestamp + k × interval is above the bar
pub record Smallest (timestamp interval bar k : ℕ) : Type 0 where
  pub positive : 1 ≤ k
  pub above : bar < timestamp + k * interval
  pub least : (j : ℕ) → 1 ≤ j → bar < timestamp + j * interval → k ≤ j

-- what is not above the bar goes up by the smallest such k, or away where that passes the limit
abbrev pub AgreedBySmallestStep : Type 0
AgreedBySmallestStep =
    (timestamp interval bar : ℕ) → timestamp ≤ bar → 1 ≤ interval
    → (k : ℕ) × Smallest timestamp interval bar k × (agreed timestamp interval bar ≡ within_limit (timestamp + k * interval))
