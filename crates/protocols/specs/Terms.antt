-- What each kind of protocol may answer, and where an answer puts a request.
use Rattle.std.specs.Prelude.{◌≡◌, ℕ, ◌<◌, ◌≤◌, Some, None, Option}
use Rattle.protocols.specs.declared.question.Kind.{Kind}
use Rattle.protocols.specs.declared.question.Kind.TheVariants.{Lock, Order, Agree}
use Rattle.protocols.specs.declared.question.Placement.{Placement}
use Rattle.protocols.specs.declared.question.Placement.TheVariants.{Own, Moved, Last, Away}
use Rattle.protocols.specs.Limits.{last_timestamp}

-- moved above the bar and within the limit, or turned away
abbrev pub MovedOrAway : ℕ → Placement → Type 0
MovedOrAway bar Own = ⊥
MovedOrAway bar (Moved place) = (bar < place) × (place ≤ last_timestamp)
MovedOrAway bar Last = ⊥
MovedOrAway bar Away = Unit {0}

-- a lock stands last; the others keep their own timestamp exactly when it is above the bar
abbrev pub Terms : Kind → ℕ → ℕ → Placement → Type 0
Terms Lock timestamp bar a = a ≡ Last
Terms Order timestamp bar a = (bar < timestamp → a ≡ Own) × (timestamp ≤ bar → a ≡ Away)
Terms Agree timestamp bar a = (bar < timestamp → a ≡ Own) × (timestamp ≤ bar → MovedOrAway bar a)

-- the place at which a request stands, in a queue whose largest place ever was `high`
abbrev pub stands : Placement → ℕ → ℕ → Option ℕ
stands Own timestamp high = Some timestamp
stands (Moved place) timestamp high = Some place
stands Last timestamp high = Some high
stands Away timestamp high = None
