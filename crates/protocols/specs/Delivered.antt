-- The delivered bank, and the kind of each of its numbers.
use Rattle.std.specs.Prelude.{ℕ, if◌then◌else◌, Some, None, Option, ◌==◌}
use Rattle.protocols.specs.declared.agreement.Agreement.{Agreement}
use Rattle.protocols.specs.declared.bank.Bank.{Bank}
use Rattle.protocols.specs.declared.locking.Locking.{Locking}
use Rattle.protocols.specs.declared.ordering.Ordering.{Ordering}
use Rattle.protocols.specs.declared.question.Kind.{Kind}
use Rattle.protocols.specs.declared.question.Kind.TheVariants.{Lock, Order, Agree}

-- locking, then ordering, then agreement
abbrev pub delivered_bank : Bank Locking (Bank Ordering Agreement)
delivered_bank = record { first = record {}; second = record { first = record {}; second = record {} } }

-- the kind of a number, if it is one of the three
abbrev pub delivered_kind : ℕ → Option Kind
delivered_kind n = (if n == 0 then Some Lock else (if n == 1 then Some Order else (if n == 2 then Some Agree else None)))
