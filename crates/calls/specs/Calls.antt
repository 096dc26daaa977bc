-- A call with its arguments, whichever of the nine it is, over any kind of value.
use Rattle.std.specs.Prelude.{List, ℕ}
use Rattle.calls.specs.declared.access.Access.{Access}

-- one of the nine calls
pub data Call (V : Type 0) : Type 0 where
  begin : (protocol site timestamp interval : ℕ) (accesses : List Access) → Call V
  ask : (number item : ℕ) → Call V
  settle : (number : ℕ) → Call V
  grant : (item : ℕ) → Call V
  finish : (number : ℕ) (values : List V) → Call V
  clear : (number : ℕ) → Call V
  abandon : (number : ℕ) → Call V
  ring : Call V
  owing : Call V
