-- What a table holds, by its row.
use Rattle.std.specs.Prelude.{◌≡◌, ℕ, List, [], ◌∷◌, map, Result, MatchResult, slice_set}
use Rattle.std.specs.Borrow.{GName}
use Rattle.refusals.specs.declared.Refusal.{Refusal}
use Rattle.stores.specs.declared.table.Table.{Table}

module _ {R V : Type 0} where
  -- the row of a table as it stands
  abbrev pub table_row : Table V R → List R
  table_row t = t.row.now

  -- the row that a table has on loan
  abbrev pub table_loans : Table V R → List GName
  table_loans t = t.row.ghost_name ∷ []

  -- the value of each item of a table
  abbrev pub table_values : (R → V) → Table V R → List V
  table_values value_of t = map value_of t.row.now

  -- a served write puts x at place i of the row, and a refused one leaves the row
  abbrev pub Rewritten : Table V R → ℕ → R → Result (Unit {0}) Refusal → Table V R → Type 0
  Rewritten t i x result t' = MatchResult result (λ _. table_row t' ≡ slice_set (table_row t) i x) (λ _. table_row t' ≡ table_row t)
