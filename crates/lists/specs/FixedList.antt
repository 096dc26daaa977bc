-- What a fixed list holds, and what a push makes of it.
use Rattle.std.specs.Prelude.{◌≡◌, ℕ, ◌+◌, ◌<◌, ◌≤◌, List, [], ◌∷◌, ◌++◌, length, take, Ok, Err, Result}
use Rattle.std.proofs.Common.{arith}
use Rattle.std.proofs.lemmas.List.{length-take}
use Rattle.lists.specs.declared.fixed.FixedList.{FixedList}

-- the front of the places; what stands behind it is left over and means nothing
abbrev pub held : {T : Type 0} {N : ℕ} → FixedList T N → List T
held l = take l.len l.places

-- no more than there are places, of any list, also one behind a reference
pub held_fits : {T : Type 0} {N : ℕ} (l : FixedList T N) → length (held l) ≤ N
held_fits l = omega (arith, length-take l.len l.places)

-- a push adds the item at the end while there is a place, and alters nothing otherwise
pub record Pushes {T : Type 0} (N : ℕ) (item : T) (before after : List T) (r : Result Unit T) : Type 0 where
  pub added : length before < N → (r ≡ Ok tt) × (after ≡ before ++ item ∷ []) × (length after ≡ length before + 1)
  pub full : N ≤ length before → (r ≡ Err item) × (after ≡ before)

-- with a place for each of the items, all of them are added
abbrev pub AddsAll : {T : Type 0} → ℕ → List T → List T → List T → Type 0
AddsAll N before items after = length before + length items ≤ N → (after ≡ before ++ items) × (length after ≡ length before + length items)
