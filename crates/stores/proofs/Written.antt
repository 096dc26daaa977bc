-- What stands at an item after entries were written over the opening values: the newest entry's value, or the opening one.
use Rattle.std.proofs.Common.{◌≡◌, ℕ, ◌+◌, ◌<◌, min, cond, List, [], ◌∷◌, Option, Some, Bor, length, take, drop, set, refl, ◌∙◌, arith, length-drop, length-set}
use Rattle.std.specs.Prelude.{◌==◌, find, reverse, slice_get, unwrap_or}
use Rattle.std.specs.Option.{option_copied, option_map_or}
use Rattle.std.proofs.lemmas.Bool.Decides.{nat_tests}
use Rattle.std.proofs.lemmas.Grind.{common_steps, fold-append, reverse_onto}
use Rattle.std.proofs.lemmas.List.{length-map, length-take, take-set-le, drop-set-add, take_more_set}
use Rattle.std.proofs.lemmas.List.Folds.{find-append}
use Rattle.std.proofs.lemmas.Option.{gets, slice_get-map}
use Rattle.stores.specs.declared.tape.Tape.{Tape}
use Rattle.stores.specs.declared.tape.entry.Entry.{Entry}
use Rattle.stores.specs.Tapes.{entry_values, written, tape_values}

module _ {R V : Type 0} (f : R → V) where
  pub length-written : (vs : List V) (es : List (Entry R)) → length (written f vs es) ≡ length vs
  length-written vs [] = refl
  length-written vs (e ∷ es) = length-written (set vs e.item (f e.value)) es ∙ length-set vs e.item (f e.value)

  slice_get-set : (vs : List V) (i j : ℕ) (v w : V) → slice_get vs i ≡ Some v → slice_get (set vs j w) i ≡ Some (cond (j == i) w v)
  slice_get-set vs i j v w at = grind (arith, nat_tests, common_steps, gets)

  -- the value at item i is that of its newest entry, or else the one before all of them
  pub slice_get-written : (vs : List V) (es : List (Entry R)) (i : ℕ) (v : V) → slice_get vs i ≡ Some v
      → slice_get (written f vs es) i ≡ Some (option_map_or (λ x. f x.value) (find (λ x. x.item == i) (reverse es)) v)
  slice_get-written vs [] i v at = at
  slice_get-written vs (e ∷ es) i v at =
      grind (arith, nat_tests, reverse_onto, find-append, slice_get-written (set vs e.item (f e.value)) es i _ (slice_get-set vs i e.item v (f e.value) at))

  -- the value at item i, by the opening entry of the item and the newest of those written since
  pub slice_get-newest : (opening log : List (Entry R)) (i : ℕ) (newest : Option (Bor (Entry R))) (entry first : Bor (Entry R))
      → slice_get opening i ≡ Some first.now → option_copied newest ≡ find (λ x. x.item == i) (reverse log) → entry ≡ unwrap_or newest first
      → slice_get (written f (entry_values f opening) log) i ≡ Some (f entry.now.value)
  slice_get-newest opening log i newest entry first at found taken =
      let value : slice_get (written f (entry_values f opening) log) i ≡ Some (option_map_or (λ x. f x.value) (find (λ x. x.item == i) (reverse log)) (f first.now.value)) =
      slice_get-written (entry_values f opening) log i (f first.now.value) (grind (arith, slice_get-map (λ e. f e.value) opening i)) in
      grind arith

  -- an entry put behind the others is written last
  pub written_push : (row : List (Entry R)) (n count : ℕ) (e : Entry R) → n + count < length row
      → written f (entry_values f (take n (set row (n + count) e))) (take (count + 1) (drop n (set row (n + count) e)))
      ≡ set (written f (entry_values f (take n row)) (take count (drop n row))) e.item (f e.value)
  written_push row n count e free = grind (arith, take-set-le n row (n + count) e, drop-set-add, take_more_set, fold-append, length-drop)

  -- a tape has an item for each of its opening entries
  pub length-tape_values : (t : Tape V R) → length (tape_values f t) ≡ min t.n (length t.row.now)
  length-tape_values t = grind (arith, length-written, length-map, length-take)

pub ruleset tape_lengths = (length-tape_values)
