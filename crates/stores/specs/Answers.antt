-- What a store answers, by the list of its values and its room, the number of writes that it will surely still take: two arguments, as a store states them by two members.
use Rattle.std.specs.Prelude.{◌≡◌, ℕ, ◌+◌, ◌<◌, ◌≤◌, List, length, Some, Result, MatchResult, slice_get, slice_set}
use Rattle.refusals.specs.declared.Reason.TheVariants.{NoSuchItem, NoRoom}
use Rattle.refusals.specs.declared.Refusal.{Refusal}
use Rattle.refusals.specs.Numbers.{refusal_at}

-- a refusal of item i by a store of n items
abbrev pub RefusesItem : ℕ → ℕ → Refusal → Type 0
RefusesItem n i refusal = (n ≤ i) × (refusal ≡ refusal_at NoSuchItem i)

module _ {V : Type 0} where
  -- a read of item i answers the value there
  abbrev pub ReadOf : List V → ℕ → Result V Refusal → Type 0
  ReadOf values i result = MatchResult result (λ v. slice_get values i ≡ Some v) (RefusesItem (length values) i)

  -- a write of v at item i replaces the value there and no other, and takes at most one from the room
  pub record Stored (values : List V) (room i : ℕ) (v : V) (values' : List V) (room' : ℕ) : Type 0 where
    pub item : i < length values
    pub space : 0 < room
    pub replaced : values' ≡ slice_set values i v
    pub room_falls : room' ≤ room
    pub by_one : room ≤ room' + 1

  -- a write that is refused alters nothing
  pub record Unstored (values : List V) (room i : ℕ) (refusal : Refusal) (values' : List V) (room' : ℕ) : Type 0 where
    pub same : values' ≡ values
    pub same_room : room' ≡ room
    pub missing : length values ≤ i → refusal ≡ refusal_at NoSuchItem i
    pub full : i < length values → (room ≡ 0) × (refusal ≡ refusal_at NoRoom 0)

  -- a write of v at item i is served or refused, whatever it answers where it is served
  abbrev pub WriteOf : {A : Type 0} → List V → ℕ → ℕ → V → Result A Refusal → List V → ℕ → Type 0
  WriteOf values room i v result values' room' =
      MatchResult result (λ _. Stored values room i v values' room') (λ refusal. Unstored values room i refusal values' room')
