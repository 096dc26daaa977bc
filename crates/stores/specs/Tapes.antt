-- What a tape holds, by its row of entries: the first n are the opening values of items 0 to n - 1, and the entries behind them were written later, oldest first.
use Rattle.std.specs.Prelude.{◌≡◌, ℕ, ◌+◌, ◌-◌, ◌<◌, ◌≤◌, ◌≢◌, min, List, [], ◌∷◌, map, fold, length, take, drop, Result, MatchResult, slice_set}
use Rattle.std.specs.Borrow.{GName}
use Rattle.std.specs.List.{HoldsAt}
use Rattle.refusals.specs.declared.Reason.TheVariants.{BadTapeRow}
use Rattle.refusals.specs.declared.Refusal.{Refusal}
use Rattle.stores.specs.declared.tape.Tape.{Tape}
use Rattle.stores.specs.declared.tape.entry.Entry.{Entry}

module _ {R : Type 0} where
  -- the first n entries are those of items 0 to n - 1
  abbrev pub Begins : ℕ → List (Entry R) → Type 0
  Begins n row = (i : ℕ) → i < n → HoldsAt (λ e. e.item ≡ i) row i

  -- a row that a tape of n items opens over
  pub record Opens (n : ℕ) (row : List (Entry R)) : Type 0 where
    pub low : n ≤ length row
    pub high : length row ≤ 65535
    pub front : Begins n row

  -- k is the first of n entries that is not that of item k
  pub record FirstWrong (n : ℕ) (row : List (Entry R)) (k : ℕ) : Type 0 where
    pub within : k < n
    pub wrong : HoldsAt (λ e. e.item ≢ k) row k
    pub before : Begins k row

  -- a row of another length is refused at place 0, and any other at the first wrong entry
  pub record RefusedRow (n : ℕ) (row : List (Entry R)) (refusal : Refusal) : Type 0 where
    pub reason : refusal.reason ≡ BadTapeRow
    pub short : length row < n → refusal.place ≡ 0
    pub long : 65535 < length row → refusal.place ≡ 0
    pub entry : n ≤ length row → length row ≤ 65535 → FirstWrong n row refusal.place

  module _ {V : Type 0} (value_of : R → V) where
    -- the value of each entry
    abbrev pub entry_values : List (Entry R) → List V
    entry_values = map (λ e. value_of e.value)

    -- the values after the entries were written over them, one after the other
    abbrev pub written : List V → List (Entry R) → List V
    written = fold (λ values e. slice_set values e.item (value_of e.value))

    -- the value of each item of a tape
    abbrev pub tape_values : Tape V R → List V
    tape_values t = written (entry_values (take t.n t.row.now)) (take t.count (drop t.n t.row.now))

module _ {V R : Type 0} where
  -- the entries of a tape that are not used yet
  abbrev pub unused : Tape V R → ℕ
  unused t = min (length t.row.now - t.n - t.count) 65535

  -- the row that a tape has on loan
  abbrev pub tape_loans : Tape V R → List GName
  tape_loans t = t.row.ghost_name ∷ []

  -- a tape of n items, just opened over a row
  pub record Opened (value_of : R → V) (n : ℕ) (row : List (Entry R)) (t : Tape V R) : Type 0 where
    pub opens : Opens n row
    pub items : t.n ≡ n
    pub count : t.count ≡ 0
    pub values : tape_values value_of t ≡ entry_values value_of (take n row)
    pub room : unused t ≡ length row - n
    pub same : t.row.now ≡ row

  -- an entry added behind the others
  pub record Appended (t : Tape V R) (e : Entry R) (t' : Tape V R) : Type 0 where
    pub row : t'.row.now ≡ slice_set t.row.now (t.n + t.count) e
    pub items : t'.n ≡ t.n
    pub count : t'.count ≡ t.count + 1

  -- no entry added
  pub record Unappended (t t' : Tape V R) : Type 0 where
    pub row : t'.row.now ≡ t.row.now
    pub items : t'.n ≡ t.n
    pub count : t'.count ≡ t.count

  -- a served write adds an entry, and a refused one adds none
  abbrev pub Recorded : Tape V R → ℕ → R → Result (Unit {0}) Refusal → Tape V R → Type 0
  Recorded t i x result t' = MatchResult result (λ _. Appended t (record { item = i; value = x }) t') (λ _. Unappended t t')
