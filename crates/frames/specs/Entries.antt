-- The entries of a frame's list, N bytes for each.
use Rattle.std.specs.Prelude.{◌≡◌, ℕ, All, List, length, map}
use Rattle.std.specs.List.{flat_map}
use Rattle.hexlines.specs.Hex.{Bytes}
use Rattle.frames.specs.declared.entries.Entries.{Entries}
use Rattle.frames.specs.declared.entries.EntriesIter.{EntriesIter}

-- the value that each of its chunks spells
abbrev pub entries_of : {T : Type 0} {N : ℕ} → (List ℕ → T) → Entries T N → List T
entries_of value_of e = map value_of e.chunks.now

-- the entries that an iterator has left
abbrev pub entries_left : {T : Type 0} {N : ℕ} → (List ℕ → T) → EntriesIter T N → List T
entries_left value_of iter = entries_of value_of iter.left

-- n bytes
pub record IsChunk (n : ℕ) (chunk : List ℕ) : Type 0 where
  pub long : length chunk ≡ n
  pub small : Bytes chunk

-- the bytes of the list's entries, one behind another, are just these
pub record IsEntriesOf {T : Type 0} {N : ℕ} (bytes : List ℕ) (e : Entries T N) : Type 0 where
  pub each : All (IsChunk N) e.chunks.now
  pub joined : flat_map (λ chunk. chunk) e.chunks.now ≡ bytes
