-- The entries of a list: how its bytes are cut into them, that they spell its bytes again, and fit.
use Rattle.std.proofs.Common.{◌≡◌, ◌≢◌, ℕ, Ok, Err, Result, MatchResult, length-append, zero, suc, ◌*◌, ◌^◌, ◌%◌, ◌<◌, ◌≤◌, All, Bool, false, List, [], ◌∷◌, Some, None, length, map, nat_lt, get_or, position, slice_index, ℤ, sym, refl, ap, ◌∙◌, arith, w32, take, drop}
use Rattle.std.specs.Int.{from_be_bytes}
use Rattle.std.specs.List.{flat_map}
use Rattle.std.proofs.lemmas.Bool.{ltb-false, ltb-true}
use Rattle.std.proofs.lemmas.Grind.{common_steps}
use Rattle.std.proofs.lemmas.Int.{of_z-to_z}
use Rattle.std.proofs.lemmas.List.Elements.{All-head, All-map, All-tail, All-weaker, All-cons, All-nil}
use Rattle.std.proofs.lemmas.List.Quantifiers.{position-Some}
use Rattle.std.proofs.lemmas.List.Sums.{fails_before_first}
use Rattle.std.proofs.lemmas.Nat.{be_bytes_4}
use Rattle.std.specs.Simd.{first_chunks}
use Rattle.std.proofs.lemmas.List.{length-drop, length-take-le}
use Rattle.std.proofs.lemmas.Option.{slice_get-map, slice_get_read}
use Rattle.values.specs.Bytes.{bytes_of_number, number_of_bytes, Signed32}
use Rattle.calls.specs.declared.access.Access.{Access}
use Rattle.hexlines.specs.Hex.{Bytes}
use Rattle.hexlines.proofs.Bytes.{Bytes-drop, Bytes-take}
use Rattle.frames.specs.declared.entries.Entries.{Entries}
use Rattle.frames.specs.declared.malformed.Malformed.{Malformed}
use Rattle.frames.specs.declared.malformed.Malformed.TheVariants.{Length, BadMode}
use Rattle.frames.specs.Table.{access_bytes, mode_code}
use Rattle.frames.specs.Fields.{access_in, mode_of}
use Rattle.frames.specs.Entries.{IsChunk, IsEntriesOf}
use Rattle.frames.specs.Borrowed.{AccessesIn, ValuesIn}

-- bytes cut n by n are chunks
pub chunks-are : (n k : ℕ) (bytes : List ℕ) → Bytes bytes → k * n ≤ length bytes → All (IsChunk n) (first_chunks n k bytes)
chunks-are n zero bytes small long = All-nil (IsChunk n)
chunks-are n (suc k) bytes small long =
    let first : n ≤ length bytes = omega arith in
    let rest : k * n ≤ length (drop n bytes) = omega (arith, length-drop n bytes) in
    let chunk : IsChunk n (take n bytes) = record { long = length-take-le n bytes first; small = Bytes-take n bytes small } in
    All-cons (IsChunk n) (take n bytes) (first_chunks n k (drop n bytes)) chunk (chunks-are n k (drop n bytes) (Bytes-drop n bytes small) rest)

-- an element of a mapped list is made of the list's
pub ruleset mapped_element = (slice_get-map, slice_get_read)

-- where each chunk is the bytes of the value that it spells, these bytes are the chunks joined
module _ {T : Type 0} (value_of : List ℕ → T) (bytes_of : T → List ℕ) where
  pub flat_map-map : (chunks : List (List ℕ)) → All (λ chunk. bytes_of (value_of chunk) ≡ chunk) chunks → flat_map bytes_of (map value_of chunks) ≡ flat_map (λ chunk. chunk) chunks
  flat_map-map [] spelled = refl
  flat_map-map (chunk ∷ chunks) spelled =
      let first : bytes_of (value_of chunk) ≡ chunk = All-head (λ b. bytes_of (value_of b) ≡ b) chunk chunks spelled in
      let rest = flat_map-map chunks (All-tail (λ b. bytes_of (value_of b) ≡ b) chunk chunks spelled) in
      cc

-- four bytes spell a number that spells them again
value_spelled : (chunk : List ℕ) → IsChunk 4 chunk → bytes_of_number (number_of_bytes chunk) ≡ chunk
value_spelled chunk four =
    let fits : from_be_bytes w32 chunk < 2 ^ 32 = omega (arith, four.small 0, four.small 1, four.small 2, four.small 3) in
    be_bytes_4 chunk _ four.long four.small (of_z-to_z w32 (from_be_bytes w32 chunk) fits)

values_in : (bytes : List ℕ) (v : Entries ℤ 4) → IsEntriesOf bytes v → ValuesIn bytes (Ok v)
values_in bytes v entries =
    let chunks = v.chunks.now in
    let spelled = All-weaker (IsChunk 4) (λ b. bytes_of_number (number_of_bytes b) ≡ b) value_spelled chunks entries.each in
    let signed = All-weaker (IsChunk 4) (λ b. Signed32 (number_of_bytes b)) (λ b four. ap number_of_bytes (value_spelled b four)) chunks entries.each in
    (sym entries.joined ∙ sym (flat_map-map number_of_bytes bytes_of_number chunks spelled), All-map Signed32 number_of_bytes chunks signed)

pub values_from : (bytes : List ℕ) (r : Result (Entries ℤ 4) Malformed) → MatchResult r (IsEntriesOf bytes) (λ e. (e ≡ Length) × (length bytes % 4 ≢ 0)) → ValuesIn bytes r
values_from bytes (Ok v) entries = values_in bytes v entries
values_from bytes (Err Length) wrong = wrong.1
values_from bytes (Err (BadMode i)) wrong = let e = wrong.0 in cc

mode_spelled : (code : ℕ) → code ≤ 1 → mode_code (mode_of code) ≡ code
mode_spelled zero h = refl
mode_spelled (suc zero) h = refl
mode_spelled (suc (suc code)) h = absurd (omega arith)

-- a byte of mode and one of item
record IsAccess (chunk : List ℕ) : Type 0 where
  two : IsChunk 2 chunk
  mode : slice_index chunk 0 ≤ 1

access_spelled : (chunk : List ℕ) → IsAccess chunk → access_bytes (access_in chunk) ≡ chunk
access_spelled [] access = absurd (omega (arith, access.two.long))
access_spelled (code ∷ []) access = absurd (omega (arith, access.two.long))
access_spelled (code ∷ item ∷ []) access = ap (λ c. c ∷ item ∷ []) (mode_spelled code access.mode)
access_spelled (code ∷ item ∷ b ∷ bytes) access = absurd (omega (arith, access.two.long))

abbrev bad : List ℕ → Bool
bad chunk = nat_lt 1 (slice_index chunk 0)

-- no chunk passes
none_passes : (chunks : List (List ℕ)) → position bad chunks ≡ None → (k : ℕ) (d : List ℕ) → k < length chunks → bad (get_or chunks k d) ≡ false
none_passes chunks none k d within = fails_before_first bad chunks k d (grind (arith, common_steps))

pub accesses_in : (bytes : List ℕ) (a : Entries Access 2) → IsEntriesOf bytes a → position bad a.chunks.now ≡ None → AccessesIn bytes (Ok a)
accesses_in bytes a entries none =
    let chunks = a.chunks.now in
    let each : All IsAccess chunks = λ k d within. record { two = entries.each k d within; mode = ltb-false 1 _ (none_passes chunks none k d within) } in
    let spelled = All-weaker IsAccess (λ b. access_bytes (access_in b) ≡ b) access_spelled chunks each in
    let small = All-weaker (IsChunk 2) (λ b. (access_in b).item < 256) (λ b two. two.small 1) chunks entries.each in
    (sym entries.joined ∙ sym (flat_map-map access_in access_bytes chunks spelled), All-map (λ x. x.item < 256) access_in chunks small)

-- the joined chunks of two bytes are twice as many bytes as chunks
length-pairs : (chunks : List (List ℕ)) → All (IsChunk 2) chunks → length (flat_map (λ chunk. chunk) chunks) ≡ length chunks * 2
length-pairs [] pairs = refl
length-pairs (chunk ∷ chunks) pairs = simp length-append (omega (arith, (All-head (IsChunk 2) chunk chunks pairs).long, length-pairs chunks (All-tail (IsChunk 2) chunk chunks pairs)))

-- every second of their bytes is the first of a chunk
first_of_pair : (chunks : List (List ℕ)) → All (IsChunk 2) chunks → (i : ℕ) → slice_index (flat_map (λ chunk. chunk) chunks) (2 * i) ≡ slice_index (get_or chunks i []) 0
first_of_pair [] pairs i = refl
first_of_pair ([] ∷ chunks) pairs i = absurd (omega (arith, (All-head (IsChunk 2) [] chunks pairs).long))
first_of_pair ((a ∷ []) ∷ chunks) pairs i = absurd (omega (arith, (All-head (IsChunk 2) (a ∷ []) chunks pairs).long))
first_of_pair ((a ∷ b ∷ []) ∷ chunks) pairs zero = refl
first_of_pair ((a ∷ b ∷ []) ∷ chunks) pairs (suc i) =
    let twice : 2 * suc i ≡ suc (suc (2 * i)) = omega arith in
    rw twice (first_of_pair chunks (All-tail (IsChunk 2) (a ∷ b ∷ []) chunks pairs) i)
first_of_pair ((a ∷ b ∷ c ∷ s) ∷ chunks) pairs i = absurd (omega (arith, (All-head (IsChunk 2) (a ∷ b ∷ c ∷ s) chunks pairs).long))

pub bad_mode_in : (bytes : List ℕ) (a : Entries Access 2) → IsEntriesOf bytes a → (i : ℕ) → position bad a.chunks.now ≡ Some i → AccessesIn bytes (Err (BadMode i))
bad_mode_in bytes a entries i found =
    let first = position-Some bad a.chunks.now i [] found in
    let long : length bytes ≡ length a.chunks.now * 2 = sym (ap length entries.joined) ∙ length-pairs a.chunks.now entries.each in
    let at : (j : ℕ) → slice_index bytes (2 * j) ≡ slice_index (get_or a.chunks.now j []) 0 = λ j. rw (← entries.joined) (first_of_pair a.chunks.now entries.each j) in (
      omega arith,
      record {
        within = omega (arith, first.0);
        bad = rw (at i) (ltb-true _ _ first.1);
        before = λ j h. rw (at j) (ltb-false 1 _ (first.2 j h));
      },
    )
