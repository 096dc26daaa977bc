-- A list cut into chunks: joined they are its front, and what holds of its elements holds of theirs.
use Rattle.std.proofs.Common.{◌≡◌, ℕ, zero, suc, ◌*◌, ◌/◌, List, [], ◌∷◌, map, length, take, drop, flat_map, refl, ap, ◌+◌, All, arith, length-append}
use Rattle.std.proofs.Math.Nat.{suc-mul}
use Rattle.std.proofs.Math.Seq.{take-add}
use Rattle.std.proofs.lemmas.List.{drop_at, take_all, take_at}
use Rattle.std.proofs.lemmas.List.Elements.{All-cons, All-drop, All-head, All-nil, All-tail, All-take}
use Rattle.std.specs.Simd.{first_chunks}

pub flat_map-first_chunks : {X : Type 0} (n k : ℕ) (xs : List X) → flat_map (λ chunk. chunk) (first_chunks n k xs) ≡ take (k * n) xs
flat_map-first_chunks n zero xs = let none : 0 * n ≡ 0 = omega arith in rw none refl
flat_map-first_chunks n (suc k) xs =
    let rest = flat_map-first_chunks n k (drop n xs) in
    let count : suc k * n ≡ n + k * n = omega (arith, suc-mul k n) in
    let cut = take-add n (k * n) xs in
    cc

pub All-first_chunks : {X : Type 0} (P : X → Type 0) (n k : ℕ) (xs : List X) → All P xs → All (All P) (first_chunks n k xs)
All-first_chunks P n zero xs all = All-nil (All P)
All-first_chunks P n (suc k) xs all =
    All-cons (All P) (take n xs) (first_chunks n k (drop n xs)) (All-take P n xs all) (All-first_chunks P n k (drop n xs) (All-drop P n xs all))

-- chunks that leave nothing over, joined, are the list
pub ruleset joined_chunks = (flat_map-first_chunks, take_all)

-- a list whose entries have n bytes each, by the value that each n bytes spell
unfoldable pub list_in : {T : Type 0} → ℕ → (List ℕ → T) → List ℕ → List T
list_in n value_of bytes = map value_of (first_chunks n (length bytes / n) bytes)

module _ {T : Type 0} (n : ℕ) (bytes_of : T → List ℕ) (long : (x : T) → length (bytes_of x) ≡ n) where
  pub length-entries : (xs : List T) → length (flat_map bytes_of xs) ≡ length xs * n
  length-entries [] = omega arith
  length-entries (x ∷ xs) = simp length-append (omega (arith, long x, length-entries xs))

  chunks_back : (xs : List T) → first_chunks n (length xs) (flat_map bytes_of xs) ≡ map bytes_of xs
  chunks_back [] = refl
  chunks_back (x ∷ xs) =
      let first = take_at (bytes_of x) (flat_map bytes_of xs) n (long x) in
      let behind = drop_at (bytes_of x) (flat_map bytes_of xs) n (long x) in
      rw (first, behind) (ap (λ s. bytes_of x ∷ s) (chunks_back xs))

  each_back : (value_of : List ℕ → T) (xs : List T) → All (λ x. value_of (bytes_of x) ≡ x) xs → map value_of (map bytes_of xs) ≡ xs
  each_back value_of [] back = refl
  each_back value_of (x ∷ xs) back =
      let first : value_of (bytes_of x) ≡ x = All-head (λ y. value_of (bytes_of y) ≡ y) x xs back in
      let rest = each_back value_of xs (All-tail (λ y. value_of (bytes_of y) ≡ y) x xs back) in
      cc

  -- entries come back from their bytes where each does
  pub list_back : (value_of : List ℕ → T) (xs : List T) → length (flat_map bytes_of xs) / n ≡ length xs → All (λ x. value_of (bytes_of x) ≡ x) xs → list_in n value_of (flat_map bytes_of xs) ≡ xs
  unfolding list_in
  list_back value_of xs count back = rw (count, chunks_back xs) (each_back value_of xs back)
