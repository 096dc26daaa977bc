-- What is made of bytes is bytes.
use Rattle.std.proofs.Common.{ℕ, zero, suc, ◌<◌, All, List, [], ◌∷◌, ◌++◌, take, drop, arith}
use Rattle.std.specs.Int.{byte_at, byte_len, bytes_high_first, to_be_bytes}
use Rattle.std.specs.List.{flat_map}
use Rattle.std.proofs.lemmas.List.Elements.{All-head, All-tail}
use Rattle.std.proofs.lemmas.Nat.{mod_below}
use mir.Syntax.{Width}
use Rattle.hexlines.specs.Hex.{Bytes}

pub Bytes-nil : Bytes []
Bytes-nil k = omega arith

pub Bytes-cons : (b : ℕ) (bytes : List ℕ) → b < 256 → Bytes bytes → Bytes (b ∷ bytes)
Bytes-cons b bytes low small zero = low
Bytes-cons b bytes low small (suc k) = small k

pub Bytes-append : (front bytes : List ℕ) → Bytes front → Bytes bytes → Bytes (front ++ bytes)
Bytes-append [] bytes low small = small
Bytes-append (b ∷ front) bytes low small = Bytes-cons b (front ++ bytes) (low 0) (Bytes-append front bytes (λ k. low (suc k)) small)

pub Bytes-flat_map : {X : Type 0} (f : X → List ℕ) (xs : List X) → All (λ x. Bytes (f x)) xs → Bytes (flat_map f xs)
Bytes-flat_map f [] each = Bytes-nil
Bytes-flat_map f (x ∷ xs) each =
    Bytes-append (f x) (flat_map f xs) (All-head (λ y. Bytes (f y)) x xs each) (Bytes-flat_map f xs (All-tail (λ y. Bytes (f y)) x xs each))

below_256 : (k n : ℕ) → byte_at k n < 256
below_256 zero n = mod_below n 256 (omega arith)
below_256 (suc k) n = mod_below _ 256 (omega arith)

pub Bytes-high_first : (k n : ℕ) → Bytes (bytes_high_first k n)
Bytes-high_first zero n = Bytes-nil
Bytes-high_first (suc k) n = Bytes-cons (byte_at k n) (bytes_high_first k n) (below_256 k n) (Bytes-high_first k n)

pub Bytes-to_be_bytes : (w : Width) (n : ℕ) → Bytes (to_be_bytes w n)
Bytes-to_be_bytes w n = Bytes-high_first (byte_len w) n

pub Bytes-take : (n : ℕ) (bytes : List ℕ) → Bytes bytes → Bytes (take n bytes)
Bytes-take zero bytes small k = omega arith
Bytes-take (suc n) [] small k = omega arith
Bytes-take (suc n) (b ∷ bytes) small zero = small 0
Bytes-take (suc n) (b ∷ bytes) small (suc k) = Bytes-take n bytes (λ i. small (suc i)) k

pub Bytes-drop : (n : ℕ) (bytes : List ℕ) → Bytes bytes → Bytes (drop n bytes)
Bytes-drop zero bytes small = small
Bytes-drop (suc n) [] small = small
Bytes-drop (suc n) (b ∷ bytes) small = Bytes-drop n bytes (λ i. small (suc i))
