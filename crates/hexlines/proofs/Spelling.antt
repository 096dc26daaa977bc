-- Laws of hexadecimal: how long a line is, that its characters are digits, and that it spells no other bytes.
use Rattle.std.proofs.Common.{◌≡◌, ℕ, suc, ◌-◌, ◌≤◌, rules, ◌*◌, ◌/◌, ◌%◌, ◌<◌, List, [], ◌∷◌, length, refl, ap, arith, All}
use Rattle.std.proofs.lemmas.List.Elements.{All-cons, All-head, All-nil, All-tail}
use Rattle.std.proofs.lemmas.Bool.Decides.{nat_tests}
use Rattle.hexlines.specs.Hex.{digit, hex, Digit, Bytes}
use Rattle.hexlines.proofs.Bytes.{Bytes-cons, Bytes-nil}

pub same_from_digit : (m n : ℕ) → m < 16 → n < 16 → digit m ≡ digit n → m ≡ n
same_from_digit m n h k e = grind (arith, nat_tests)

pub length-hex : (bytes : List ℕ) → length (hex bytes) ≡ 2 * length bytes
length-hex [] = refl
length-hex (b ∷ bytes) = omega (arith, length-hex bytes)

pub digits_from_hex : (bytes : List ℕ) → Bytes bytes → All Digit (hex bytes)
digits_from_hex [] small = All-nil Digit
digits_from_hex (b ∷ bytes) small =
    let byte : b < 256 = small 0 in
    let rest = digits_from_hex bytes (λ k. small (suc k)) in
    All-cons Digit (digit (b / 16)) (digit (b % 16) ∷ hex bytes) (b / 16, omega arith, refl) (All-cons Digit (digit (b % 16)) (hex bytes) (b % 16, omega arith, refl) rest)

same_byte : (b c : ℕ) → b < 256 → c < 256 → digit (b / 16) ≡ digit (c / 16) → digit (b % 16) ≡ digit (c % 16) → b ≡ c
same_byte b c h k high low =
    let e = same_from_digit (b / 16) (c / 16) (omega arith) (omega arith) high in
    let f = same_from_digit (b % 16) (c % 16) (omega arith) (omega arith) low in
    omega arith

pub same_from_hex : (bs cs : List ℕ) → Bytes bs → Bytes cs → hex bs ≡ hex cs → bs ≡ cs
same_from_hex [] [] s t e = refl
same_from_hex [] (c ∷ cs) s t e = absurd (omega (arith, ap length e))
same_from_hex (b ∷ bs) [] s t e = absurd (omega (arith, ap length e))
same_from_hex (b ∷ bs) (c ∷ cs) s t e =
    let high : digit (b / 16) ≡ digit (c / 16) = cc in
    let low : digit (b % 16) ≡ digit (c % 16) = cc in
    let rest : hex bs ≡ hex cs = cc in
    let first = same_byte b c (s 0) (t 0) high low in
    let others = same_from_hex bs cs (λ k. s (suc k)) (λ k. t (suc k)) rest in
    cc

pub decimal_digit : (c : ℕ) → 48 ≤ c → c ≤ 57 → Digit c
decimal_digit c low high = (c - 48, search rules, search rules)

pub letter_digit : (c : ℕ) → 97 ≤ c → c ≤ 102 → Digit c
letter_digit c low high = (c - 87, search rules, search rules)

-- 0 to 9 and a to f are digits
pub ruleset digit_ranges = (decimal_digit, letter_digit)

-- each below 256, in std's word for all
pub bytes_from_all : (bytes : List ℕ) → All (λ b. b < 256) bytes → Bytes bytes
bytes_from_all [] small = Bytes-nil
bytes_from_all (b ∷ bytes) small = Bytes-cons b bytes (All-head (λ x. x < 256) b bytes small) (bytes_from_all bytes (All-tail (λ x. x < 256) b bytes small))
