-- A line that spells bytes is not refused, and is decoded into these bytes.
use Rattle.std.proofs.Common.{◌≡◌, ℕ, ◌≤◌, List, length, Ok, Err, Result, sym, ap, ◌∙◌, arith, All}
use Rattle.std.proofs.lemmas.List.Elements.{All-get_or}
use Rattle.refusals.specs.declared.Refusal.{Refusal}
use Rattle.lists.specs.declared.fixed.FixedList.{FixedList}
use Rattle.lists.specs.FixedList.{held}
use Rattle.hexlines.specs.Hex.{hex, Digit, Bytes}
use Rattle.hexlines.specs.Decoding.{Back, DecodeOf, Undecoded, too_long, not_digit, odd}
use Rattle.hexlines.proofs.Spelling.{digits_from_hex, length-hex, same_from_hex}

pub not_refused : (line : List ℕ) (e : Refusal) → Undecoded line e → (bytes : List ℕ) → Bytes bytes → length bytes ≤ 70 → line ≡ hex bytes → ⊥
not_refused line e (too_long long _) bytes small short same = omega (arith, ap length same, length-hex bytes)
not_refused line e (not_digit i _ first _) bytes small short same =
    let digits : All Digit line = rw same (digits_from_hex bytes small) in
    first.other (All-get_or Digit line i 0 first.within digits)
not_refused line e (odd _ _ uneven _) bytes small short same = omega (arith, ap length same, length-hex bytes)

pub back : (line : List ℕ) (r : Result (FixedList ℕ 70) Refusal) → DecodeOf line r → Back line r
back line (Ok d) p = λ bytes small same. same_from_hex (held d) bytes p.2 small (sym p.1 ∙ same)
back line (Err e) p = not_refused line e p
