use Rattle.std.proofs.Common.{ℕ, ◌<◌, All, List, MatchOption, None, Option, Some, arith, length, rules, tests}
use Rattle.std.proofs.lemmas.Iterator.{IsFirst-from_position, YieldsList-from_slice}
use Rattle.std.proofs.lemmas.List.{get_or-take, length-take}
use Rattle.std.proofs.lemmas.List.Elements.{All-from_all_within}
use Rattle.std.specs.List.{AllWithin, HoldsAt}
use Rattle.hexlines.specs.Decoding.{FirstOther}
use Rattle.hexlines.specs.Hex.{Digit}
use Rattle.hexlines.proofs.decoding.first_other.Goals as goal

first : (line : List ℕ) (r : Option ℕ) → MatchOption r (AllWithin Digit line 0 (length line)) (λ i. (i < length line) × HoldsAt (λ c. ¬ Digit c) line i × AllWithin Digit line 0 i) → MatchOption r (All Digit line) (FirstOther line)
first line None f = All-from_all_within Digit line f
first line (Some i) f = record {
  within = f.0;
  before = λ k d h. let below : k < i = omega (arith, length-take i line) in rw get_or-take (f.2 k d (omega arith) (omega arith));
  other = f.1 0;
}

pub returns : goal.returns
returns c =
    first c.args.line.now c.position.result
    (IsFirst-from_position _ _ c.position.result (λ x. ¬ Digit x) Digit c.position.ensures.ran (YieldsList-from_slice c.args.line.now cc) (λ x q k. search (rules, tests)) (λ x q k. search (rules, tests)))
