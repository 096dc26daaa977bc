use Rattle.std.proofs.Common.{◌≡◌, ◌+◌, ◌*◌, ◌∷◌, length, take}
use Rattle.std.specs.Int.{w16, to_be_bytes}
use Rattle.std.specs.List.{flat_map}
use Rattle.lists.specs.FixedList.{held}
use Rattle.answer_lines.specs.Kinds.{kind_number}
use Rattle.answer_lines.proofs.writing.listed.Given as goal

abbrev pub invariant-loop-number : goal.invariant-loop-number
invariant-loop-number l = record {
  written : held l.bytes ≡ kind_number l.fn.kind ∷ length l.numbers ∷ flat_map (to_be_bytes w16) (take l.number-index l.numbers);
  long : length (held l.bytes) ≡ 2 + 2 * l.number-index;
}
