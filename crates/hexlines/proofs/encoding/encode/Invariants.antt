use Rattle.std.proofs.Common.{◌≡◌, ◌*◌, length, take}
use Rattle.lists.specs.FixedList.{held}
use Rattle.hexlines.specs.Hex.{hex}
use Rattle.hexlines.proofs.encoding.encode.Given as goal

abbrev pub invariant-loop-byte : goal.invariant-loop-byte
invariant-loop-byte l = record {
  value : held l.line ≡ hex (take l.byte-index (held l.bytes));
  long : length (held l.line) ≡ 2 * l.byte-index;
}
