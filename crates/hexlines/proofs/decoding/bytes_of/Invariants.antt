use Rattle.std.proofs.Common.{◌≡◌, flat_map, length, take}
use Rattle.lists.specs.FixedList.{held}
use Rattle.hexlines.specs.Hex.{hex, Bytes}
use Rattle.hexlines.proofs.decoding.bytes_of.Given as goal

abbrev pub invariant-loop-pair : goal.invariant-loop-pair
invariant-loop-pair l = record {
  value : hex (held l.bytes) ≡ flat_map (λ pair. pair) (take l.pair-index l.pairs);
  long : length (held l.bytes) ≡ l.pair-index;
  bytes : Bytes (held l.bytes);
}
