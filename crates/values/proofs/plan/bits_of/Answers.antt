use lib.Ieee.Bits.{of_bits-to_bits}
use Rattle.std.proofs.Common.{rules}
use Rattle.values.proofs.plan.bits_of.Goals as goal

pub returns-clause-back : goal.returns-clause-back
returns-clause-back c = search (rules, of_bits-to_bits)
