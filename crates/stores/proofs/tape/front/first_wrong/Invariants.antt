use Rattle.stores.specs.Tapes.{Begins}
use Rattle.stores.proofs.tape.front.first_wrong.Given as goal

abbrev pub invariant-loop-k : goal.invariant-loop-k
invariant-loop-k g l = Begins l.k l.row
