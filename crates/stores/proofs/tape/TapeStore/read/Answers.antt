use Rattle.std.proofs.Common.{◌≡◌, ◌∙◌, sym, ap, Some, take, drop, arith}
use Rattle.std.specs.Prelude.{slice_get}
use Rattle.std.proofs.lemmas.Grind.{common_steps}
use Rattle.std.proofs.lemmas.Option.{gets}
use Rattle.stores.proofs.Written.{slice_get-newest, length-tape_values}
use Rattle.stores.proofs.tape.TapeStore.read.Goals as goal

pub returns-in_err-first : goal.returns-in_err-first
returns-in_err-first g c = grind (arith, common_steps, gets, length-tape_values)

pub returns : goal.returns
returns g c =
    let t = c.args.self.now in
    let at : slice_get (take t.n t.row.now) c.args.item ≡ Some c.in_ok-first.first.now = grind (arith, gets) in
    slice_get-newest g.V.Value.unrowed (take t.n t.row.now) (take t.count (drop t.n t.row.now)) c.args.item c.newest.result c.unwrap_or-entry.result c.in_ok-first.first at (cc) c.unwrap_or-entry.ensures
    ∙ ap Some (sym c.from_row.ensures.value)
