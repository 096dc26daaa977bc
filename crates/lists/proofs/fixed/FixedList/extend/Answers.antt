use Rattle.std.proofs.Common.{◌≡◌, ◌+◌, ◌-◌, length, take, ap, ◌∙◌, arith}
use Rattle.std.proofs.lemmas.List.{length-take, length-take-le, take_min}
use Rattle.std.proofs.lemmas.Slice.{take-put_mid}
use Rattle.std.proofs.Math.Seq.{take-append-add}
use Rattle.lists.proofs.fixed.FixedList.extend.Goals as goal

pub returns-clause-after : goal.returns-clause-after
returns-clause-after g c =
    let list = c.args.self.now in
    let len = list.len in
    let taken = c.min-taken.result in
    let items = c.args.items.now in
    let written = c.copy_from_slice.new.self in
    let copied : written ≡ take taken items = c.copy_from_slice.ensures.after in
    let long : length written ≡ taken = omega (arith, ap length copied, length-take taken items, c.min-taken.ensures) in
    let front = take-put_mid len (len + taken - len) list.places written (len + taken) (omega arith) (omega arith) in
    let same : written ≡ take (g.row.N - len) items = copied ∙ ap (λ n. take n items) c.min-taken.ensures ∙ take_min (g.row.N - len) items in
    let whole = take-append-add (take len list.places) items (g.row.N - len) in
    let count : length (take len list.places) + (g.row.N - len) ≡ g.row.N = omega (arith, length-take-le len list.places (omega arith)) in
    cc
