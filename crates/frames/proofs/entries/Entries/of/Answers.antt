use Rattle.std.proofs.Common.{rules, ◌≡◌, ◌*◌, ◌/◌, ◌≤◌, length, ◌∙◌, arith}
use Rattle.std.proofs.lemmas.Nat.{div-add-mod'}
use Rattle.std.proofs.lemmas.List.{take_all}
use Rattle.hexlines.proofs.Chunks.{flat_map-first_chunks}
use Rattle.frames.proofs.Chunks.{chunks-are}
use Rattle.frames.proofs.entries.Entries.of.Goals as goal

pub returns : goal.returns
returns g c =
    let bytes = c.args.bytes.now in
    let count = length bytes / g.row.N in
    let empty : length c.as_chunks.result.1.now ≡ 0 = search rules in
    let whole : length bytes ≡ count * g.row.N = omega (arith, div-add-mod' (length bytes) g.row.N, c.as_chunks.ensures.back_len) in
    let within : count * g.row.N ≤ length bytes = omega arith in
    rw c.as_chunks.ensures.front (record {
      each = chunks-are g.row.N count bytes (λ k. (c.type_inv.bytes k).fits) within;
      joined = flat_map-first_chunks g.row.N count bytes ∙ take_all (count * g.row.N) bytes (omega arith);
    })
