use Rattle.std.proofs.Common.{rules, ◌≡◌, ◌+◌, length, drop, Err, sym, refl, arith}
use Rattle.frames.proofs.Frames.{no_accesses}
use Rattle.frames.proofs.reading.frame_fields.Goals as goal

pub returns-in_err-accesses-in-Begin : goal.returns-in_err-accesses-in-Begin
returns-in_err-accesses-in-Begin c =
    let bytes = sym c.new-fields.ensures in
    let a = c.in_ok-take-in-Begin.ensures in
    let b = c.in_ok-take-in-Begin-2.ensures in
    let d = c.in_ok-take-in-Begin-3.ensures in
    let e = c.in_ok-take-in-Begin-4.ensures in
    let long : length c.args.bytes.now ≡ 10 + length c.take-in-Begin-3.new.self = rw (bytes, a, b, d, e) (omega arith) in
    let behind : drop 10 c.args.bytes.now ≡ c.take-in-Begin-3.new.self = rw (bytes, a, b, d, e) refl in
    let same : c.from_residual-in_err-accesses-in-Begin.result ≡ Err c.in_err-accesses-in-Begin.field-0.0 = search rules in
    rw same (no_accesses c.args.kind c.in-Begin.is c.args.bytes.now c.take-in-Begin-3.new.self long behind c.in_err-accesses-in-Begin.field-0.0 c.in_err-accesses-in-Begin.ensures.value)
