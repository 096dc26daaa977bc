-- The line that a writer of frames would write for a call is read as this call, and no other line is.
use Rattle.std.proofs.Common.{◌≡◌, ℕ, ◌≤◌, List, ◌∷◌, length, slice_index, drop, ℤ, Ok, Err, Result, sym, ap, ◌∙◌, subst, arith}
use Rattle.refusals.specs.declared.Refusal.{Refusal}
use Rattle.hexlines.specs.Hex.{Bytes, hex}
use Rattle.hexlines.proofs.Back.{not_refused as not-decoded}
use Rattle.hexlines.proofs.Spelling.{length-hex, same_from_hex}
use Rattle.calls.specs.Calls.{Call, begin, ask, settle, grant, finish, clear, abandon, ring, owing}
use Rattle.frames.specs.declared.frame.Frame.{Frame}
use Rattle.frames.specs.declared.kinds.FrameKind.{FrameKind}
use Rattle.frames.specs.declared.kinds.FrameKind.TheVariants.{Begin}
use Rattle.frames.specs.Kinds.{kind_number}
use Rattle.frames.specs.Table.{call_bytes, fields, kind_of, RightLength}
use Rattle.frames.specs.Borrowed.{FirstBadMode, frame_call}
use Rattle.frames.specs.Reading.{FrameOf, Unframed, unknown_kind, wrong_length, bad_mode}
use Rattle.frames.specs.Line.{LineBack, LineOf, LineOnly, LineSays, undecoded, unframed}
use Rattle.frames.proofs.Table.{bytes_of_call, modes_fit, right_length, same_call, same_kind}

first_byte : (c : Call ℤ) (kind : FrameKind) (rest : List ℕ) → call_bytes c ≡ kind_number kind ∷ rest → kind ≡ kind_of c
first_byte c kind rest e =
    let numbers : kind_number (kind_of c) ≡ kind_number kind = ap (λ s. slice_index s 0) e in
    same_kind kind (kind_of c) (sym numbers)

no_bad_mode : (c : Call ℤ) → kind_of c ≡ Begin → (i : ℕ) → FirstBadMode (drop 11 (call_bytes c)) i → ⊥
no_bad_mode (begin protocol site timestamp interval accesses) kind i first = omega (arith, first.bad, modes_fit accesses i)
no_bad_mode (ask number item) kind i first = cc
no_bad_mode (settle number) kind i first = cc
no_bad_mode (grant item) kind i first = cc
no_bad_mode (finish number values) kind i first = cc
no_bad_mode (clear number) kind i first = cc
no_bad_mode (abandon number) kind i first = cc
no_bad_mode ring kind i first = cc
no_bad_mode owing kind i first = cc

not_refused : (bytes : List ℕ) (e : Refusal) → Unframed bytes e → (c : Call ℤ) → bytes ≡ call_bytes c → ⊥
not_refused bytes e (unknown_kind none _) c same = none (kind_of c) (fields c) same
not_refused bytes e (wrong_length kind rest first wrong _) c same =
    let kinds = first_byte c kind rest (sym same ∙ first) in
    let right : RightLength kind (length bytes) = rw (same, kinds) (right_length c) in
    wrong right
not_refused bytes e (bad_mode i rest first right bad _) c same =
    no_bad_mode c (sym (first_byte c Begin rest (sym same ∙ first))) i (subst (λ s. FirstBadMode (drop 11 s) i) same bad)

pub line_of : (line bytes : List ℕ) → length line ≤ 140 → line ≡ hex bytes → Bytes bytes → (r : Result Frame Refusal) → FrameOf bytes r → LineOf line r
line_of line bytes short spelled small (Ok f) p = record { short = short; spelled = spelled ∙ ap hex p.0; fits = p.1 }
line_of line bytes short spelled small (Err e) p = unframed bytes short spelled small p

pub only : (line : List ℕ) (r : Result Frame Refusal) → LineOf line r → LineOnly line r
only line (Ok f) p = λ other says. says.spelled ∙ sym p.spelled
only line (Err e) p = tt

-- a call's bytes are bytes, so a line of it is decoded into these
same_bytes : (line bytes : List ℕ) (c : Call ℤ) → Bytes bytes → line ≡ hex bytes → LineSays line c → bytes ≡ call_bytes c
same_bytes line bytes c small spelled says = same_from_hex bytes (call_bytes c) small (bytes_of_call c says.fits) (sym spelled ∙ says.spelled)

pub back : (line : List ℕ) (r : Result Frame Refusal) → LineOf line r → LineBack line r
back line (Ok f) p = λ c says.
    same_call (frame_call f) c p.fits says.fits (same_bytes line (call_bytes (frame_call f)) c (bytes_of_call (frame_call f) p.fits) p.spelled says)
back line (Err e) (undecoded u) = λ c says.
    let half : length (call_bytes c) ≤ 70 = omega (arith, says.short, ap length says.spelled, length-hex (call_bytes c)) in
    not-decoded line e u (call_bytes c) (bytes_of_call c says.fits) half says.spelled
back line (Err e) (unframed bytes short spelled small u) = λ c says.
    not_refused bytes e u c (same_bytes line bytes c small spelled says)

-- what a line is read as, where its bytes were read
pub ruleset read = (line_of, only, back)
