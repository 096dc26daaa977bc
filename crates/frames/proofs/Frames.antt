-- Why the bytes behind a kind make no frame.
use Rattle.std.proofs.Common.{◌≡◌, ℕ, suc, ◌+◌, ◌*◌, ◌/◌, List, ◌∷◌, length, drop, Err, refl, ap, subst, arith}
use Rattle.refusals.specs.declared.Refusal.{Refusal}
use Rattle.refusals.specs.declared.Reason.TheVariants.{BadMode, WrongLength}
use Rattle.refusals.specs.Numbers.{refusal_at}
use Rattle.frames.specs.declared.kinds.FrameKind.{FrameKind}
use Rattle.frames.specs.declared.kinds.FrameKind.TheVariants.{Begin}
use Rattle.frames.specs.declared.malformed.Malformed.{Malformed}
use Rattle.frames.specs.declared.malformed.Malformed.TheVariants.{Length, BadMode}
use Rattle.frames.specs.Kinds.{kind_number}
use Rattle.frames.specs.Table.{RightLength}
use Rattle.frames.specs.Borrowed.{AccessesIn}
use Rattle.frames.specs.Reading.{bad_mode, FieldsOf, Unframed, wrong_length}

-- the accesses of a begin frame stand behind ten bytes
pub no_accesses : (kind : FrameKind) → kind ≡ Begin → (bytes rest : List ℕ) → length bytes ≡ 10 + length rest → drop 10 bytes ≡ rest → (e : Malformed) → AccessesIn rest (Err e) → FieldsOf kind bytes (Err e)
no_accesses kind is bytes rest long behind Length wrong = rw is (λ right. wrong (omega (arith, right.1)))
no_accesses kind is bytes rest long behind (BadMode i) first = rw is (refl, (length rest / 2, omega (arith, first.0)), rw behind first.1)

-- the number of a kind and what is behind it
module _ (kind : FrameKind) (bytes rest : List ℕ) (number : ℕ) (cut : bytes ≡ number ∷ rest) (known : kind_number kind ≡ number) (refusal : Refusal) where
  begun : bytes ≡ kind_number kind ∷ rest
  begun = cc

  long : length bytes ≡ suc (length rest)
  long = ap length begun

  pub no_length : FieldsOf kind rest (Err Length) → refusal ≡ refusal_at WrongLength (length bytes) → Unframed bytes refusal
  no_length wrong is = wrong_length kind rest begun (λ right. wrong (subst (RightLength kind) long right)) is

  pub no_mode : (i : ℕ) → FieldsOf kind rest (Err (BadMode i)) → refusal ≡ refusal_at BadMode (11 + 2 * i) → Unframed bytes refusal
  no_mode i first is =
      let begins : bytes ≡ 1 ∷ rest = rw first.0 at begun in
      bad_mode i rest begins (rw long first.1) (rw begun first.2) is
