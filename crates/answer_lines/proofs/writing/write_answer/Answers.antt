use Rattle.std.proofs.Common.{◌≡◌, length, sym, ap, ◌∙◌, arith}
use Rattle.lists.specs.FixedList.{held}
use Rattle.hexlines.specs.Hex.{hex}
use Rattle.hexlines.proofs.Spelling.{digits_from_hex, length-hex, same_from_hex}
use Rattle.calls.specs.Answers.{says}
use Rattle.answer_lines.specs.AnswerTable.{answer_bytes}
use Rattle.answer_lines.proofs.AnswerTable.{bytes_of_answer, same_answer}
use Rattle.answer_lines.proofs.writing.write_answer.Goals as goal

pub returns : goal.returns
returns c =
    let answer = says c.args.reply.now in
    let spelt = c.answer_bytes.ensures in
    let spelled : held c.encode.result ≡ hex (answer_bytes answer) = c.encode.ensures ∙ ap hex spelt.value in
    let small = bytes_of_answer answer spelt.fits in
    record {
      spelled = spelled;
      lowercase = rw spelled (digits_from_hex (answer_bytes answer) small);
      even = omega (arith, ap length spelled, length-hex (answer_bytes answer));
      back = λ place other fits same.
          let bytes = same_from_hex (answer_bytes other) (answer_bytes answer) (bytes_of_answer other (λ _. fits)) small (sym same ∙ spelled) in
          same_answer other answer fits (spelt.fits place) bytes;
    }
