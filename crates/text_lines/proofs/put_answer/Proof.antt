-- `text_lines::put_answer` meets its contract: the parts stand one behind the other.
use mathlib.Core.Path.{◌≡◌, ◌∙◌}
use Prim.Native.Nat.{◌+◌, ◌*◌, ◌≤◌}
use native.Mathlib.Omega.{arith}
use lib.ListN.{length, length-set}
use borrow.Author.Rules.{rules}
use Rattle.text_lines.proofs.Parts.{put_line}
use Rattle.text_lines.proofs.Answers.{answer_fits, answer_not}
use Rattle.text_lines.proofs.put_answer.Statement.{statement}
use Rattle.text_lines.proofs.put_answer.Tie as tie

written : tie.Need-returns
written c =
    let bytes-written = c.before in
    let number-written = bytes-written.before in
    let tested = number-written.before in
    let a = tested.args in
    let n = 2 * length a.bytes.now in
    let room : n + 3 ≤ length a.out.now = omega (arith, tested.if-out-lt3.false, tested.if-out-bytes.false) in
    let made = answer_fits a.number a.bytes.now a.out.now room in
    let sum : n + 2 + 1 ≡ n + 3 = omega arith in (
      sum ∙ made.0,
      put_line a.out.now _ _ a.bytes.now _ room number-written.write.ensures
          bytes-written.write_bytes.ensures ∙ made.1,
    )

pub put_answer_spec : {M : Type 1} → statement M
put_answer_spec =
    tie.close (tie.spec
    (λ c. let a = c.args in
    answer_not a.number a.bytes.now a.out.now (omega (arith, c.if-out-lt3.true)))
    (λ c. omega arith)
    (λ c. let a = c.args in
    answer_not a.number a.bytes.now a.out.now (omega (arith, c.if-out-bytes.true)))
    (λ c. search rules) (λ c. search rules) (λ c. search rules) (λ c. search rules) (λ c. search rules)
    (λ c κs. search rules) (λ c. search rules) (λ c. search rules) (λ c. search rules) (λ c κs. search rules)
    (λ c. search rules) (λ c. search rules)
    (λ c. simp length-set (c.out-2-1.given.1 ∙ c.out-1.given.1))
    written)
