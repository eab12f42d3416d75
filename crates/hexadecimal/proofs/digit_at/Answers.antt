use Rattle.std.proofs.Common.{◌≡◌, ◌/◌, ◌%◌, ℕ, get_or, arith, ap, ◌∙◌}
use Rattle.std.proofs.lemmas.Grind.{common_steps}
use Rattle.hexadecimal.specs.Digits.{digit_of}
use Rattle.hexadecimal.proofs.Bytes.{digit_high, digit_low}
use Rattle.hexadecimal.proofs.digit_at.Goals as goal
use Rattle.hexadecimal.proofs.digit_at.Goals.{then-i-eq0, else-i-eq0}

pub returns : goal.returns
returns c =
    let byte : c.from-byte.result ≡ get_or c.args.bytes.now (c.args.i / 2) 0 = grind (arith, common_steps) in
    elim c.if-i-eq0.branch [
      | then-i-eq0 w ↦
          c.digit.ensures ∙ ap (λ (n : ℕ). digit_of (n % 16)) (w.digit-is ∙ ap (λ (n : ℕ). n / 16) byte)
          ∙ digit_high _ c.args.i w.if-i-eq0.true
      | else-i-eq0 w ↦
          c.digit.ensures ∙ ap (λ (n : ℕ). digit_of (n % 16)) (w.digit-is ∙ byte)
          ∙ digit_low _ c.args.i w.if-i-eq0.false
    ]
