use Rattle.std.proofs.Common.{◌≡◌, ◌<◌, rules, tests}
use Rattle.std.proofs.lemmas.Iterator.{cases_from_all, YieldsList-from_slice}
use Rattle.hexadecimal.specs.Digits.{value_of}
use Rattle.hexadecimal.proofs.Bytes.{all_from_cases}
use Rattle.hexadecimal.proofs.digits_alone.Goals as goal

pub returns : goal.returns
returns c =
    let line = c.args.line.now in
    all_from_cases _ line
    (cases_from_all _ _ _ (λ x. value_of x < 16) (λ x. value_of x ≡ 16) c.all.ensures.ran
    (YieldsList-from_slice line cc) (λ x q k. search (rules, tests)) (λ x q k. search (rules, tests)))
