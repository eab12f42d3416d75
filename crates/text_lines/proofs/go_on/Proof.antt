-- `text_lines::go_on` meets its contract.
use mathlib.Core.Path.{ap, ◌∙◌}
use Prim.Native.Nat.{ℕ, min}
use native.Mathlib.Omega.{arith}
use borrow.Author.Rules.{rules}
use Rattle.text_lines.specs.Reading.{end_in, at_in}
use Rattle.text_lines.proofs.Cuts.{used_part, least_min}
use Rattle.text_lines.proofs.Steps.{stepped}
use Rattle.text_lines.proofs.go_on.Statement.{statement}
use Rattle.text_lines.proofs.go_on.Tie as tie

add_at : tie.Need-overflow_add-result
add_at c =
    let most =
    used_part c.args.text.now _ _ _ c.least-at.ensures.1 c.least-end.ensures.1
    c.gather-cut.ensures.used_is in
    omega (arith, most)

returns : tie.Need-returns
returns c =
    unfold at_in end_in in
    let a = c.args in
    let end = least_min _ _ _ c.least-end.ensures in
    let at = least_min _ _ _ c.least-at.ensures ∙ ap (λ (n : ℕ). min a.reading.at n) end in
    stepped a.reading a.text.now a.line.now _ _ at end c.least-at.ensures.1
    c.least-end.ensures.1 _ _ _ _ c.gather-cut.ensures c.has_ended-ended.ensures
    c.held_on.ensures

pub go_on_spec : {M : Type 1} → statement M
go_on_spec =
    tie.close (tie.spec (λ c κs. search rules) (λ c κs. search rules) (λ c. search rules) (λ c. search rules)
    (λ c. search rules) (λ c κs. search rules) (λ c κs. search rules) add_at (λ c κs. search rules)
    (λ c. search rules) returns)
