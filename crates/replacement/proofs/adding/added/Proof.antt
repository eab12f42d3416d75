-- `replacement::adding::added` meets its contract.
use mathlib.Core.Path.{◌≡◌, sym, ◌∙◌}
use lib.ListN.{length}
use borrow.Author.Rules.{rules}
use Rattle.replacement.proofs.States.{state_put}
use Rattle.replacement.proofs.adding.added.Statement.{statement}
use Rattle.replacement.proofs.adding.added.Tie as tie

lines_fit : tie.Need-add-requires-2
lines_fit c κs =
    let one : length c.lines-delayed.result ≡ 360 = search rules in
    let two : length c.args.state.lines ≡ 360 = search rules in
    one ∙ sym two

returns : tie.Need-returns
returns c =
    state_put c.args.state c.args.run _ _ _ _ _ _ (search rules) (search rules) c.add.ensures
    c.lines-delayed.ensures c.add-2.ensures c.turned_register.ensures

pub added_spec : {M : Type 1} → statement M
added_spec =
    tie.close (tie.spec (λ c. search rules) (λ c. search rules)
    (λ c κs. let one : length c.args.waiting ≡ 1122 = search rules in
    let two : length c.args.state.memory ≡ 1122 = search rules in
    one ∙ sym two)
    (λ c κs. search rules) (λ c. search rules) (λ c. search rules) lines_fit
    (λ c κs. search rules) returns)
