-- `replacement::adding::difference_word` meets its contract.
use mathlib.Core.Path.{◌≡◌, ap, ap₂, ◌∙◌}
use Prim.Native.Nat.{ℕ}
use lib.ListN.{length}
use borrow.Author.Rules.{rules}
use Rattle.codeword.proofs.Sent.{sent_is}
use Rattle.coding_answers.specs.Replacement.{added_to, difference_word}
use Rattle.replacement.proofs.adding.difference_word.Statement.{statement}
use Rattle.replacement.proofs.adding.difference_word.Tie as tie

pub difference_word_spec : {M : Type 1} → statement M
difference_word_spec =
    tie.close (tie.spec (λ c κs. search rules) (λ c. search rules) (λ c κs. search rules) (λ c κs. search rules)
    (λ c. search rules) (λ c κs. search rules) (λ c. search rules) (λ c. search rules) (λ c κs. search rules)
    (λ c. unfold difference_word in
    let word = c.sent_word-word.result in
    let long : length word ≡ 204 = search rules in
    c.add.ensures ∙ ap (λ (n : ℕ). added_to n word c.sent_word-other.result) long
    ∙ ap₂ (added_to 204)
    (c.sent_word-word.ensures ∙ sent_is _ _ c.requires.0 c.parity-parity.ensures)
    (c.sent_word-other.ensures ∙ sent_is _ _ c.requires.1 c.parity-other_parity.ensures)))
