-- `text_lines::is_small` meets its contract: a frame has 19,584 carriers for each N × 2^(mode−1).
use mathlib.Core.Path.{sym, ap, ◌∙◌}
use Prim.Native.Nat.{ℕ}
use lib.Dec.{leb}
use borrow.Author.Rules.{rules}
use Rattle.text_lines.proofs.Small.{small_refused, small_is}
use Rattle.text_lines.proofs.is_small.Statement.{statement}
use Rattle.text_lines.proofs.is_small.Tie as tie

pub is_small_spec : {M : Type 1} → statement M
is_small_spec =
    tie.close (tie.spec (λ c κs. search rules)
    (λ c. small_refused _ (sym c.carriers-carriers.ensures ∙ c.if-carriers-eq0.true))
    (λ c. let is = c.carriers-carriers.ensures in
    ap (λ (n : ℕ). leb n 39168) is ∙ small_is _ (λ e. c.if-carriers-eq0.false (is ∙ e))))
