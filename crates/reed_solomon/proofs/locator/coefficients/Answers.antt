-- The part of the row from 8 on.
use Rattle.std.proofs.Common.{List, ℕ, get_or, ap, drop, ◌∙◌}
use Rattle.std.proofs.lemmas.List.{get_or-take, get_or-drop}
use Rattle.reed_solomon.proofs.locator.coefficients.Goals as goal

pub returns : goal.returns
returns c = λ k h.
    let row = c.args.row.now in
    ap (λ (l : List ℕ). get_or l k 0) c.copy_from_slice.ensures.after ∙ get_or-take 9 (drop 8 row) k 0 h
    ∙ get_or-drop 8 row k 0
