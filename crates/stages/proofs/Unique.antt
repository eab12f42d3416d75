-- Any two results that `stages_correct` allows are equal: the word, and the two numbers that it tells. Those of
-- `stages_parity` and `stages_slot` are `parity_unique` of `codeword` and `given_unique` of `nearest`.
use mathlib.Core.Path.{◌≡◌, sym, ap, ◌∙◌}
use mathlib.Core.List.{List}
use Prim.Native.Nat.{ℕ}
use Rattle.nearest.specs.Correction.{told_of, refusal_of}
use Rattle.nearest.proofs.Unique.{corrected_unique, nearest_equal}
use Rattle.stages.specs.Stages.{CorrectionTold}

pub stages_correct_unique : (word x y : List ℕ) (m n r s : ℕ) → CorrectionTold word x m r → CorrectionTold word y n s
    → (x ≡ y) × (m ≡ n) × (r ≡ s)
stages_correct_unique word x y m n r s a b =
    let same = corrected_unique word x y _ _ _ _ a.right b.right in
    let found = nearest_equal a.found b.found same.1 same.2 in
    (same.0, a.told ∙ ap told_of found ∙ sym b.told, a.number ∙ ap refusal_of found ∙ sym b.number)
