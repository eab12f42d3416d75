-- What the three outcomes of the correction give.
use mathlib.Core.Path.{◌≡◌, sym, ap, ◌∙◌, subst}
use mathlib.Core.Logic.{◌≢◌}
use mathlib.Core.List.{List, [], ◌∷◌, ◌++◌}
use Prim.Native.Nat.{ℕ, ◌-◌, ◌≤◌, ◌<◌}
use native.Mathlib.Decide.{ℕ_discrete}
use native.Mathlib.Omega.{arith}
use lib.ListN.{length, get_or, set, take, replicate, drop_of_length-le}
use Rattle.std.proofs.Common.{append-nil}
use borrow.Rule.Slice.PartMut.{put_mid}
use borrow.Author.Tests.{eq-eqb, ne_eqb}
use Rattle.nearest.specs.Codeword.{distance}
use Rattle.nearest.specs.Correction.{nearest_number, nearest_values, Corrected}
use Rattle.std.specs.Prelude.{Result, Ok, Err}
use Rattle.nearest.specs.declared.Uncorrected.{Uncorrected}
use Rattle.nearest.specs.declared.Uncorrected.TheVariants.{TooFar, WrongLength}
use Rattle.nearest.proofs.Unique.{outcome}
use Rattle.nearest.specs.Slot.{restored, Slot, corrected, other_start, none}
use Rattle.slot.specs.Steps.{first_byte}

-- the area with its first byte and what was put behind it
pub behind : (slot bytes : List ℕ) (first : ℕ) → 0 < length slot
    → put_mid 1 (length (set slot 0 first) - 1) (set slot 0 first) bytes ≡ first ∷ bytes
behind [] bytes first h = absurd (omega arith)
behind (x ∷ rest) bytes first h =
    ap (λ (t : List ℕ). first ∷ (bytes ++ t)) (drop_of_length-le rest (omega arith))
    ∙ ap (λ (t : List ℕ). first ∷ t) (append-nil bytes)

-- ---- the outcomes of the correction

module _ (w w' : List ℕ) (lw : length w ≡ 203) (first : ℕ) (s : List ℕ) where
  start_right : (n : ℕ) → get_or w' 0 0 ≡ 0x47 → first_byte (Ok n) (get_or w' 0 0) ≡ n
  start_right n e = rw (eq-eqb (get_or w' 0 0) 0x47 e)

  start_wrong : (n : ℕ) → get_or w' 0 0 ≢ 0x47 → first_byte (Ok n) (get_or w' 0 0) ≡ 254
  start_wrong n e = rw (ne_eqb (get_or w' 0 0) 0x47 e)

  -- a first byte of at most 8 comes from a codeword that begins with 47
  pub gives_word : (r : Result ℕ Uncorrected) → Corrected (restored w) w' (nearest_number r) (nearest_values r)
      → first ≡ first_byte r (get_or w' 0 0) → first ≤ 8
      → s ≡ first ∷ take 188 w' → Slot w s
  gives_word (Ok n) h e few t =
      let o = outcome (restored w) w' (Ok n) h in
      elim (ℕ_discrete (get_or w' 0 0) 0x47) [
        | yes z ↦
            let same : first ≡ distance w' (restored w) = e ∙ start_right n z ∙ sym o.2 in
            subst (Slot w) (sym (t ∙ ap (λ (k : ℕ). k ∷ take 188 w') same))
            (corrected w' o.1 (omega (arith, o.2, o.3)) z)
        | no z ↦ absurd (omega (arith, start_wrong n z))
      ]
  gives_word (Err TooFar) h e few t = absurd (omega arith)
  gives_word (Err WrongLength) h e few t = absurd (omega arith)

  -- a larger one comes from another codeword, or from none
  pub gives_zeros : (r : Result ℕ Uncorrected) → Corrected (restored w) w' (nearest_number r) (nearest_values r)
      → first ≡ first_byte r (get_or w' 0 0) → 8 < first
      → s ≡ first ∷ replicate 188 0 → Slot w s
  gives_zeros (Ok n) h e many t =
      let o = outcome (restored w) w' (Ok n) h in
      elim (ℕ_discrete (get_or w' 0 0) 0x47) [
        | yes z ↦ absurd (omega (arith, start_right n z, o.3))
        | no z ↦ subst (Slot w) (sym (t ∙ ap (λ (k : ℕ). k ∷ replicate 188 0) (e ∙ start_wrong n z)))
            (other_start w' o.1 (omega (arith, o.2, o.3)) z)
      ]
  gives_zeros (Err TooFar) h e many t =
      subst (Slot w) (sym (t ∙ ap (λ (k : ℕ). k ∷ replicate 188 0) e)) (none (outcome (restored w) w' (Err TooFar) h).2)
  gives_zeros (Err WrongLength) h e many t = absurd ((outcome (restored w) w' (Err WrongLength) h).1 (omega arith))
