-- The ends of `correct`.
use mathlib.Core.Path.{◌≡◌, refl, sym, ap, ◌∙◌, subst}
use mathlib.Core.Bool.{true, false, false≢true}
use mathlib.Core.List.{List, [], ◌∷◌}
use Prim.Native.Nat.{ℕ, ◌≤◌, ◌<◌}
use native.Mathlib.Decide.{dec_lt}
use native.Mathlib.Omega.{arith}
use lib.ListN.{length, get_or, get_or-eq_default}
use Rattle.field.specs.Field.{power, value}
use Rattle.remainder.specs.Remainder.{Remainder, all_zero}
use Rattle.field.proofs.Values.{bytes_of}
use Rattle.remainder.proofs.Zeros.{all_zero_at, all_zero_of}
use Rattle.remainder.proofs.Unique.{zero_remainder}
use Rattle.nearest.specs.Codeword.{Codeword, distance}
use Rattle.reed_solomon.specs.Rows.{Locator}
use Rattle.reed_solomon.specs.Decode.{Roots, Mended, Syndromes}
use Rattle.nearest.specs.Correction.{Corrected, within, nowhere}
use Rattle.nearest.proofs.Words.{distance_self}
use Rattle.reed_solomon.proofs.Decoding.{complete}

-- a codeword at the distance n
at_distance : (w c : List ℕ) (n : ℕ) → length w ≡ 204 → Codeword c → distance c w ≡ n → n ≤ 8
    → Corrected w c 0 (n ∷ [])
at_distance w c n lw k e h = subst (λ (m : ℕ). Corrected w c 0 (m ∷ [])) e (within c lw k (omega (arith, e)))

-- a word whose remainder is 0 is a codeword
pub ends_clean : (w rest : List ℕ) → length w ≡ 204 → ((p : ℕ) → get_or w p 0 < 256) → Remainder w rest
    → all_zero rest ≡ true → Corrected w w 0 (0 ∷ [])
ends_clean w rest lw bw r z =
    at_distance w w 0 lw (record { long = lw; bytes = bytes_of w bw; roots = zero_remainder w rest r z })
    (distance_self w) (omega arith)

-- the remainder of a word has its syndromes
pub same_syndromes : (w rest s copy : List ℕ) → Remainder w rest → Syndromes rest s → copy ≡ w → Syndromes copy s
same_syndromes w rest s copy r h e j k = h j k ∙ r.agree j k ∙ ap (λ (x : List ℕ). value x (power 2 j)) (sym e)

-- the mended word, whose syndromes are left, is a codeword, or there is none so near
abbrev pub Ends : List ℕ → List ℕ → List ℕ → ℕ → Type 0
Ends w c left count =
    (all_zero left ≡ true → ((p : ℕ) → get_or c p 0 < 256) → Corrected w c 0 (count ∷ []))
    × (all_zero left ≡ false → Corrected w w 255 [])

module _ (w rest s l at : List ℕ) (n : ℕ) (copy c left : List ℕ) (count : ℕ) (lw : length w ≡ 204)
    (bw : (p : ℕ) → get_or w p 0 < 256)
    (ll : length l ≡ 9) (re : Remainder w rest) (sr : Syndromes rest s) (loc : Locator s l) (rs : Roots l at n)
    (lc : length c ≡ 204) (len : length left ≡ 16) (same : copy ≡ w) (me : Mended s at n copy c count)
    (sc : Syndromes c left) where
  mended : Mended s at n w c count
  mended = subst (λ (x : List ℕ). Mended s at n x c count) same me

  ends_within : all_zero left ≡ true → ((p : ℕ) → get_or c p 0 < 256) → Corrected w c 0 (count ∷ [])
  ends_within z bc =
      at_distance w c count lw
      (record { long = lc; bytes = bytes_of c bc; roots = λ j h. sym (sc j h) ∙ all_zero_at left z j })
      mended.far (omega (arith, mended.few, rs.places.few))

  ends_nowhere : all_zero left ≡ false → Corrected w w 255 []
  ends_nowhere z = nowhere lw (λ k ck near.
      let found : k ≡ c = complete w s l at n lw ll bw (same_syndromes w rest s w re sr refl) loc rs k ck near c lc
      mended.errors in
      let zero_at : (j : ℕ) → get_or left j 0 ≡ 0 = λ j. elim (dec_lt j 16) [
        | yes h ↦ sc j h ∙ ap (λ (x : List ℕ). value x (power 2 j)) (sym found) ∙ ck.roots j h
        | no h ↦ get_or-eq_default left 0 (omega arith)
      ] in
      absurd (false≢true (sym z ∙ all_zero_of left zero_at)))

  pub ends : Ends w c left count
  ends = (ends_within, ends_nowhere)
