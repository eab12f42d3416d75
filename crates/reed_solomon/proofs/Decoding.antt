-- The decoder is complete: a codeword within distance 8 of the word is what the word is mended to.
use mathlib.Core.Path.{◌≡◌, refl, sym, ap, ◌∙◌, subst}
use mathlib.Core.Logic.{◌≢◌}
use mathlib.Core.List.{List, [], ◌∷◌}
use Prim.Native.Nat.{ℕ, zero, suc, ◌-◌, ◌≤◌, ◌<◌}
use native.Mathlib.Nat.{not-suc-le-zero}
use native.Mathlib.Omega.{arith}
use lib.ListN.{length, get_or}
use lib.Seq.{ext_get_or}
use Rattle.field.specs.Field.{◌⊕◌, ◌⊗◌, power, value}
use Rattle.field.proofs.Sum.{⊕-comm, ⊕-zero, zero-⊕, ⊕-cancel, ⊕-lt}
use Rattle.field.proofs.Logarithms.{⊗-cancel}
use Rattle.field.specs.Roots.{poly, locators}
use Rattle.field.proofs.RootBound.{distinct, poly_lt}
use Rattle.field.proofs.Values.{bytes_of, byte_at}
use Rattle.nearest.specs.Codeword.{distance, Codeword}
use Rattle.nearest.proofs.Weights.{sums}
use Rattle.reed_solomon.specs.Rows.{Locator}
use Rattle.nearest.proofs.Sums.{sum_of, Zeros}
use Rattle.reed_solomon.specs.Decode.{Roots, Explains, ErrorAt}
use Rattle.nearest.proofs.Words.{distance_weight, length_sums, value_sums, value_sum_of}
use Rattle.reed_solomon.proofs.Poly.{locates}
use Rattle.reed_solomon.proofs.Folding.{locator_at, length_locators}

-- ---- bytes and sums, place by place

pub get_d_sums : (c d : List ℕ) (n : ℕ) → length c ≡ length d → get_or (sums c d) n 0 ≡ get_or c n 0 ⊕ get_or d n 0
unfolding sums
get_d_sums [] [] n e = sym (⊕-zero 0)
get_d_sums [] (b ∷ d) n e = absurd (omega arith)
get_d_sums (a ∷ c) [] n e = absurd (omega arith)
get_d_sums (a ∷ c) (b ∷ d) zero e = refl
get_d_sums (a ∷ c) (b ∷ d) (suc n) e = get_d_sums c d n (omega arith)

zeros_at : (g : ℕ → ℕ) (xs ys : List ℕ) (n : ℕ) → n < length xs → length ys ≡ length xs → Zeros g xs ys
    → get_or ys n 0 ⊗ g (get_or xs n 0) ≡ 0
zeros_at g [] ys n h e z = absurd (not-suc-le-zero h)
zeros_at g (x ∷ xs) [] n h e z = absurd (omega arith)
zeros_at g (x ∷ xs) (y ∷ ys) zero h e z = z.0
zeros_at g (x ∷ xs) (y ∷ ys) (suc n) h e z = zeros_at g xs ys n (omega arith) (omega arith) z.1

module _ (w s l at : List ℕ) (n : ℕ) (lw : length w ≡ 204) (ll : length l ≡ 9) (bw : (p : ℕ) → get_or w p 0 < 256)
    (syn : (j : ℕ) → j < 16 → get_or s j 0 ≡ value w (power 2 j)) (loc : Locator s l) (rs : Roots l at n)
    (k : List ℕ) (ck : Codeword k) (near : distance k w ≤ 8) where
  errors : length (sums k w) ≡ 204
  errors = length_sums k w (ck.long ∙ sym lw) ∙ ck.long

  moments : (j : ℕ) → j < 16 → get_or s j 0 ≡ sum_of (λ x. power x j) (locators 204) (sums k w)
  moments j h =
      syn j h ∙ sym (zero-⊕ (value w (power 2 j))) ∙ ap (λ (v : ℕ). v ⊕ value w (power 2 j)) (sym (ck.roots j h))
      ∙ sym (value_sums k w (power 2 j) (ck.long ∙ sym lw)) ∙ value_sum_of (sums k w) j
      ∙ ap (λ (n : ℕ). sum_of (λ x. power x j) (locators n) (sums k w)) errors

  at_roots : Zeros (poly l) (locators 204) (sums k w)
  at_roots =
      locates (locators 204) (sums k w) 16 (λ n. get_or s n 0) moments l 8 (distinct 204 (omega arith))
      (omega (arith, distance_weight k w)) (omega arith) loc.zeros

  error_byte : (p : ℕ) → get_or (sums k w) p 0 < 256
  error_byte p =
      subst (λ (v : ℕ). v < 256) (sym (get_d_sums k w p (ck.long ∙ sym lw)))
      (⊕-lt (get_or k p 0) (get_or w p 0) (byte_at k p ck.bytes) (bw p))

  -- an error stands at a root
  root_at : (p : ℕ) → p < 204 → get_or (sums k w) p 0 ≢ 0 → poly l (power 2 (203 - p)) ≡ 0
  root_at p h ne =
      ⊗-cancel (get_or (sums k w) p 0) (poly l (power 2 (203 - p))) (error_byte p)
      (poly_lt l (power 2 (203 - p)) (bytes_of l loc.bytes)) ne
      (ap (λ (x : ℕ). get_or (sums k w) p 0 ⊗ poly l x) (sym (locator_at p h))
      ∙ zeros_at (poly l) (locators 204) (sums k w) p (omega (arith, length_locators 204))
      (errors ∙ sym (length_locators 204)) at_roots)

  explains : Explains s at n (sums k w)
  explains = record {
    long = errors;
    bytes = error_byte;
    syndromes = moments;
    listed = λ p h ne. rs.all (203 - p) (omega arith) (root_at p h ne);
  }

  pub complete : (c : List ℕ) → length c ≡ 204 → ((p : ℕ) → p < 204 → ErrorAt s at n p (get_or w p 0 ⊕ get_or c p 0))
      → k ≡ c
  complete c lc mended = ext_get_or 0 k c (ck.long ∙ sym lc) (λ p h.
      sym (⊕-cancel (get_or w p 0) (get_or k p 0)) ∙ ap (λ (x : ℕ). get_or w p 0 ⊕ x)
      (⊕-comm (get_or w p 0) (get_or k p 0) ∙ sym (get_d_sums k w p (ck.long ∙ sym lw))
      ∙ sym ((mended p (omega (arith, ck.long))).is (sums k w) explains))
      ∙ ⊕-cancel (get_or w p 0) (get_or c p 0))
