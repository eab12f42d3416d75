-- The table of coded bits is filled at two places a turn.
--     Halves                                   the first places of both halves are filled
--     halves_none, halves_more, halves_all     before the first turn, after one more, at the end
--     entry_low, entry_high                    what stands in the halves
use mathlib.Core.Path.{◌≡◌, refl, sym, ap, ◌∙◌}
use mathlib.Core.List.{List}
use Prim.Native.Nat.{ℕ, ◌+◌, ◌-◌, ◌%◌, ◌^◌, ◌<◌, ◌≤◌}
use native.Mathlib.Decide.{ℕ_discrete, dec_le}
use native.Mathlib.Omega.{arith}
use borrow.Author.Tests.{lt-ltb, le-ltb}
use lib.ListN.{length, get_or, set, length-set, replicate, length-replicate}
use lib.Seq.{get_or-set_same, get_or-set_other}
use Rattle.lists.specs.Tab.{tab}
use Rattle.lists.proofs.Tabs.{tab_ext}
use Rattle.rules.specs.Code.{parity}
use Rattle.convolutional_code.specs.CodeTable.{turned, code_entry}
use Rattle.convolutional_code.proofs.Turning.{turned_mod}

pub record Halves (f : ℕ → ℕ) (i : ℕ) (l : List ℕ) : Type 0 where
  pub len : length l ≡ 256
  pub low : (k : ℕ) → k < i → get_or l k 0 ≡ f k
  pub high : (k : ℕ) → k < i → get_or l (128 + k) 0 ≡ f (128 + k)

module _ (f : ℕ → ℕ) where
  pub halves_none : Halves f 0 (replicate 256 0)
  halves_none =
      record {
        len = length-replicate {A = ℕ} 256 0;
        low = λ k lt. absurd (omega arith);
        high = λ k lt. absurd (omega arith);
      }

  pub halves_more : {l : List ℕ} {i : ℕ} → Halves f i l → i < 128 → (m n x y : ℕ) → m ≡ i → n ≡ i → x ≡ f i
      → y ≡ f (128 + i) → Halves f (i + 1) (set (set l m x) (128 + n) y)
  halves_more {l} {i} b h m n x y at-m at_n p q =
      rw (at-m, at_n)
      (record {
        len = length-set (set l i x) (128 + i) y ∙ length-set l i x ∙ b.len;
        low = λ k lt. get_or-set_other (set l i x) (128 + i) k y 0 (λ e. absurd (omega arith))
            ∙ low k lt (ℕ_discrete k i);
        high = λ k lt. high k lt (ℕ_discrete k i);
      })
    where
      low : (k : ℕ) → k < i + 1 → Dec (k ≡ i) → get_or (set l i x) k 0 ≡ f k
      low k lt (yes s) = rw s (get_or-set_same l i x 0 (let e = b.len in omega arith) ∙ p)
      low k lt (no ne) = get_or-set_other l i k x 0 ne ∙ b.low k (omega arith)

      high : (k : ℕ) → k < i + 1 → Dec (k ≡ i) → get_or (set (set l i x) (128 + i) y) (128 + k) 0 ≡ f (128 + k)
      high k lt (yes s) =
          rw s (get_or-set_same (set l i x) (128 + i) y 0 (let e = length-set l i x ∙ b.len in omega arith) ∙ q)
      high k lt (no ne) =
          get_or-set_other (set l i x) (128 + i) (128 + k) y 0 (λ e. ne (omega arith))
          ∙ get_or-set_other l i (128 + k) x 0 (λ e. absurd (omega arith)) ∙ b.high k (omega arith)

  pub halves_all : {l : List ℕ} {i : ℕ} → Halves f i l → 128 ≤ i → l ≡ tab 256 f
  halves_all {l} {i} b h = tab_ext 256 f l b.len (λ k lt. go k lt (dec_le 128 k))
    where
      go : (k : ℕ) → k < 256 → Dec (128 ≤ k) → get_or l k 0 ≡ f k
      go k lt (yes le) = let e : k ≡ 128 + (k - 128) = omega arith in rw e (b.high (k - 128) (omega arith))
      go k lt (no nle) = b.low k (omega arith)

-- ---- what stands in the two halves

pub entry_low : (i : ℕ) → i < 128 → parity 0o133 (turned 7 i) ≡ code_entry i
entry_low i lt = unfold code_entry in rw (lt-ltb i 128 lt) refl

pub entry_high : (i : ℕ) → i < 128 → parity 0o171 (turned 7 i) ≡ code_entry (128 + i)
entry_high i lt =
    unfold code_entry in let same : (128 + i) % 2 ^ 7 ≡ i = omega arith in
    rw (le-ltb (128 + i) 128 (omega arith))
    (ap (λ (x : ℕ). parity 0o171 (turned 7 x)) (sym same) ∙ ap (parity 0o171) (turned_mod 7 (128 + i)))
