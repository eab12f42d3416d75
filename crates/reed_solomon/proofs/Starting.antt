-- The row that the elimination starts with for the degree i, and what the row that it ends with says.
use mathlib.Core.Path.{◌≡◌, sym, ap, ◌∙◌}
use mathlib.Core.Logic.{◌≢◌}
use mathlib.Core.List.{List, ◌++◌}
use Prim.Native.Nat.{ℕ, ◌+◌, ◌-◌, ◌≤◌, ◌<◌}
use native.Mathlib.Omega.{arith}
use lib.ListN.{take, drop, length, get_or, set, replicate, length-replicate, get_or-replicate, get_or-append, length-append}
use Rattle.std.proofs.lemmas.List.{get_or-take, get_or-drop}
use lib.Seq.{get_or-set_same, get_or-set_other, get_or-append_right}
use Rattle.field.specs.Field.{◌⊗◌}
use Rattle.field.proofs.Product.{zero-⊗, one-⊗}
use Rattle.reed_solomon.specs.Rows.{total, Monic, Locator}
use Rattle.reed_solomon.proofs.Totals.{total_single, total_ext, total_applied}

-- the row whose images are the syndromes from i on and whose polynomial is x ^ i
pub monic_start : (s : List ℕ) (i : ℕ) (ρ : ℕ → ℕ) → i < 9 → ((n : ℕ) → get_or s n 0 < 256)
    → ((n : ℕ) → n < 8 → ρ n ≡ get_or s (i + n) 0) → ρ (8 + i) ≡ 1
    → ((n : ℕ) → 8 ≤ n → n < 17 → n ≢ 8 + i → ρ n ≡ 0) → Monic (λ n. get_or s n 0) i ρ
monic_start s i ρ h b low one none = record {
  row = record {
    image = λ j k. low j k ∙ sym (one-⊗ (get_or s (i + j) 0) (b (i + j)))
        ∙ ap (λ (x : ℕ). x ⊗ get_or s (i + j) 0) (sym one)
        ∙ sym (total_single 9 i (λ k. ρ (8 + k) ⊗ get_or s (k + j) 0) h
        (λ n p q. ap (λ (x : ℕ). x ⊗ get_or s (n + j) 0)
        (none (8 + n) (omega arith) (omega arith) (λ r. q (omega arith))) ∙ zero-⊗ (get_or s (n + j) 0)));
    high = λ k p q. none (8 + k) (omega arith) (omega arith) (λ r. absurd (omega arith));
  };
  top = one;
}

-- the same as the code makes it: the images, nine zeros, and then a 1
pub monic_row : (s part : List ℕ) (i : ℕ) → i < 9 → ((n : ℕ) → get_or s n 0 < 256) → length part ≡ 8
    → ((n : ℕ) → n < 8 → get_or part n 0 ≡ get_or s (i + n) 0)
    → Monic (λ n. get_or s n 0) i (λ n. get_or (set (part ++ replicate 9 0) (8 + i) 1) n 0)
monic_row s part i h b l e =
    let whole = part ++ replicate 9 0 in
    let long : length whole ≡ 17 = omega (arith, length-append part (replicate 9 0), length-replicate {A = ℕ} 9 0) in
    monic_start s i (λ n. get_or (set whole (8 + i) 1) n 0) h b
    (λ n k. get_or-set_other whole (8 + i) n 1 0 (λ r. absurd (omega arith))
    ∙ get_or-append part (replicate 9 0) 0 n (omega arith) ∙ e n k)
    (get_or-set_same whole (8 + i) 1 0 (omega arith))
    (λ n k m ne. get_or-set_other whole (8 + i) n 1 0 ne
    ∙ get_or-append_right part (replicate 9 0) n 0 (omega arith)
    ∙ get_or-replicate 9 (n - length part) 0 0 (omega arith))

-- .. out of the syndromes from i on
pub started : (s : List ℕ) (i : ℕ) (part : List ℕ) → i < 9 → ((n : ℕ) → get_or s n 0 < 256) → length part ≡ 8
    → part ≡ take (i + 8 - i) (drop i s)
    → Monic (λ n. get_or s n 0) i (λ n. get_or (set (part ++ replicate 9 0) (8 + i) 1) n 0)
started s i part h b l e = monic_row s part i h b l (λ n k.
    ap (λ (p : List ℕ). get_or p n 0) e ∙ get_or-take (i + 8 - i) (drop i s) n 0 (omega arith) ∙ get_or-drop i s n 0)

pub located : (s l row : List ℕ) (i : ℕ) → i < 9 → length l ≡ 9 → Monic (λ n. get_or s n 0) i (λ n. get_or row n 0)
    → ((b : ℕ) → b < 8 → get_or row b 0 ≡ 0)
    → ((k : ℕ) → k < 9 → get_or l k 0 ≡ get_or row (8 + k) 0) → ((n : ℕ) → get_or l n 0 < 256) → Locator s l
located s l row i h n mo z e b = record {
  bytes = b;
  zeros = λ j b. sym (total_applied l (λ n. get_or s n 0) j)
      ∙ ap (λ (x : ℕ). total x (λ k. get_or l k 0 ⊗ get_or s (k + j) 0)) n
      ∙ total_ext 9 (λ k. get_or l k 0 ⊗ get_or s (k + j) 0) (λ k. get_or row (8 + k) 0 ⊗ get_or s (k + j) 0)
      (λ k q. ap (λ (x : ℕ). x ⊗ get_or s (k + j) 0) (e k q)) ∙ sym (mo.row.image j b) ∙ z j b;
  degree = i;
  small = h;
  one = e i h ∙ mo.top;
}
