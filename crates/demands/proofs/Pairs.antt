-- The received pair of a message bit, where its kept bits are received as they were sent.
--     kept_pair_is     the kept bits of a message bit stand from kept_below on
--     pair_sent_is     so its received pair is as it was sent
use mathlib.Core.Path.{◌≡◌, refl, sym, ap, ap₂, ◌∙◌}
use mathlib.Core.List.{List, [], ◌∷◌, ◌++◌}
use Prim.Native.Nat.{ℕ, suc, ◌+◌, ◌*◌, ◌<◌, ◌≤◌}
use native.Mathlib.Nat.{zero-add, suc-add}
use native.Mathlib.Omega.{arith}
use lib.ListN.{length, get_or, length-append}
use Rattle.lists.proofs.Tabs.{length_tab, get_d_tab}
use Rattle.settings.specs.Patterns.{Kept, XY, X, Y, kept_below}
use Rattle.settings.proofs.LegalSettings.{LegalRate}
use Rattle.rules.specs.Code.{coded_x, coded_y}
use Rattle.rules.specs.Puncturing.{pattern_at, kept_pair, punctured, kept_bit}
use Rattle.rules.proofs.Punctured.{punctured_is_kept}
use Rattle.rules.specs.Back.{pair_of, pair_at}
use Rattle.fewest.proofs.Exact.{pair_sent}

-- what stands behind a list
behind : (front back : List ℕ) (k : ℕ) → get_or (front ++ back) (length front + k) 0 ≡ get_or back k 0
behind [] back k = simp zero-add
behind (a ∷ front) back k = simp suc-add (behind front back k)

module _ {rate : ℕ} (legal : LegalRate rate) (register : ℕ) (message : ℕ → ℕ) (n : ℕ) where
  abbrev pub coded : List ℕ
  coded = kept_pair (pattern_at rate n) (coded_x register message n) (coded_y register message n)

  long : (m : ℕ) → length (punctured rate register message m) ≡ kept_below rate m
  long m = ap length (punctured_is_kept legal register message m)
      ∙ length_tab (kept_below rate m) (kept_bit rate register message)

  more : kept_below rate (suc n) ≡ kept_below rate n + length coded
  more =
      unfold punctured in sym (long (suc n)) ∙ length-append (punctured rate register message n) coded
      ∙ ap (λ (k : ℕ). k + length coded) (long n)

  pub kept_pair_is : (k : ℕ) → k < length coded → kept_bit rate register message (kept_below rate n + k)
      ≡ get_or coded k 0
  unfolding punctured
  kept_pair_is k lt =
      sym (get_d_tab (kept_below rate (suc n)) (kept_bit rate register message) (kept_below rate n + k)
      (omega (arith, more)))
      ∙ ap (λ (l : List ℕ). get_or l (kept_below rate n + k) 0) (sym (punctured_is_kept legal register message (suc n)))
      ∙ ap (λ (m : ℕ). get_or (punctured rate register message n ++ coded) (m + k) 0) (sym (long n))
      ∙ behind (punctured rate register message n) coded k

  -- the digits need only be right where there are kept bits of the message bit
  pub pair_sent_is : (digit : ℕ → ℕ)
      → ((c : ℕ) → kept_below rate n ≤ c → c < kept_below rate (suc n) → digit c ≡ kept_bit rate register message c)
      → pair_at rate digit n ≡ pair_sent (pattern_at rate n) (coded_x register message n) (coded_y register message n)
  unfolding pair_at
  pair_sent_is digit right = go (pattern_at rate n) refl
    where
      at_first : 0 < length coded → digit (kept_below rate n) ≡ get_or coded 0 0
      at_first some =
          right (kept_below rate n) (omega arith) (omega (arith, more))
          ∙ ap (kept_bit rate register message) {x = kept_below rate n} {y = kept_below rate n + 0} (omega arith)
          ∙ kept_pair_is 0 some

      go : (kept : Kept) → pattern_at rate n ≡ kept
          → pair_of (pattern_at rate n) (digit (kept_below rate n)) (digit (kept_below rate n + 1))
          ≡ pair_sent (pattern_at rate n) (coded_x register message n) (coded_y register message n)
      go XY e =
          let size : length coded ≡ 2 = rw e refl in
          let first : digit (kept_below rate n) ≡ coded_x register message n = at_first (omega arith) ∙ rw e refl in
          let second : digit (kept_below rate n + 1) ≡ coded_y register message n =
          right (kept_below rate n + 1) (omega arith) (omega (arith, more)) ∙ kept_pair_is 1 (omega arith)
          ∙ rw e refl in
          rw e (ap₂ (λ (x y : ℕ). 3 * x + y) first second)
      go X e =
          let size : length coded ≡ 1 = rw e refl in
          let first : digit (kept_below rate n) ≡ coded_x register message n = at_first (omega arith) ∙ rw e refl in
          rw e (ap (λ (x : ℕ). 3 * x + 2) first)
      go Y e =
          let size : length coded ≡ 1 = rw e refl in
          let first : digit (kept_below rate n) ≡ coded_y register message n = at_first (omega arith) ∙ rw e refl in
          rw e (ap (λ (x : ℕ). 6 + x) first)
