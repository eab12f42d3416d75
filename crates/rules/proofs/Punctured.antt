-- The kept bits by number are the kept bits of the message bits one after the other.
--     kept_is               kept bit c is the coded bit that its number in the pattern says
--     punctured_is_kept     the bits kept of the message bits below n are kept bits 0, 1, .. below kept_below rate n,
--                           in this order
use mathlib.Core.Path.{◌≡◌, refl, sym, ap, ap₂, ◌∙◌}
use mathlib.Core.Bool.{Bool, true, false, cond}
use mathlib.Core.List.{List, [], ◌∷◌, ◌++◌}
use Prim.Native.Nat.{ℕ, zero, suc, ◌+◌, ◌-◌, ◌*◌, ◌/◌, ◌%◌, ◌<◌}
use native.Mathlib.Nat.{mod-lt, not-suc-le-zero, le_of_suc-le-suc, add-zero}
use native.Mathlib.Omega.{arith}
use lib.Dec.{T, eqb, eqb→eq}
use lib.ListN.{length, get_or}
use Rattle.lists.specs.Tab.{tab}
use Rattle.lists.proofs.Tabs.{get_d_tab, tab_cong, tab_join}
use Rattle.lists.proofs.Every.{every, at}
use Rattle.settings.specs.Patterns.{Kept, XY, X, Y, pattern, pattern_length, bits_of, kept_at, kept_of, kept_below}
use Rattle.settings.proofs.LegalSettings.{LegalRate, half, two_thirds, three_quarters, five_sixths, seven_eighths}
use Rattle.settings.proofs.Patterns.{begun, kept_below_closed, pattern_length_bounds}
use Rattle.rules.specs.Code.{coded_x, coded_y}
use Rattle.rules.specs.Puncturing.{pattern_at, kept_pair, punctured, kept_bit}
use Rattle.rules.proofs.Sources.{source_of, last_is_x, is_x, kept_is_x, indexed_bit, indexed_as, source_at, is_x_at}

-- ---- both bits are kept of the first message bit of a pattern, and of no other

abbrev pairs : Kept → ℕ
pairs XY = 1
pairs X = 0
pairs Y = 0

test : ℕ → ℕ → Bool
test rate place = eqb (pairs (get_or (pattern rate) place XY)) (1 - place)

tested : {rate : ℕ} → LegalRate rate → T (every (test rate) (pattern_length rate))
unfolding test pattern_length
tested half = tt
tested two_thirds = tt
tested three_quarters = tt
tested five_sixths = tt
tested seven_eighths = tt

pairs_first : {rate : ℕ} → LegalRate rate → (place : ℕ) → place < pattern_length rate
    → pairs (get_or (pattern rate) place XY) ≡ 1 - place
unfolding test
pairs_first {rate} legal place lt = eqb→eq _ _ (at (test rate) (pattern_length rate) (tested legal) place lt)

-- ---- the kept bits before those of message bit n

below_first : {rate : ℕ} → LegalRate rate → (n : ℕ) → n % pattern_length rate ≡ 0
    → kept_below rate n ≡ n / pattern_length rate * (pattern_length rate + 1) + 0
unfolding pattern_length begun
below_first half n h = let e = kept_below_closed half n in omega arith
below_first two_thirds n h = let e = kept_below_closed two_thirds n in omega arith
below_first three_quarters n h = let e = kept_below_closed three_quarters n in omega arith
below_first five_sixths n h = let e = kept_below_closed five_sixths n in omega arith
below_first seven_eighths n h = let e = kept_below_closed seven_eighths n in omega arith

below_other : {rate : ℕ} → LegalRate rate → (n : ℕ) → 0 < n % pattern_length rate
    → kept_below rate n ≡ n / pattern_length rate * (pattern_length rate + 1) + suc (n % pattern_length rate)
unfolding pattern_length begun
below_other half n h = let e = kept_below_closed half n in omega arith
below_other two_thirds n h = let e = kept_below_closed two_thirds n in omega arith
below_other three_quarters n h = let e = kept_below_closed three_quarters n in omega arith
below_other five_sixths n h = let e = kept_below_closed five_sixths n in omega arith
below_other seven_eighths n h = let e = kept_below_closed seven_eighths n in omega arith

whole : {rate : ℕ} → LegalRate rate → (n : ℕ) → n / pattern_length rate * pattern_length rate + n % pattern_length rate
    ≡ n
unfolding pattern_length
whole half n = omega arith
whole two_thirds n = omega arith
whole three_quarters n = omega arith
whole five_sixths n = omega arith
whole seven_eighths n = omega arith

kept_bits_of : (places : List Kept) (place : ℕ) → place < length places
    → kept_at places place ≡ bits_of (get_or places place XY)
kept_bits_of [] place h = absurd (not-suc-le-zero h)
kept_bits_of (kept ∷ rest) zero h = refl
kept_bits_of (kept ∷ rest) (suc place) h = kept_bits_of rest place (le_of_suc-le-suc h)

module _ {rate : ℕ} (legal : LegalRate rate) (register : ℕ) (message : ℕ → ℕ) where
  bit : ℕ → ℕ
  bit = indexed_bit rate register message

  module _ (n : ℕ) where
    place_lt : n % pattern_length rate < pattern_length rate
    place_lt = mod-lt n (pattern_length_bounds legal).0

    -- a kept bit of message bit n, by its number in the pattern
    of_number : (c number : ℕ) (x : Bool) → c ≡ n / pattern_length rate * (pattern_length rate + 1) + number
        → number < pattern_length rate + 1 → number - 1 ≡ n % pattern_length rate → is_x (pattern rate) number ≡ x
        → bit c ≡ cond x (coded_x register message n) (coded_y register message n)
    of_number c number x e few back is =
        unfold bit in indexed_as rate register message c x (ap (kept_is_x rate) e ∙ is_x_at rate _ number few ∙ is)
        ∙ ap (λ (m : ℕ). cond x (coded_x register message m) (coded_y register message m))
        (ap (source_of rate) e ∙ source_at rate _ number few
        ∙ ap (λ (p : ℕ). n / pattern_length rate * pattern_length rate + p) back ∙ whole legal n)

    counted : kept_at (pattern rate) (n % pattern_length rate)
        ≡ bits_of (get_or (pattern rate) (n % pattern_length rate) XY)
    counted = unfold pattern_length in kept_bits_of (pattern rate) (n % pattern_length rate) place_lt

    -- the bits kept of message bit n
    next : tab (kept_of rate n) (λ k. bit (kept_below rate n + k))
        ≡ kept_pair (pattern_at rate n) (coded_x register message n) (coded_y register message n)
    unfolding kept_of pattern_at tab
    next = go (get_or (pattern rate) (n % pattern_length rate) XY) refl
      where
        go : (kept : Kept) → get_or (pattern rate) (n % pattern_length rate) XY ≡ kept
            → tab (kept_at (pattern rate) (n % pattern_length rate)) (λ k. bit (kept_below rate n + k))
            ≡ kept_pair (get_or (pattern rate) (n % pattern_length rate) XY) (coded_x register message n)
            (coded_y register message n)
        go XY e =
            let one = sym (pairs_first legal (n % pattern_length rate) place_lt) ∙ ap pairs e in
            let first : n % pattern_length rate ≡ 0 = omega arith in
            let some = (pattern_length_bounds legal).0 in
            let start = below_first legal n first in
            rw (counted, e) (ap₂ (λ (x y : ℕ). x ∷ y ∷ [])
            (of_number (kept_below rate n + 0) 0 true (omega arith) (omega arith) (omega arith) refl)
            (of_number (kept_below rate n + 1) 1 false (omega arith) (omega arith) (omega arith)
            (ap (λ (p : ℕ). last_is_x (get_or (pattern rate) p XY)) (sym first) ∙ ap last_is_x e)))
        go X e =
            let none = sym (pairs_first legal (n % pattern_length rate) place_lt) ∙ ap pairs e in
            let later : 0 < n % pattern_length rate = omega arith in
            let few = place_lt in
            rw (counted, e) (ap (λ (x : ℕ). x ∷ [])
            (of_number (kept_below rate n + 0) (suc (n % pattern_length rate)) true
            (add-zero (kept_below rate n) ∙ below_other legal n later) (omega arith) (omega arith) (ap last_is_x e)))
        go Y e =
            let none = sym (pairs_first legal (n % pattern_length rate) place_lt) ∙ ap pairs e in
            let later : 0 < n % pattern_length rate = omega arith in
            let few = place_lt in
            rw (counted, e) (ap (λ (x : ℕ). x ∷ [])
            (of_number (kept_below rate n + 0) (suc (n % pattern_length rate)) false
            (add-zero (kept_below rate n) ∙ below_other legal n later) (omega arith) (omega arith) (ap last_is_x e)))

punctured_indexed : {rate : ℕ} → LegalRate rate → (register : ℕ) (message : ℕ → ℕ) (n : ℕ)
    → punctured rate register message n ≡ tab (kept_below rate n) (indexed_bit rate register message)
unfolding punctured kept_below tab bit
punctured_indexed legal register message zero = refl
punctured_indexed {rate} legal register message (suc n) =
    ap₂ (λ (a b : List ℕ). a ++ b) (punctured_indexed legal register message n) (sym (next legal register message n))
    ∙ sym (tab_join (kept_below rate n) (kept_of rate n) (indexed_bit rate register message))

-- of each message bit one is kept at least
kept_enough : {rate : ℕ} → LegalRate rate → (c : ℕ) → c < kept_below rate (suc c)
unfolding pattern_length begun
kept_enough half c = let e = kept_below_closed half (suc c) in omega arith
kept_enough two_thirds c = let e = kept_below_closed two_thirds (suc c) in omega arith
kept_enough three_quarters c = let e = kept_below_closed three_quarters (suc c) in omega arith
kept_enough five_sixths c = let e = kept_below_closed five_sixths (suc c) in omega arith
kept_enough seven_eighths c = let e = kept_below_closed seven_eighths (suc c) in omega arith

-- Kept bit c is the coded bit that its number in the pattern says.
pub kept_is : {rate : ℕ} → LegalRate rate → (register : ℕ) (message : ℕ → ℕ) (c : ℕ)
    → kept_bit rate register message c ≡ indexed_bit rate register message c
unfolding kept_bit
kept_is {rate} legal register message c =
    ap (λ (l : List ℕ). get_or l c 0) (punctured_indexed legal register message (suc c))
    ∙ get_d_tab (kept_below rate (suc c)) (indexed_bit rate register message) c (kept_enough legal c)

-- The bits kept of the message bits below n are the kept bits below kept_below rate n, in their order.
pub punctured_is_kept : {rate : ℕ} → LegalRate rate → (register : ℕ) (message : ℕ → ℕ) (n : ℕ)
    → punctured rate register message n ≡ tab (kept_below rate n) (kept_bit rate register message)
punctured_is_kept {rate} legal register message n =
    punctured_indexed legal register message n
    ∙ tab_cong (kept_below rate n) (indexed_bit rate register message) (kept_bit rate register message)
    (λ c lt. sym (kept_is legal register message c))
