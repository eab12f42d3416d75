-- The symbols' way and the lines' way are one.
--     symbol_line        bit l of the symbol so many before is what line l shows
--     carrier_joined     the carrier of a run's symbol is the frame's carrier
--     history_joined     the entries as symbols are the 120 before the frame
--     symbol_joined      a symbol of 24 kept bits is the frame's
--     entries_joined     the last 120 symbols of a frame, as entries, are those after the frame
use mathlib.Core.Path.{◌≡◌, sym, ap, ◌∙◌}
use mathlib.Core.Bool.{true}
use mathlib.Core.List.{List}
use Prim.Native.Nat.{ℕ, ◌+◌, ◌-◌, ◌*◌, ◌/◌, ◌%◌, ◌^◌, ◌<◌, ◌≤◌}
use native.Mathlib.Nat.{mul-le-mul_right, add-mul, one-mul, mul_assoc, mul_comm, add_assoc}
use native.Mathlib.Decide.{dec_lt}
use native.Mathlib.Omega.{arith}
use lib.ListN.{get_or}
use borrow.Author.Tests.{lt-ltb, le-ltb}
use Rattle.lists.specs.Binary.{binary, bit_of}
use Rattle.lists.proofs.Tabs.{get_d_tab}
use Rattle.lists.proofs.Binaries.{binary_cong, binary_front, binary_back, binary_place}
use Rattle.rules.specs.Bits.{delay_of, first_entry, line_bit, carrier_at, lines_after}
use Rattle.bit_interleaver.specs.Symbols.{legal}
use Rattle.bit_interleaver.specs.Symbols.{carrier_from, entry_before, history_bit}
use Rattle.bit_interleaver.specs.Symbols.{history_of, entries_of, symbol_at, symbol_of}
use Rattle.rules.proofs.Entries.{in_lines_cong}
use Rattle.rules.proofs.Shown.{line_early, line_late}
use Rattle.bit_interleaver.proofs.Histories.{history_bit_lt}
use Rattle.rules.proofs.Widths.{delay_most}

module _ (v : ℕ) (lines : List ℕ) (kept : ℕ → ℕ) where
  symbol_early : (s : ℕ) → s < 120 → symbol_at v lines kept s ≡ binary v (history_bit v lines s)
  symbol_early s h = unfold symbol_at in simp (lt-ltb _ _ h)

  symbol_late : (s : ℕ) → 120 ≤ s → symbol_at v lines kept s ≡ binary v (λ l. kept ((s - 120) * v + l))
  symbol_late s h = unfold symbol_at in simp (le-ltb _ _ h)

  module _ (entries : (k : ℕ) → get_or lines k 0 < 2) (bits : (c : ℕ) → kept c < 2) where
    entry_shown : (k l s : ℕ) → s + delay_of v l ≡ 120 + k → history_bit v lines s l
        ≡ get_or lines (first_entry v l + k) 0
    entry_shown k l s e =
        unfold history_bit entry_before in let place : s + delay_of v l - 120 ≡ k = omega arith in
        rw (le-ltb (s + delay_of v l) 120 (omega arith), place) (let b = entries (first_entry v l + k) in omega arith)

    -- Line l of carrier k is from symbol k − l × 120/(v−1).
    pub symbol_line : (k l s : ℕ) → l < v → s + delay_of v l ≡ 120 + k
        → bit_of v (symbol_at v lines kept s) l ≡ line_bit v lines kept k l
    symbol_line k l s h e = elim (dec_lt s 120) [
      | yes p ↦
          ap (λ (x : ℕ). x / 2 ^ (v - 1 - l) % 2) (symbol_early s p)
          ∙ binary_place v l (history_bit v lines s) (history_bit_lt v lines s) h ∙ entry_shown k l s e
          ∙ sym (line_early v lines kept k l (omega arith))
      | no p ↦
          let place : s - 120 ≡ k - delay_of v l = omega arith in
          ap (λ (x : ℕ). x / 2 ^ (v - 1 - l) % 2) (symbol_late s (omega arith))
          ∙ binary_place v l (λ l. kept ((s - 120) * v + l)) (λ l. bits ((s - 120) * v + l)) h
          ∙ ap (λ (q : ℕ). kept (q * v + l)) place ∙ sym (line_late v lines kept k l (omega arith))
    ]

    -- a run from symbol `first` of the frame on, with the 120 before it in front
    module _ (symbols : List ℕ) (first count : ℕ)
        (run : (i : ℕ) → i < 120 + count → get_or symbols i 0 ≡ symbol_at v lines kept (first + i)) where
      pub carrier_joined : (j : ℕ) → j < count → carrier_from v symbols j ≡ carrier_at v lines kept (first + j)
      unfolding carrier_from carrier_at
      carrier_joined j lt =
          binary_cong v (λ l. bit_of v (get_or symbols (120 + j - delay_of v l) 0) l)
          (line_bit v lines kept (first + j))
          (λ l h.
          let most = delay_most v l h in
          ap (λ (x : ℕ). bit_of v x l) (run (120 + j - delay_of v l) (omega arith))
          ∙ symbol_line (first + j) l (first + (120 + j - delay_of v l)) h (omega arith))

    pub history_joined : legal v ≡ true → (i : ℕ) → i < 120 → get_or (history_of v lines) i 0 ≡ symbol_at v lines kept i
    unfolding history_of
    history_joined good i lt =
        rw good (get_d_tab 120 (λ i. binary v (history_bit v lines i)) i lt ∙ sym (symbol_early i lt))

    -- The last 120 symbols of a frame of n carriers, as entries, are those after the frame.
    pub entries_joined : legal v ≡ true → (n : ℕ) (history : List ℕ)
        → ((i : ℕ) → i < 120 → get_or history i 0 ≡ symbol_at v lines kept (n + i))
        → entries_of v history ≡ lines_after v lines kept n
    unfolding entries_of lines_after
    entries_joined good n history run =
        rw good (in_lines_cong v (λ l e. bit_of v (get_or history (120 - delay_of v l + e) 0) l)
        (λ l e. line_bit v lines kept (n + e) l) (λ l e h lt.
        let most = delay_most v l h in
        ap (λ (x : ℕ). bit_of v x l) (run (120 - delay_of v l + e) (omega arith))
        ∙ symbol_line (n + e) l (n + (120 - delay_of v l + e)) h (omega arith)))

    -- 24 kept bits from kept bit 24 × b on, as symbols, are those of the frame: `per` of them are 24 bits.
    pub symbol_joined : (per b q word : ℕ) → 0 < v → per * v ≡ 24 → q < per → word ≡ binary 24 (λ i. kept (24 * b + i))
        → symbol_of v word q ≡ symbol_at v lines kept (120 + (per * b + q))
    symbol_joined per b q word some whole lt e =
        unfold symbol_of in let left : ℕ = 24 - v - q * v in
        let digit : ℕ → ℕ = λ i. kept (24 * b + i) in
        let room_for : (q + 1) * v ≤ per * v = mul-le-mul_right v (omega arith) in
        let one : (q + 1) * v ≡ q * v + v = add-mul q 1 v ∙ ap (λ (x : ℕ). q * v + x) (one-mul v) in
        let all : 24 ≡ q * v + v + left = omega arith in
        let start : (per * b + q) * v ≡ 24 * b + q * v =
        add-mul (per * b) q v
        ∙ ap (λ (x : ℕ). x + q * v) (mul_assoc per b v ∙ ap (λ (x : ℕ). per * x) (mul_comm b v)
        ∙ sym (mul_assoc per v b) ∙ ap (λ (x : ℕ). x * b) whole) in
        let place : 120 + (per * b + q) - 120 ≡ per * b + q = omega arith in
        ap (λ (x : ℕ). x / 2 ^ left % 2 ^ v) (e ∙ ap (λ (n : ℕ). binary n digit) all)
        ∙ ap (λ (x : ℕ). x % 2 ^ v) (binary_front (q * v + v) left digit (λ i. bits (24 * b + i)))
        ∙ binary_back (q * v) v digit (λ i. bits (24 * b + i))
        ∙ binary_cong v (λ l. kept (24 * b + (q * v + l))) (λ l. kept ((120 + (per * b + q) - 120) * v + l))
        (λ l h. ap kept (sym (add_assoc (24 * b) (q * v) l) ∙ ap (λ (x : ℕ). x + l) (sym start)
        ∙ ap (λ (x : ℕ). x * v + l) (sym place))) ∙ sym (symbol_late (120 + (per * b + q)) (omega arith))
