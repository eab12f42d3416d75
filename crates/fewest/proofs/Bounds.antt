-- What the rows say of a message chosen from one register, beside the message sent from another: its disagreements, and
-- what the two registers behind it count, which is an entry of the last row.
--     lower                no front of a message has less than the rows say
--     Reached, reached     and some front has no more
use mathlib.Core.Path.{◌≡◌, refl, sym, ap, ap₂, ◌∙◌}
use mathlib.Core.Bool.{Bool}
use mathlib.Core.List.{List, [], ◌∷◌}
use Prim.Native.Nat.{ℕ, zero, suc, ◌+◌, ◌%◌, ◌<◌, ◌≤◌}
use native.Mathlib.Omega.{arith}
use lib.Bits.{bit_xor, xor_lt}
use lib.ListN.{length, get_or}
use Rattle.settings.specs.Patterns.{Kept}
use Rattle.rules.specs.Code.{register_after}
use Rattle.rules.proofs.CodeWindows.{register_start}
use Rattle.fewest.specs.Best.{bit, next, differ, cost}
use Rattle.fewest.proofs.Join.{after, next_lt, register_step}
use Rattle.fewest.proofs.Exact.{Whole, first_bit, whole_first, whole_next}
use Rattle.fewest.proofs.Differences.{apart, apart_twice, next_apart, differ_apart}
use Rattle.fewest.proofs.Rows.{by_way, rows, rows_long, step_least, step_some}

cost_none : (pairs : List ℕ) (register : ℕ) → cost pairs register [] ≡ 0
unfolding cost
cost_none [] register = refl
cost_none (pair ∷ pairs) register = refl

module _ (last : List ℕ) (long : length last ≡ 64) where
  -- what the registers behind n bits count
  abbrev ending : ℕ → List Bool → ℕ → (ℕ → ℕ) → ℕ → ℕ
  ending register front sender sent n = get_or last (bit_xor (after register front) (register_after sender sent n)) 0

  ending_none : (register sender : ℕ) (sent : ℕ → ℕ) → sender < 64
      → ending register [] sender sent 0 ≡ get_or last (bit_xor register sender) 0
  unfolding after
  ending_none register sender sent h =
      let small : sender % 64 ≡ sender = omega arith in
      ap (λ (s : ℕ). get_or last (bit_xor register s) 0) (register_start sender sent ∙ small)

  -- the first bit, b being the one sent
  module _ (kept : ℕ → Kept) (pair : ℕ) (pairs : List ℕ) (register sender : ℕ) (sent : ℕ → ℕ) (h : register < 64)
      (g : sender < 64) (whole : Whole kept (pair ∷ pairs) sender sent) (b : Bool) (first : sent 0 % 2 ≡ bit b)
      (n : ℕ) where
    abbrev rest : List ℕ
    rest = rows (λ i. kept (suc i)) n last

    way_is : (c : Bool) → by_way (kept 0) rest (bit_xor register sender) (apart c b)
        ≡ differ pair register c + get_or rest (bit_xor (next register c) (next sender b)) 0
    way_is c =
        ap₂ (λ (x y : ℕ). x + get_or rest y 0)
        (sym (ap (λ (p : ℕ). differ p register c) (whole_first kept pair pairs sender sent g b first whole)
        ∙ differ_apart register sender h g c b (kept 0)))
        (next_apart register sender h g c b)

    ending_next : (c : Bool) (front : List Bool) → ending register (c ∷ front) sender sent (suc n)
        ≡ ending (next register c) front (next sender b) (λ i. sent (suc i)) n
    unfolding after
    ending_next c front =
        ap (λ (s : ℕ). get_or last (bit_xor (after (next register c) front) s) 0)
        (register_step sender g sent b first n)

  pub lower : (n : ℕ) (kept : ℕ → Kept) (pairs : List ℕ) (register sender : ℕ) (sent : ℕ → ℕ) (front : List Bool)
      → register < 64 → sender < 64 → Whole kept pairs sender sent → n ≤ length pairs → length front ≡ n
      → get_or (rows kept n last) (bit_xor register sender) 0
      ≤ cost pairs register front + ending register front sender sent n
  unfolding rows cost
  lower zero kept pairs register sender sent [] h g whole le size = omega (arith, ending_none register sender sent g)
  lower zero kept pairs register sender sent (c ∷ front) h g whole le size = absurd (omega arith)
  lower (suc n) kept [] register sender sent front h g whole le size = absurd (omega arith)
  lower (suc n) kept (pair ∷ pairs) register sender sent [] h g whole le size = absurd (omega arith)
  lower (suc n) kept (pair ∷ pairs) register sender sent (c ∷ front) h g whole le size =
      let start = first_bit (sent 0) in
      let b = start.0 in
      let first = start.1 in
      let on = lower n (λ i. kept (suc i)) pairs (next register c) (next sender b) (λ i. sent (suc i)) front
      (next_lt register c h) (next_lt sender b g) (whole_next kept pair pairs sender sent g b first whole) (omega arith)
      (omega arith) in
      omega (
        arith,
        on,
        step_least (kept 0) (rows (λ i. kept (suc i)) n last) (rows_long (λ i. kept (suc i)) n last long)
            (bit_xor register sender) (xor_lt 6 register sender h g) (apart c b),
        way_is kept pair pairs register sender sent h g whole b first n c,
        ending_next kept pair pairs register sender sent h g whole b first n c front,
      )

  pub record Reached (pairs : List ℕ) (register sender : ℕ) (sent : ℕ → ℕ) (n most : ℕ) : Type 0 where
    pub front : List Bool
    pub size : length front ≡ n
    pub few : cost pairs register front + ending register front sender sent n ≤ most

  pub reached : (n : ℕ) (kept : ℕ → Kept) (pairs : List ℕ) (register sender : ℕ) (sent : ℕ → ℕ)
      → register < 64 → sender < 64 → Whole kept pairs sender sent → n ≤ length pairs
      → Reached pairs register sender sent n (get_or (rows kept n last) (bit_xor register sender) 0)
  unfolding rows cost
  reached zero kept pairs register sender sent h g whole le =
      let none = cost_none pairs register in
      record { front = []; size = refl; few = omega (arith, ending_none register sender sent g) }
  reached (suc n) kept [] register sender sent h g whole le = absurd (omega arith)
  reached (suc n) kept (pair ∷ pairs) register sender sent h g whole le =
      let start = first_bit (sent 0) in
      let b = start.0 in
      let first = start.1 in
      let row = rows (λ i. kept (suc i)) n last in
      let better = step_some (kept 0) row (rows_long (λ i. kept (suc i)) n last long) (bit_xor register sender)
      (xor_lt 6 register sender h g) in
      let c = apart better.0 b in
      let on = reached n (λ i. kept (suc i)) pairs (next register c) (next sender b) (λ i. sent (suc i))
      (next_lt register c h) (next_lt sender b g) (whole_next kept pair pairs sender sent g b first whole)
      (omega arith) in
      record {
        front = c ∷ on.front;
        size = ap suc on.size;
        few =
            omega (
              arith,
              on.few,
              better.1,
              ap (by_way (kept 0) row (bit_xor register sender)) (apart_twice better.0 b),
              way_is kept pair pairs register sender sent h g whole b first n c,
              ending_next kept pair pairs register sender sent h g whole b first n c on.front,
            );
      }
