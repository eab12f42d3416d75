-- A turn of the walk: the table's entry has the best message's next bit.
--     walk_turn, walk_end     one turn, and the end
--     walk_next               the better bit of the register that follows
--     picked_bit              how a bit is picked by another one
use mathlib.Core.Path.{◌≡◌, refl, sym, ap, ◌∙◌}
use mathlib.Core.Bool.{true, false, cond}
use mathlib.Core.Logic.{⊎_elim}
use mathlib.Core.List.{List, [], ◌∷◌, ◌++◌, map, append_assoc, append-nil}
use Prim.Native.Nat.{ℕ, ◌+◌, ◌*◌, ◌/◌, ◌%◌, ◌≤◌, ◌<◌}
use native.Mathlib.Numerals.{add-one}
use native.Mathlib.Omega.{arith}
use lib.Bits.{bit_and, bit_xor}
use lib.Dec.{eqb}
use lib.ListN.{length, get_or, take, drop, set, drop_of_length-le}
use lib.Seq.{take-suc-set, take_all}
use borrow.Author.Tests.{eq-eqb, ne_eqb}
use Rattle.lists.proofs.Xor.{bit_cases}
use Rattle.fewest.specs.Best.{bit, seven, next, best}
use Rattle.best_message.specs.Table.{packed}
use Rattle.best_message.specs.Steps.{CostRow}
use Rattle.fewest.proofs.Best.{le_or_lt, which, best_zero, best_one}
use Rattle.best_message.proofs.Packed.{packed_zero, packed_one, pairs_from}

next_zero : (register : ℕ) → next register false ≡ register / 2 + 32 * 0
next_zero register = unfold next seven in omega arith

next_one : (register : ℕ) → next register true ≡ register / 2 + 32 * 1
next_one register = unfold next seven in omega arith

walk_on : (pair : ℕ) (pairs : List ℕ) (register : ℕ) → map bit (best (pair ∷ pairs) register)
    ≡ packed (pair ∷ pairs) register % 2
    ∷ map bit (best pairs (register / 2 + 32 * (packed (pair ∷ pairs) register % 2)))
walk_on pair pairs register =
    ⊎_elim (λ h. rw (best_zero pair pairs register h, packed_zero pair pairs register h, next_zero register))
    (λ h. rw (best_one pair pairs register h, packed_one pair pairs register h, next_one register))
    (which pair pairs register)

pub walk_turn : (pairs message : List ℕ) (t register better : ℕ) (whole : List ℕ) → t < length pairs
    → t < length message
    → better ≡ packed (drop t pairs) register % 2 → take t message ++ map bit (best (drop t pairs) register) ≡ whole
    → take (t + 1) (set message t better) ++ map bit (best (drop (t + 1) pairs) (register / 2 + 32 * better)) ≡ whole
walk_turn pairs message t register better whole h g e i =
    let rest : List ℕ = map bit (best (drop (t + 1) pairs) (register / 2 + 32 * better)) in
    let on : map bit (best (drop t pairs) register) ≡ better ∷ rest =
    rw (e, pairs_from pairs t h) (walk_on (get_or pairs t 0) (drop (t + 1) pairs) register)
    in
    let put : take (t + 1) (set message t better) ≡ take t message ++ (better ∷ []) =
    rw add-one (take-suc-set message t better g)
    in
    rw put (append_assoc (take t message) (better ∷ []) rest
    ∙ ap (λ (l : List ℕ). take t message ++ l) (sym on) ∙ i)

pub walk_end : (pairs message : List ℕ) (t register : ℕ) (whole : List ℕ) → length pairs ≤ t → length message ≤ t
    → take t message ++ map bit (best (drop t pairs) register) ≡ whole → message ≡ whole
walk_end pairs message t register whole h g e =
    unfold best in sym (append-nil message) ∙ (rw (take_all t message g, drop_of_length-le pairs h) at e)

pub walk_next : (pairs table : List ℕ) (t register better lowered v : ℕ) → CostRow pairs (t + 1) lowered table
    → register < 64 → better < 2 → v ≡ cond (eqb better 0) (get_or table (64 * t + 64 + register / 2) 0 % 2)
    (get_or table (64 * t + 96 + register / 2) 0 % 2)
    → v ≡ packed (drop (t + 1) pairs) (register / 2 + 32 * better) % 2
walk_next pairs table t register better lowered v row small bit e =
    ⊎_elim (λ (p : 1 ≤ better).
    let place : 64 * t + 96 + register / 2 ≡ 64 * (t + 1) + (register / 2 + 32 * better) = omega arith in
    e ∙ rw (ne_eqb better 0 (omega arith), place) (omega (arith, row (register / 2 + 32 * better) (omega arith))))
    (λ (p : better < 1).
    let place : 64 * t + 64 + register / 2 ≡ 64 * (t + 1) + (register / 2 + 32 * better) = omega arith in
    e ∙ rw (eq-eqb better 0 (omega arith), place) (omega (arith, row (register / 2 + 32 * better) (omega arith))))
    (le_or_lt 1 better)

abbrev Picked : ℕ → ℕ → ℕ → Type 0
Picked which a b = bit_xor a (bit_and (bit_xor a b) which) ≡ cond (eqb which 0) a b

pub picked_bit : (which a b : ℕ) → which < 2 → a < 2 → b < 2 → Picked which a b
picked_bit which a b w z o =
    bit_cases (λ (n : ℕ). Picked n a b)
    (bit_cases (λ (n : ℕ). Picked 0 n b) (bit_cases (Picked 0 0) refl refl b o)
    (bit_cases (Picked 0 1) refl refl b o) a z)
    (bit_cases (λ (n : ℕ). Picked 1 n b) (bit_cases (Picked 1 0) refl refl b o)
    (bit_cases (Picked 1 1) refl refl b o) a z) which w
