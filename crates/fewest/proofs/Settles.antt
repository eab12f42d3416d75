-- A word received as it was sent, its message chosen from any register: from bit 48 on it is the message sent.
--     settles     a message that at bit 48 has come to the right register has fewer disagreements than any other, so
--                 the best one has, and from there on it is the one sent
use mathlib.Core.Path.{◌≡◌, refl, sym, ap, ap₂, ◌∙◌}
use mathlib.Core.Bool.{Bool}
use mathlib.Core.List.{List, [], ◌∷◌, ◌++◌, map, map-append}
use Prim.Native.Nat.{ℕ, zero, suc, ◌+◌, ◌-◌, ◌%◌, ◌<◌, ◌≤◌, min}
use native.Mathlib.Decide.{ℕ_discrete}
use native.Mathlib.Omega.{arith}
use lib.Bits.{bit_xor, xor_lt}
use lib.Dec.{T, ltb, ltb→lt}
use lib.ListN.{length, get_or, take, drop, length-drop, length-append, length-map}
use lib.Seq.{length-take-le, get_or-append-add}
use Rattle.lists.proofs.Every.{at}
use Rattle.lists.proofs.Tabs.{length_tab, get_d_tab}
use Rattle.lists.proofs.Xor.{xor_cancel}
use Rattle.settings.specs.Patterns.{Kept}
use Rattle.rules.specs.Code.{register_after}
use Rattle.rules.proofs.CodeWindows.{register_lt}
use Rattle.fewest.specs.Best.{bit, cost, best}
use Rattle.fewest.proofs.Best.{best_cost, best_is_best}
use Rattle.fewest.proofs.Join.{after}
use Rattle.fewest.proofs.Exact.{Whole, exact}
use Rattle.fewest.proofs.Rows.{rows_long}
use Rattle.fewest.proofs.Bounds.{lower, reached}
use Rattle.fewest.proofs.Joining.{settled_at, ahead, none, only_same, but_same, free}
use Rattle.fewest.proofs.Joining.{joining, onward, astray, fewer, joins}
use Rattle.fewest.proofs.Fronts.{after_lt, cost_front, cost_take, BestFront, best_front, whole_behind}

-- ---- the last rows

only_long : length only_same ≡ 64
only_long = unfold only_same in ap suc (length_tab 63 (λ e. none))

only_zero : (e : ℕ) → e < 64 → get_or only_same e 0 < none → e ≡ 0
unfolding only_same
only_zero zero h lt = refl
only_zero (suc e) h lt = absurd (omega (arith, get_d_tab 63 (λ (e : ℕ). none) e (omega arith)))

but_long : (row : List ℕ) → length (but_same row) ≡ length row
but_long [] = refl
but_long (same ∷ others) = refl

but_others : (row : List ℕ) (e : ℕ) → (e ≡ 0 → ⊥) → get_or (but_same row) e 0 ≡ get_or row e 0
but_others [] e other = refl
but_others (same ∷ others) zero other = absurd (other refl)
but_others (same ∷ others) (suc e) other = refl

free_long : length free ≡ 64
free_long = unfold free in length_tab 64 (λ e. 0)

free_zero : (e : ℕ) → e < 64 → get_or free e 0 ≡ 0
free_zero e h = unfold free in get_d_tab 64 (λ e. 0) e h

same_register : (a b : ℕ) → bit_xor a b ≡ 0 → a ≡ b
same_register a b e = sym (xor_cancel a b) ∙ ap (λ (n : ℕ). bit_xor n b) e

-- ---- the message `sent` from the register `sender`, and the best one from `register`

module _ (kept : ℕ → Kept) (computed : T (joins kept)) (pairs : List ℕ) (register sender : ℕ) (sent : ℕ → ℕ)
    (h : register < 64) (g : sender < 64) (whole : Whole kept pairs sender sent)
    (enough : settled_at + ahead ≤ length pairs) where
  -- the right register, and what comes behind it
  abbrev right : ℕ
  right = register_after sender sent settled_at

  abbrev rest : List ℕ
  rest = drop settled_at pairs

  abbrev sent_behind : ℕ → ℕ
  sent_behind i = sent (settled_at + i)

  right_lt : right < 64
  right_lt = register_lt sender sent settled_at

  whole_rest : Whole (λ i. kept (settled_at + i)) rest right sent_behind
  whole_rest = whole_behind settled_at kept pairs sender sent whole (omega arith)

  rest_long : length rest + settled_at ≡ length pairs
  rest_long = omega (arith, length-drop settled_at pairs)

  abbrev difference : ℕ
  difference = bit_xor register sender

  joining_fewer : (get_or (joining kept) difference 0 < none)
      × (get_or (joining kept) difference 0 < get_or (astray kept) difference 0)
  joining_fewer =
      unfold fewer in let less =
      ltb→lt (get_or (joining kept) difference 0) (min none (get_or (astray kept) difference 0))
      (at (λ e. ltb (get_or (joining kept) e 0) (min none (get_or (astray kept) e 0))) 64 computed difference
      (xor_lt 6 register sender h g)) in
      (omega arith, omega arith)

  -- the best message has no more disagreements than one that joins
  best_few : cost pairs register (best pairs register) ≤ get_or (joining kept) difference 0
  unfolding joining
  best_few =
      let joined = reached only_same only_long settled_at kept pairs register sender sent h g whole (omega arith) in
      let front = joined.front in
      let there = same_register (after register front) right
      (only_zero (bit_xor (after register front) right)
      (xor_lt 6 (after register front) right (after_lt front register h) right_lt)
      (omega (arith, joined.few, joining_fewer.0))) in
      let behind = best rest right in
      let none-behind : cost (drop (length front) pairs) (after register front) behind ≡ 0 =
      ap₂ (λ (n s : ℕ). cost (drop n pairs) s behind) joined.size there ∙ best_cost rest right
      ∙ (exact (λ i. kept (settled_at + i)) rest right sent_behind right_lt whole_rest).0 in
      let size : length (front ++ behind) ≡ length pairs =
      omega (arith, length-append front behind, joined.size, (best_is_best rest right).long, rest_long) in
      omega (
        arith,
        (best_is_best pairs register).fewest (front ++ behind) size,
        joined.few,
        cost_front front behind pairs register (omega (arith, joined.size)),
        none-behind,
      )

  -- a message that has come to another register has more
  module _ (front : List Bool) (size : length front ≡ settled_at) (behind : List Bool)
      (long : length behind ≡ length rest) where
    abbrev there : ℕ
    there = after register front

    onward_few : get_or (onward kept) (bit_xor there right) 0 ≤ cost rest there behind
    unfolding onward
    onward_few =
        let next = take ahead behind in
        let small = after_lt front register h in
        let end = register_after right sent_behind ahead in
        omega (
          arith,
          lower free free_long ahead (λ i. kept (settled_at + i)) rest there right sent_behind next small right_lt
              whole_rest (omega (arith, rest_long)) (length-take-le ahead behind (omega (arith, rest_long))),
          free_zero (bit_xor (after there next) end)
              (xor_lt 6 (after there next) end (after_lt next there small) (register_lt right sent_behind ahead)),
          cost_take ahead behind rest there,
        )

    astray_many : (bit_xor there right ≡ 0 → ⊥)
        → get_or (astray kept) difference 0 ≤ cost pairs register (front ++ behind)
    unfolding astray onward
    astray_many other =
        let row = onward kept in
        omega (
          arith,
          lower (but_same row)
              (but_long row ∙ rows_long (λ i. kept (settled_at + i)) ahead free free_long) settled_at kept pairs
              register
              sender sent front h g whole (omega arith) size,
          but_others row (bit_xor there right) other,
          onward_few,
          cost_front front behind pairs register (omega arith),
          ap (λ (n : ℕ). cost (drop n pairs) there behind) size,
        )

  -- so the best message has come to the right one
  split : BestFront settled_at pairs register
  split = best_front settled_at pairs register (omega arith)

  joined : after register split.front ≡ right
  joined = elim (ℕ_discrete (bit_xor (after register split.front) right) 0) [
    | yes same ↦ same_register (after register split.front) right same
    | no other ↦
        (let s = after register split.front in
        let many = astray_many split.front split.long (best rest s) (best_is_best rest s).long other in
        absurd (omega (arith, many, best_few, joining_fewer.1, ap (cost pairs register) split.is)))
  ]

  pub settles : (i : ℕ) → settled_at ≤ i → i < length pairs → get_or (map bit (best pairs register)) i 0 ≡ sent i % 2
  settles i late lt =
      let front = split.front in
      let found = exact (λ i. kept (settled_at + i)) rest right sent_behind right_lt whole_rest in
      let place : i ≡ length (map bit front) + (i - settled_at) = omega (arith, length-map front bit, split.long) in
      let back : settled_at + (i - settled_at) ≡ i = omega arith in
      ap (λ (m : List Bool). get_or (map bit m) i 0) (split.is ∙ ap (λ (s : ℕ). front ++ best rest s) joined)
      ∙ ap (λ (l : List ℕ). get_or l i 0) (map-append bit front (best rest right))
      ∙ ap (λ (n : ℕ). get_or (map bit front ++ map bit (best rest right)) n 0) place
      ∙ get_or-append-add (map bit front) (map bit (best rest right)) (i - settled_at) 0
      ∙ ap (λ (l : List ℕ). get_or l (i - settled_at) 0) found.1
      ∙ get_d_tab (length rest) (λ n. sent_behind n % 2) (i - settled_at) (omega (arith, rest_long))
      ∙ ap (λ (n : ℕ). sent n % 2) back
