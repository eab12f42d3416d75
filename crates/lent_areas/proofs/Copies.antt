-- Bytes of an area from a place on, copied out of it and put into it.
--     copied     the bytes that are there, and zeros behind them
--     put        an area with the bytes put in, as far as it has room
use Rattle.std.proofs.Common.{◌≡◌, ◌+◌, ◌-◌, ◌<◌, ◌≤◌, ◌++◌, ◌∙◌, ℕ, List, length, take, drop, get_or, min, replicate, sym, subst, arith}
use native.Mathlib.Decide.{dec_lt}
use Rattle.std.proofs.lemmas.List.{places, get_or_past}
use Rattle.lists.specs.Tab.{part_of}
use Rattle.lists.proofs.Tabs.{tab_ext}
use Rattle.lists.proofs.Parts.{with_part}
use Rattle.lists.proofs.Puts.{byte_with, with_before, with_inside, with_behind}

pub copied : (area there : List ℕ) (place count n : ℕ)
    → there ≡ take (length area - min place (length area)) (drop (min place (length area)) area)
    → count ≡ min (length there) n
    → take count there ++ replicate (n - count) 0 ≡ part_of area place n
copied area there place count n is few =
    tab_ext n _ _ (grind (arith, places)) (λ k lt. grind (arith, places, get_or_past))

module _ (bytes area : List ℕ) (place from count : ℕ) (is : from ≡ min place (length area))
    (few : count ≡ min (length bytes) (length area - from)) where
  abbrev after : List ℕ
  after = take from area ++ (take count bytes ++ drop count (drop from area))

  before : (k : ℕ) → k < place → k < length area → get_or after k 0 ≡ get_or area k 0
  before k h lt = grind (arith, places)

  inside : (k : ℕ) → k < length bytes → place + k < length area → get_or after (place + k) 0 ≡ get_or bytes k 0
  inside k h lt = grind (arith, places)

  behind : (k : ℕ) → place + length bytes ≤ k → k < length area → get_or after k 0 ≡ get_or area k 0
  behind k h lt = grind (arith, places)

  pub put : after ≡ with_part bytes place area
  unfolding with_part
  put =
      tab_ext (length area) (byte_with bytes place area) after (grind (arith, places))
      (λ k lt. elim (dec_lt k place) [
        | yes h ↦ before k h lt ∙ sym (with_before bytes place area k h)
        | no h ↦ elim (dec_lt k (place + length bytes)) [
          | yes g ↦
              let here : place + (k - place) ≡ k = omega arith in
              subst (λ (m : ℕ). get_or after m 0 ≡ byte_with bytes place area m) here
              (inside (k - place) (omega arith) (omega arith)
              ∙ sym (with_inside bytes place area (k - place) (omega arith)))
          | no g ↦
              behind k (omega arith) lt ∙ sym (with_behind bytes place area k (omega arith) (omega arith))
        ]
      ])
