-- The stream, into which two parts are put: the last four bytes of the word before, and the word that comes out.
--     stream_parts     with both parts it is the stream after a word more
use mathlib.Core.Path.{◌≡◌, refl, ◌∙◌}
use mathlib.Core.Bool.{cond}
use mathlib.Core.List.{List, ◌++◌}
use Prim.Native.Nat.{ℕ, ◌+◌, ◌-◌, ◌<◌, ◌≤◌}
use native.Mathlib.Decide.{dec_lt}
use native.Mathlib.Omega.{arith}
use lib.Dec.{ltb}
use lib.ListN.{length, get_or, take, drop}
use borrow.Author.Tests.{lt-ltb, le-ltb}
use Rattle.std.proofs.lemmas.List.{places}
use Rattle.lists.proofs.Tabs.{tab_ext}
use Rattle.dispersing_interleaver.specs.Stream.{stream_after}

-- a list with a part of it exchanged
module _ (kept out : List ℕ) (a n : ℕ) (room : a + n ≤ length kept) (long : length out ≡ n) where
  abbrev exchanged : List ℕ
  exchanged = take a kept ++ (out ++ drop n (drop a kept))

  exchanged_long : length exchanged ≡ length kept
  exchanged_long = grind (arith, places)

  before_it : (k : ℕ) → k < a → get_or exchanged k 0 ≡ get_or kept k 0
  before_it k h = grind (arith, places)

  in_it : (k : ℕ) → a ≤ k → k < a + n → get_or exchanged k 0 ≡ get_or out (k - a) 0
  in_it k h lt = grind (arith, places)

  behind_it : (k : ℕ) → a + n ≤ k → get_or exchanged k 0 ≡ get_or kept k 0
  behind_it k h = grind (arith, places)

module _ (stream out kept : List ℕ) (long : length kept ≡ 212) (word : length out ≡ 204)
    (first : (k : ℕ) → k < 4 → get_or kept k 0 ≡ get_or stream (204 + k) 0)
    (last : (k : ℕ) → 208 ≤ k → get_or kept k 0 ≡ get_or stream k 0) where
  -- byte k of the stream after the word
  abbrev ruled : ℕ → ℕ
  ruled k = cond (ltb k 4) (get_or stream (204 + k) 0) (cond (ltb k 208) (get_or out (k - 4) 0) (get_or stream k 0))

  pub stream_parts : exchanged kept out 4 204 (omega arith) word ≡ stream_after stream out
  unfolding stream_after
  stream_parts =
      let room : 4 + 204 ≤ length kept = omega arith in
      tab_ext 212 ruled _ (exchanged_long kept out 4 204 room word ∙ long) (λ k lt. elim (dec_lt k 4) [
        | yes early ↦ before_it kept out 4 204 room word k early ∙ first k early ∙ rw (lt-ltb k 4 early) refl
        | no late ↦ elim (dec_lt k 208) [
          | yes inside ↦
              in_it kept out 4 204 room word k (omega arith) inside
              ∙ rw (le-ltb k 4 (omega arith), lt-ltb k 208 inside) refl
          | no behind ↦
              behind_it kept out 4 204 room word k (omega arith) ∙ last k (omega arith)
              ∙ rw (le-ltb k 4 (omega arith), le-ltb k 208 (omega arith)) refl
        ]
      ])
