-- The symbols of a word at their places, behind the 120 before them.
--     history_copied, part_copied                 the 120 before it copied, and the 120 last
--     history_at, history_first                   what stands there before the word's are placed
--     of_block                                    the bits of a block by their window
--     Placing                                     the first n of the word's symbols stand there
--     placing_none, placing_more, placing_next    before the first, after one more, after the last of a block
--     all_placed, placing_all                     after the last block
--     none_placed                                 a word with no symbols
--     placed_by                                   the same v, said otherwise
use mathlib.Core.Path.{◌≡◌, refl, sym, ap, ◌∙◌, subst}
use mathlib.Core.Bool.{cond}
use mathlib.Core.List.{List, ◌++◌}
use Prim.Native.Nat.{ℕ, ◌+◌, ◌-◌, ◌*◌, ◌/◌, ◌%◌, ◌<◌, ◌≤◌}
use native.Mathlib.Nat.{mul-add, mul_comm, mul-le-mul_right, div-lt_iff_lt-mul}
use native.Mathlib.Decide.{dec_lt}
use native.Mathlib.Omega.{arith}
use lib.Arith.{digits_lt, digits_div, digits_mod}
use lib.Dec.{ltb}
use lib.ListN.{length, get_or, set, replicate, take, drop}
use Rattle.std.proofs.lemmas.List.{places}
use borrow.Author.Tests.{lt-ltb, le-ltb}
use Rattle.lists.specs.Binary.{binary}
use Rattle.lists.specs.Tab.{tab}
use Rattle.lists.proofs.Tabs.{length_tab, get_d_tab, tab_cong, tab_ext}
use Rattle.lists.proofs.FillOver.{Over, over_start, over_step, over_at, over_end}
use Rattle.puncturing.specs.Block.{block_by}
use Rattle.bit_interleaver.specs.Symbols.{symbol_of}
use Rattle.rules.proofs.Counts.{per_block}
use Rattle.dispersing_interleaver.specs.Stream.{stream_bit}
use Rattle.word_coder.specs.Step.{bits_of_block, kept_of_block, symbol_in, only_history, symbol_at_place}
use Rattle.word_coder.specs.Step.{symbols_behind, KeptIn}

-- ---- lists copied into others

-- a list in front of zeros
module _ (list : List ℕ) (few all : ℕ) (long : length list ≡ few) (room : few ≤ all) where
  in_front_long : length (list ++ drop few (replicate all 0)) ≡ all
  in_front_long = grind (arith, places)

  in_front : (k : ℕ) → k < all → get_or (list ++ drop few (replicate all 0)) k 0 ≡ cond (ltb k few) (get_or list k 0) 0
  in_front k h = elim (dec_lt k few) [
    | yes lt ↦ rw (lt-ltb k few lt) (grind (arith, places))
    | no ge ↦ rw (le-ltb k few (omega arith)) (grind (arith, places))
  ]

pub history_copied : (history : List ℕ) → length history ≡ 120
    → history ++ drop 120 (replicate 1760 0) ≡ only_history history
unfolding only_history
history_copied history long =
    tab_ext 1760 (λ place. cond (ltb place 120) (get_or history place 0) 0) _
    (in_front_long history 120 1760 long (omega arith)) (in_front history 120 1760 long (omega arith))

pub part_copied : (list : List ℕ) (place n : ℕ) → place + n ≤ length list
    → take n (drop place list) ≡ tab n (λ i. get_or list (place + i) 0)
part_copied list place n room = tab_ext n _ _ (grind (arith, places)) (λ k lt. grind (arith, places))

-- ---- the 120 symbols before the word's

-- what stands at a place while there are no others
unfoldable pub history_at : List ℕ → ℕ → ℕ
history_at history place = cond (ltb place 120) (get_or history place 0) 0

module _ (history : List ℕ) where
  pub history_first : (k : ℕ) → k < 120 → get_or history k 0 ≡ history_at history k
  history_first k h = unfold history_at in simp (lt-ltb k 120 h)

  history_behind : (k : ℕ) → 120 ≤ k → 0 ≡ history_at history k
  history_behind k h = unfold history_at in simp (le-ltb k 120 h)

  length_history : length (only_history history) ≡ 1760
  length_history = unfold only_history in length_tab 1760 _

  history_at_is : (k : ℕ) → k < 1760 → get_or (only_history history) k 0 ≡ history_at history k
  history_at_is k h = unfold only_history history_at in get_d_tab 1760 _ k h

-- ---- the word's

-- the symbols of all blocks are all symbols
pub all_placed : (blocks v each s : ℕ) → each ≡ per_block v → blocks ≤ s → blocks * per_block v ≤ each * s
all_placed blocks v each s e h =
    let most : blocks * each ≤ s * each = mul-le-mul_right each h in
    let turned = mul_comm each s in
    rw (sym e) (omega arith)

-- the kept bits of a block, by their window
pub of_block : (table : List ℕ) (size left : ℕ) (stream : List ℕ) (s : ℕ) {window bits : ℕ}
    → window ≡ binary (6 + size) (λ i. stream_bit stream (26 - left + size * s + i))
    → bits ≡ block_by table window → bits ≡ kept_of_block table size left stream s
of_block table size left stream s e is = unfold bits_of_block kept_of_block in is ∙ ap (block_by table) e

module _ (kept : ℕ → ℕ) (blocks v : ℕ) (history : List ℕ) where
  before_word : (k : ℕ) → k < 120 → get_or history k 0 ≡ symbol_at_place kept blocks v history k
  before_word k h = unfold symbol_at_place in simp (lt-ltb k 120 h)

  behind_word : (k : ℕ) → 120 + blocks * per_block v ≤ k → 0 ≡ symbol_at_place kept blocks v history k
  unfolding symbol_at_place
  behind_word k h = simp (le-ltb k 120 (omega arith), le-ltb k (120 + blocks * per_block v) h)

  -- symbol q of block s
  in_word : (s q : ℕ) → s < blocks → q < per_block v → symbol_of v (kept s) q
      ≡ symbol_at_place kept blocks v history (120 + per_block v * s + q)
  in_word s q h lt =
      unfold symbol_at_place symbol_in in let turned = mul_comm (per_block v) s in
      let inside = digits_lt h lt in
      let e : 120 + per_block v * s + q - 120 ≡ s * per_block v + q = omega arith in
      simp (
        le-ltb (120 + per_block v * s + q) 120 (omega arith),
        lt-ltb (120 + per_block v * s + q) (120 + blocks * per_block v) (omega arith),
        e,
        digits_div s lt,
        digits_mod s lt,
      )

  -- the first n of the word's symbols stand at their places
  abbrev pub Placing : ℕ → List ℕ → Type 0
  Placing n l = Over 1760 (symbol_at_place kept blocks v history) (only_history history) (120 + n) l

  pub placing_none : {l : List ℕ} (n : ℕ) → n ≡ 0 → l ≡ only_history history → Placing n l
  placing_none {l} n none e =
      subst (Placing n) (sym e) (over_start 1760 _ (only_history history) (120 + n) (length_history history)
      (λ k lt. history_at_is history k (omega arith) ∙ sym (history_first history k (omega arith))
      ∙ before_word k (omega arith)))

  pub placing_all : {l : List ℕ} {n : ℕ} → Placing n l → blocks * per_block v ≤ n
      → l ≡ symbols_behind kept blocks v history
  unfolding symbols_behind
  placing_all {l} {n} placed h =
      over_end 1760 _ (only_history history) placed
      (λ k le lt. history_at_is history k lt ∙ sym (history_behind history k (omega arith)) ∙ behind_word k
      (omega arith))

  pub none_placed : {l : List ℕ} → 0 ≡ per_block v → l ≡ only_history history
      → l ≡ symbols_behind kept blocks v history
  none_placed {l} none e =
      placing_all {n = 0} (placing_none 0 refl e)
      (let count = ap (λ (n : ℕ). blocks * n) (sym none) in omega arith)

  pub placing_more : {l : List ℕ} (each s q x bits : ℕ) → each ≡ per_block v → s < blocks → q < each
      → each * s + q < 1640 → bits ≡ kept s → x ≡ symbol_of v bits q
      → Placing (each * s + q) l → Placing (each * s + (q + 1)) (set l (120 + each * s + q) x)
  placing_more {l} each s q x bits e h lt inside block is placed =
      over_at 1760 _ (only_history history)
      (over_step 1760 _ (only_history history) placed (120 + each * s + q) x (omega arith) (omega arith)
      (is ∙ ap (λ (b : ℕ). symbol_of v b q) block ∙ in_word s q h (omega arith)
      ∙ ap (λ (n : ℕ). symbol_at_place kept blocks v history (120 + n * s + q)) (sym e)))
      (120 + (each * s + (q + 1))) (omega arith)

  -- a block whose symbols are all placed
  pub placing_next : {l : List ℕ} (each s q : ℕ) → q ≡ each → Placing (each * s + q) l → Placing (each * (s + 1)) l
  placing_next each s q e placed =
      let more = mul-add each s 1 in
      over_at 1760 _ (only_history history) placed (120 + each * (s + 1)) (omega arith)

  -- the kept bits from a list, and the same v and number of blocks said otherwise
  pub placed_by : {l : List ℕ} (w n : ℕ) (list : List ℕ) → v ≡ w → n ≡ blocks → 0 < per_block v → KeptIn kept n list
      → l ≡ symbols_behind (λ s. get_or list s 0) n w history → l ≡ symbols_behind kept blocks v history
  unfolding symbols_behind symbol_at_place symbol_in
  placed_by {l} w n list same all some held e =
      e ∙ rw (sym same, all) (tab_cong 1760 (symbol_at_place (λ s. get_or list s 0) blocks v history)
      (symbol_at_place kept blocks v history) at)
    where
      at : (k : ℕ) → k < 1760
          → symbol_at_place (λ s. get_or list s 0) blocks v history k ≡ symbol_at_place kept blocks v history k
      at k lt = elim (dec_lt k 120) [
        | yes h ↦ rw (lt-ltb k 120 h) refl
        | no h ↦ elim (dec_lt k (120 + blocks * per_block v)) [
          | yes g ↦
              let block : (k - 120) / per_block v < blocks = (div-lt_iff_lt-mul some).1 (omega arith) in
              rw (le-ltb k 120 (omega arith), lt-ltb k (120 + blocks * per_block v) g)
              (ap (λ (b : ℕ). symbol_of v b ((k - 120) % per_block v))
              (held.at ((k - 120) / per_block v) (omega arith)))
          | no g ↦ rw (le-ltb k 120 (omega arith), le-ltb k (120 + blocks * per_block v) (omega arith)) refl
        ]
      ]
