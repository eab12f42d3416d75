-- What `accepted` tests, by its outcome.
--     pairs_more                        one pair more is tested by the highest
--     Accepted, accepted_true           what it says
--     refused_after, accepted_after     what a call leaves, refused and accepted
use mathlib.Core.Path.{◌≡◌, refl}
use mathlib.Core.Bool.{true, false, ◌&&◌}
use mathlib.Core.Logic.{⊎_elim}
use mathlib.Core.List.{List, map}
use Prim.Native.Nat.{ℕ, ◌+◌, ◌*◌, ◌≤◌, ◌<◌, max}
use native.Mathlib.Numerals.{add-one}
use native.Mathlib.Omega.{arith}
use lib.Dec.{eqb, leb, ltb}
use lib.ListN.{length, get_or}
use borrow.Author.Tests.{eqb-true, leb-true, ltb-true, lt-ltb, le-ltb}
use Rattle.lists.proofs.Bools.{and_both}
use Rattle.lists.specs.Tests.{all_below}
use Rattle.lists.proofs.AllBelows.{all_at}
use Rattle.best_message.specs.Entry.{is_pair, accepted, table_after, message_after}
use Rattle.fewest.specs.Best.{bit, best}
use Rattle.best_message.specs.Table.{table_of}
use Rattle.best_message.specs.Steps.{Pairs}
use Rattle.fewest.proofs.Best.{le_or_lt}

greater_below : (highest pair : ℕ) → ltb (max highest pair) 9 ≡ (ltb pair 9 && ltb highest 9)
greater_below highest pair = ⊎_elim high low (le_or_lt 9 pair)
  where
    high : 9 ≤ pair → ltb (max highest pair) 9 ≡ (ltb pair 9 && ltb highest 9)
    high h = rw (le-ltb (max highest pair) 9 (omega arith), le-ltb pair 9 h) refl

    low : pair < 9 → ltb (max highest pair) 9 ≡ (ltb pair 9 && ltb highest 9)
    low h =
        ⊎_elim
        (λ (g : 9 ≤ highest). rw (le-ltb (max highest pair) 9 (omega arith), lt-ltb pair 9 h, le-ltb highest 9 g) refl)
        (λ (g : highest < 9). rw (lt-ltb (max highest pair) 9 (omega arith), lt-ltb pair 9 h, lt-ltb highest 9 g) refl)
        (le_or_lt 9 highest)

pub pairs_more : (pairs : List ℕ) (k highest more : ℕ) → ltb highest 9 ≡ all_below k (is_pair pairs)
    → more ≡ max highest (get_or pairs k 0) → ltb more 9 ≡ all_below (k + 1) (is_pair pairs)
unfolding all_below is_pair
pairs_more pairs k highest more e f = rw (add-one k, f, ← e) (greater_below highest (get_or pairs k 0))

-- ---- what it says

pub record Accepted (pairs : List ℕ) (register room bits : ℕ) : Type 0 where
  pub right : Pairs pairs
  pub fits : bits ≡ length pairs
  pub room_for_is : 64 * length pairs + 64 ≤ room
  pub register_lt : register < 64

pub accepted_true : (pairs : List ℕ) (register room bits : ℕ) → accepted pairs register room bits ≡ true
    → Accepted pairs register room bits
unfolding accepted is_pair
accepted_true pairs register room bits e =
    let four = and_both _ (all_below (length pairs) (λ k. ltb (get_or pairs k 0) 9)) e in
    let three = and_both _ (ltb register 64) four.0 in
    let two = and_both _ (leb (64 * length pairs + 64) room) three.0 in
    let one = and_both (leb (length pairs) 1728) (eqb bits (length pairs)) two.0 in
    record {
      right = record {
        few = leb-true (length pairs) 1728 one.0;
        each = λ i h. ltb-true (get_or pairs i 0) 9 (all_at (length pairs) (λ k. ltb (get_or pairs k 0) 9) four.1 i h);
      };
      fits = eqb-true bits (length pairs) one.1;
      room_for_is = leb-true (64 * length pairs + 64) room two.1;
      register_lt = ltb-true register 64 three.1;
    }

-- ---- what the call leaves

module _ (pairs : List ℕ) (register : ℕ) (table message : List ℕ) where
  pub refused_after : accepted pairs register (length table) (length message) ≡ false
      → (table ≡ table_after pairs register table message) × (message ≡ message_after pairs register table message)
  refused_after e = unfold table_after message_after in (rw e refl, rw e refl)

  pub accepted_after : accepted pairs register (length table) (length message) ≡ true
      → (table_of pairs table ≡ table_after pairs register table message)
      × (map bit (best pairs register) ≡ message_after pairs register table message)
  accepted_after e = unfold table_after message_after in (rw e refl, rw e refl)
