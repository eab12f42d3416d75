-- The tests of a state, and what a good one says.
--     tests_are           the tests as the code makes them
--     Good, good_of       what a good state is
--     fresh_good          a fresh state of legal settings is good
use mathlib.Core.Path.{◌≡◌, refl}
use mathlib.Core.Bool.{Bool, true, false, cond, ◌&&◌}
use Prim.Native.Nat.{◌<◌}
use lib.Dec.{eqb, ltb}
use borrow.Author.Tests.{ltb-true, eq-eqb, eqb-true}
use Rattle.lists.proofs.Bools.{and_both}
use Rattle.lists.specs.Tests.{bits_then_zeros}
use Rattle.lists.proofs.BitEntries.{zeros_fine}
use Rattle.settings.specs.declared.Settings.{Settings}
use Rattle.settings.specs.Legal.{starting}
use Rattle.receiving_state.specs.declared.State.{State}
use Rattle.rules.specs.Back.{held_count}
use Rattle.received_bits.specs.Held.{held_of}
use Rattle.receiving_state.specs.State.{fresh_receiving_state, nothing_taken, good_receiving_state}
use Rattle.rules.specs.Bits.{used_lines}

-- ---- the tests of a state

-- the code counts the held bits of legal settings alone, and of others nothing is asked
pub tests_are : (state : State)
    → (eqb (starting state.settings) 0 && ltb state.taken 2 && ltb state.register 64
    && bits_then_zeros (used_lines state.settings.v) state.lines
    && bits_then_zeros (held_of state.settings) state.held
    && cond (eqb state.taken 0) (nothing_taken state) true) ≡ good_receiving_state state
unfolding good_receiving_state held_of
tests_are state =
    go (eqb (starting state.settings) 0) (ltb state.taken 2) (ltb state.register 64)
    (bits_then_zeros (used_lines state.settings.v) state.lines)
    (cond (eqb state.taken 0) (nothing_taken state) true)
  where
    go : (legal taken register lines yet : Bool) → (legal && taken && register && lines
        && bits_then_zeros (cond legal (held_count state.settings) 0) state.held && yet)
        ≡ (legal && taken && register && lines && bits_then_zeros (held_count state.settings) state.held && yet)
    go true taken register lines yet = refl
    go false taken register lines yet = refl

-- ---- what a good state is

pub record Good (state : State) : Type 0 where
  pub legal : starting state.settings ≡ 0
  pub taken_few : state.taken < 2
  pub register_few : state.register < 64
  pub lines_in : bits_then_zeros (used_lines state.settings.v) state.lines ≡ true
  pub held_in : bits_then_zeros (held_count state.settings) state.held ≡ true
  pub nothing_yet : cond (eqb state.taken 0) (nothing_taken state) true ≡ true

pub good_of : (state : State) → good_receiving_state state ≡ true → Good state
unfolding good_receiving_state
good_of state good =
    let six = and_both _ (cond (eqb state.taken 0) (nothing_taken state) true) good in
    let five = and_both _ (bits_then_zeros (held_count state.settings) state.held) six.0 in
    let four = and_both _ (bits_then_zeros (used_lines state.settings.v) state.lines) five.0 in
    let three = and_both _ (ltb state.register 64) four.0 in
    let two = and_both (eqb (starting state.settings) 0) (ltb state.taken 2) three.0 in
    record {
      legal = eqb-true (starting state.settings) 0 two.0;
      taken_few = ltb-true state.taken 2 two.1;
      register_few = ltb-true state.register 64 three.1;
      lines_in = four.1;
      held_in = five.1;
      nothing_yet = six.1;
    }

-- ---- a fresh state

pub fresh_good : (settings : Settings) → starting settings ≡ 0
    → good_receiving_state (fresh_receiving_state settings) ≡ true
fresh_good settings e =
    unfold good_receiving_state fresh_receiving_state nothing_taken in rw (
      eq-eqb (starting settings) 0 e,
      zeros_fine (used_lines settings.v) 360,
      zeros_fine (held_count settings) 3072,
      zeros_fine 0 1122,
      zeros_fine 0 360,
      zeros_fine 0 3072,
    ) refl
