-- What a good state says.
--     Given, given_of_is           its settings are legal, and the entries of its lines 0 or 1
--     good_legal                   its settings are legal
--     packets_are, carriers_are    its P and C
--     fresh_good, zero_not_good    a fresh state is good, and the all-zero state isn't
use mathlib.Core.Path.{◌≡◌, refl}
use mathlib.Core.Bool.{true, false, ◌&&◌}
use Prim.Native.Nat.{ℕ, ◌<◌, ◌≤◌}
use lib.Dec.{eqb, ltb}
use lib.ListN.{get_or}
use borrow.Author.Tests.{eq-eqb, eqb-true}
use Rattle.lists.proofs.Bools.{and_both}
use Rattle.lists.specs.Tests.{between}
use Rattle.lists.proofs.BitEntries.{bit_few, bits_at, zeros_fine}
use Rattle.settings.specs.declared.Settings.{Settings}
use Rattle.settings.specs.Legal.{starting}
use Rattle.settings.specs.Sizes.{P, C, packets_of, carriers_of}
use Rattle.settings.proofs.LegalSettings.{Legal, legal_settings}
use Rattle.settings.proofs.Frame.{frame_of_is}
use Rattle.rules.specs.Bits.{lines_at_start, used_lines}
use Rattle.coding_state.specs.declared.State.{State}
use Rattle.coding_state.specs.State.{fresh_coding_state, zero_coding_state, good_coding_state}

-- what a good state says, for the proof
pub record Given (state : State) : Type 0 where
  pub legal : Legal state.settings
  pub entries : (k : ℕ) → get_or state.lines k 0 < 2
  pub most : C state.settings ≤ 1018368

pub given_of_is : (state : State) → good_coding_state state ≡ true → Given state
unfolding good_coding_state
given_of_is state good =
    let tests = and_both (eqb (starting state.settings) 0 && ltb state.register 64) _ good in
    let start = eqb-true (starting state.settings) 0 (and_both _ _ tests.0).0 in
    record {
      legal = legal_settings state.settings start;
      entries = λ k. bit_few _ state.lines k (bits_at _ state.lines tests.1 k);
      most = (frame_of_is state.settings start).carriers_most;
    }

pub good_legal : (state : State) → good_coding_state state ≡ true → starting state.settings ≡ 0
good_legal state good =
    unfold good_coding_state in eqb-true (starting state.settings) 0
    (and_both _ _ (and_both (eqb (starting state.settings) 0 && ltb state.register 64) _ good).0).0

pub packets_are : (state : State) → good_coding_state state ≡ true → packets_of state.settings ≡ P state.settings
unfolding packets_of
packets_are state good = rw (eq-eqb (starting state.settings) 0 (good_legal state good)) refl

pub carriers_are : (state : State) → good_coding_state state ≡ true → carriers_of state.settings ≡ C state.settings
unfolding carriers_of
carriers_are state good = rw (eq-eqb (starting state.settings) 0 (good_legal state good)) refl

-- ---- a fresh state

pub fresh_good : (settings : Settings) → starting settings ≡ 0 → good_coding_state (fresh_coding_state settings) ≡ true
unfolding good_coding_state fresh_coding_state lines_at_start
fresh_good settings e = rw (eq-eqb (starting settings) 0 e, zeros_fine (used_lines settings.v) 360) refl

-- "A refused start gives the all-zero state, which is not good."
pub zero_not_good : good_coding_state zero_coding_state ≡ false
zero_not_good = unfold good_coding_state zero_coding_state fresh_coding_state starting between in refl
