-- What an answer of 0 to `code` says. The refusals are those of Refusals.
--     Accepted, accepted_of     every test is passed
--     answers_0                 and where all are passed, the answer is 0
use mathlib.Core.Path.{◌≡◌, refl}
use mathlib.Core.Bool.{true}
use mathlib.Core.List.{List}
use Prim.Native.Nat.{ℕ, ◌*◌}
use lib.Dec.{eqb}
use lib.ListN.{length}
use borrow.Author.Tests.{eq-eqb, eqb-true}
use Rattle.settings.specs.Sizes.{packets_of, carriers_of}
use Rattle.settings.proofs.Refusals.{passed}
use Rattle.coding_state.specs.declared.State.{State}
use Rattle.coding_state.specs.State.{good_coding_state}
use Rattle.coding_answers.specs.Coding.{all_begin, coding}

pub record Accepted (state : State) (packets carriers : List ℕ) : Type 0 where
  pub good : good_coding_state state ≡ true
  pub long : length packets ≡ 188 * packets_of state.settings
  pub room : length carriers ≡ carriers_of state.settings
  pub begun : all_begin (packets_of state.settings) packets ≡ true

module _ (state : State) (packets carriers : List ℕ) where
  pub accepted_of : coding state packets carriers ≡ 0 → Accepted state packets carriers
  accepted_of e =
      unfold coding in let good = passed 6 (good_coding_state state) _ e in
      let long = passed 4 (eqb (length packets) (188 * packets_of state.settings)) _ good.1 in
      let room = passed 5 (eqb (length carriers) (carriers_of state.settings)) _ long.1 in
      record {
        good = good.0;
        long = eqb-true (length packets) (188 * packets_of state.settings) long.0;
        room = eqb-true (length carriers) (carriers_of state.settings) room.0;
        begun = (passed 7 (all_begin (packets_of state.settings) packets) 0 room.1).0;
      }

  pub answers_0 : Accepted state packets carriers → coding state packets carriers ≡ 0
  answers_0 all =
      unfold coding in rw (
        all.good,
        eq-eqb (length packets) (188 * packets_of state.settings) all.long,
        eq-eqb (length carriers) (carriers_of state.settings) all.room,
        all.begun,
      ) refl
