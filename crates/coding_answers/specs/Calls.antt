-- What a call of a replacement leaves; in a layer of a record, Records.antt.
--     Sized         a state as the code has it: its arrays have their lengths
--     Replaces      the entry is done, and leaves these carriers and this state
--     AlteredBy     a new packet by which a replacement lists a carrier, and alters it
use Rattle.std.specs.Prelude.{◌≡◌, true, List, ℕ, ◌<◌, length, get_or}
use Rattle.settings.specs.declared.Settings.{Settings}
use Rattle.coding_state.specs.declared.State.{State}
use Rattle.coding_answers.specs.Replacement.{begins, replaced_carriers, replacing, replaced_into, state_replaced}
use Rattle.coding_answers.specs.Listed.{Listed}

pub record Sized (state : State) : Type 0 where
  pub memory_long : length state.memory ≡ 1122
  pub lines_long : length state.lines ≡ 360

pub record Replaces (state : State) (carriers : List ℕ) (number : ℕ) (old new carriers' : List ℕ) (after : State)
    : Type 0 where
  pub done : replacing state carriers number old new ≡ 0
  pub carriers_are : replaced_into state carriers number old new ≡ carriers'
  pub state_is : state_replaced state carriers number old new ≡ after

pub record AlteredBy (settings : Settings) (number : ℕ) (old : List ℕ) (carrier : ℕ) : Type 0 where
  pub new : List ℕ
  pub long : length new ≡ 188
  pub begun : begins new ≡ true
  pub bytes : (k : ℕ) → get_or new k 0 < 256
  pub listed : Listed settings number old new carrier
  pub alters : (carriers : List ℕ) → carrier < length carriers
      → get_or (replaced_carriers settings number old new carriers) carrier 0 ≡ get_or carriers carrier 0 → ⊥
