-- Demand 3 for several packets of a frame.
--     several_are_coding_again     replacing them one after the other is coding the frame again with all of them
use mathlib.Core.Path.{◌≡◌, refl}
use mathlib.Core.List.{List, [], ◌∷◌}
use Prim.Native.Nat.{ℕ}
use Rattle.settings.specs.Sizes.{packets_of}
use Rattle.coding_state.specs.declared.State.{State}
use Rattle.coding_answers.specs.Coding.{coding, coded_into, state_coded}
use Rattle.coding_answers.specs.Packets.{with_packet, Exchange, AllFit, with_packets, ReplacedInARow}
use Rattle.coding_answers.specs.Calls.{Sized}
use Rattle.coding_answers.proofs.NewPacket.{coded_again, replacing_by_a_new_packet}

module _ (state : State) (sized : Sized state) (carriers : List ℕ) where
  -- Any number of replacements, of one packet more than once too.
  pub several_are_coding_again : (exchanges : List Exchange) → AllFit (packets_of state.settings) exchanges
      → (packets : List ℕ) → coding state packets carriers ≡ 0
      → ReplacedInARow packets (state_coded state packets carriers) (coded_into state packets carriers) exchanges
      (coded_into state (with_packets packets exchanges) carriers)
      (state_coded state (with_packets packets exchanges) carriers)
  unfolding with_packets
  several_are_coding_again [] fit packets first = (refl, refl)
  several_are_coding_again (exchange ∷ rest) fit packets first =
      let number = exchange.number in
      let new = exchange.packet in
      let own = fit.0 in
      let one = replacing_by_a_new_packet state packets carriers first number own.below new own.long own.begun
      sized in
      let again = coded_again state packets carriers first number own.below new own.long own.begun in (
        one.done,
        rw (one.state_is, one.carriers_are)
            (several_are_coding_again rest fit.1 (with_packet packets number new) again),
      )
