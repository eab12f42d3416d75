-- The packets of a frame, one of them exchanged for another or several, and what is left where a wrong packet is named
-- as old.
--     with_packet             the frame's packets with that one another
--     sum_of_three            the packet coded, the one named as old and the new one, added byte by byte
--     Exchange, Fit           a packet's number and the new packet; one that fits the frame
--     AllFit, with_packets    a list of them; the frame's packets with all of them exchanged
--     ReplacedInARow          calls in a row, each of which names as old the packet that is then coded
use Rattle.std.specs.Prelude.{◌≡◌, true, cond, List, [], ◌∷◌, ℕ, ◌/◌, ◌%◌, ◌<◌, eqb, length, get_or}
use Rattle.lists.specs.Tab.{tab}
use Rattle.rules.specs.Word.{packet_at}
use Rattle.coding_state.specs.declared.State.{State}
use Rattle.coding_answers.specs.Replacement.{added_to, begins, replacing, replaced_into, state_replaced}

-- "coding the frame again with the new packet": each of a frame's packets is 188 bytes
unfoldable pub with_packet : List ℕ → ℕ → List ℕ → List ℕ
with_packet packets number new =
    tab (length packets) (λ k. cond (eqb (k / 188) number) (get_or new (k % 188) 0) (get_or packets k 0))

-- The letter: "the difference of old and new packet fell on another packet", the one that was coded there.
unfoldable pub sum_of_three : List ℕ → List ℕ → List ℕ → List ℕ
sum_of_three coded old new = added_to 188 (added_to 188 coded old) new

pub record Exchange : Type 0 where
  pub number : ℕ
  pub packet : List ℕ

-- its number is below P, and "the new one too begins with 47"
pub record Fit (count : ℕ) (exchange : Exchange) : Type 0 where
  pub below : exchange.number < count
  pub long : length exchange.packet ≡ 188
  pub begun : begins exchange.packet ≡ true

abbrev pub AllFit : ℕ → List Exchange → Type 0
AllFit count [] = Unit {0}
AllFit count (exchange ∷ rest) = Fit count exchange × AllFit count rest

unfoldable pub with_packets : List ℕ → List Exchange → List ℕ
with_packets packets [] = packets
with_packets packets (exchange ∷ rest) = with_packets (with_packet packets exchange.number exchange.packet) rest

-- From a frame of such packets, its carriers and the state behind it, each call is done, "the packet named as old is
-- the one that was coded", and the last leaves these carriers and this state.
abbrev pub ReplacedInARow : List ℕ → State → List ℕ → List Exchange → List ℕ → State → Type 0
ReplacedInARow packets state carriers [] carriers' after = (carriers ≡ carriers') × (state ≡ after)
ReplacedInARow packets state carriers (exchange ∷ rest) carriers' after =
    let number = exchange.number in
    let old = packet_at packets number in
    let new = exchange.packet in
    (replacing state carriers number old new ≡ 0)
    × ReplacedInARow (with_packet packets number new) (state_replaced state carriers number old new)
    (replaced_into state carriers number old new) rest carriers' after
