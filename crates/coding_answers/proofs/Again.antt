-- Demand 3: replacing a packet is coding the frame again with the new packet.
--     lines_fit     the lines of legal settings fit into 360 entries
--     difference_entries     the difference frame's lines are empty at the start
--     carriers_again     "both are then equal to coding the frame again with the new packet": the carriers
--     state_again     and the state left behind
--     carrier_flips, memory_flips, register_flips, lines_flips     which bits the two frames differ in
use mathlib.Core.Path.{◌≡◌, refl, sym, ap, ◌∙◌}
use mathlib.Core.Bool.{true, false}
use mathlib.Core.List.{List}
use Prim.Native.Nat.{ℕ, ◌<◌, ◌≤◌}
use native.Mathlib.Omega.{arith}
use lib.Bits.{bit_xor}
use lib.ListN.{get_or}
use Rattle.lists.specs.Tab.{tab}
use Rattle.lists.proofs.Tabs.{length_tab, get_d_tab, tab_cong}
use Rattle.settings.specs.declared.Settings.{Settings}
use Rattle.settings.specs.Sizes.{P, C}
use Rattle.settings.proofs.LegalSettings.{LegalBits, qpsk, qam16, qam64}
use Rattle.rules.specs.Word.{packet_at}
use Rattle.rules.specs.Bits.{first_entry}
use Rattle.rules.proofs.Shown.{start_zero}
use Rattle.rules.proofs.Widths.{fits_two, fits_four, fits_six}
use Rattle.rules.specs.Frame.{Frame, carrier_value, memory_behind, register_behind, lines_behind}
use Rattle.rules.proofs.Added.{added, carrier_added, memory_added, register_added, lines_added}
use Rattle.coding_state.specs.declared.State.{State}
use Rattle.coding_state.specs.State.{good_coding_state}
use Rattle.coding_answers.specs.Coding.{frame_of, carriers_of_frame, coding_state_behind}
use Rattle.coding_state.proofs.Good.{Given, given_of_is}
use Rattle.coding_answers.specs.Listed.{DifferOnlyIn}
use Rattle.coding_answers.specs.Replacement.{added_to, difference_frame, replaced_carriers, replaced_state}
use Rattle.coding_answers.specs.Calls.{Sized}
use Rattle.coding_answers.proofs.Difference.{add_difference, frames_differ}

pub lines_fit : {v : ℕ} → LegalBits v → first_entry v v ≤ 360
lines_fit qpsk = (fits_two false).room
lines_fit qam16 = (fits_four false).room
lines_fit qam64 = (fits_six false).room

pub difference_entries : (settings : Settings) (number : ℕ) (old new : List ℕ) (k : ℕ)
    → get_or (difference_frame settings number old new).lines k 0 < 2
difference_entries settings number old new k = unfold difference_frame in rw (start_zero k) (omega arith)

-- what one list differs from its sum with another by
entry_flips : (size : ℕ) (one two sum : List ℕ) → sum ≡ added_to size one two → (k : ℕ) → k < size
    → bit_xor (get_or one k 0) (get_or sum k 0) ≡ get_or two k 0
entry_flips size one two sum e k lt =
    ap (λ (l : List ℕ). bit_xor (get_or one k 0) (get_or l k 0)) e
    ∙ ap (bit_xor (get_or one k 0)) (get_d_tab size (λ k. bit_xor (get_or one k 0) (get_or two k 0)) k lt)
    ∙ add_difference (get_or one k 0) (get_or two k 0)

module _ (state : State) (good : good_coding_state state ≡ true) (sized : Sized state)
    (number : ℕ) (packets packets' : List ℕ) (differ : DifferOnlyIn number packets packets') where
  abbrev settings : Settings
  settings = state.settings

  -- "the packet named as old is the one that was coded"
  abbrev old : List ℕ
  old = packet_at packets number

  abbrev new : List ℕ
  new = packet_at packets' number

  abbrev coded : Frame
  coded = frame_of state packets

  abbrev difference : Frame
  difference = difference_frame settings number old new

  given : Given state
  given = given_of_is state good

  again : frame_of state packets' ≡ added coded difference
  again = frames_differ number packets packets' differ state sized

  -- a carrier of the one frame is the other's, with the difference's added
  pub carrier_again : (k : ℕ)
      → carrier_value (frame_of state packets') k ≡ bit_xor (carrier_value coded k) (carrier_value difference k)
  carrier_again k =
      unfold frame_of difference_frame in ap (λ (frame : Frame). carrier_value frame k) again
      ∙ carrier_added coded difference refl refl (lines_fit given.legal.bits) given.entries
      (difference_entries settings number old new) k

  pub carriers_again
      : replaced_carriers settings number old new (carriers_of_frame state packets) ≡ carriers_of_frame state packets'
  unfolding replaced_carriers carriers_of_frame
  carriers_again =
      ap (λ (n : ℕ). tab n replaced) (length_tab (C settings) (carrier_value coded))
      ∙ tab_cong (C settings) replaced (carrier_value (frame_of state packets')) (λ k lt.
      ap (λ (x : ℕ). bit_xor x (carrier_value difference k)) (get_d_tab (C settings) (carrier_value coded) k lt)
      ∙ sym (carrier_again k))
    where
      replaced : ℕ → ℕ
      replaced k = bit_xor (get_or (tab (C settings) (carrier_value coded)) k 0) (carrier_value difference k)

  lines_again : lines_behind (added coded difference) (C settings)
      ≡ added_to 360 (lines_behind coded (C settings)) (lines_behind difference (C settings))
  unfolding frame_of difference_frame
  lines_again = lines_added coded difference refl refl (lines_fit given.legal.bits) (C settings)

  pub state_again : replaced_state (coding_state_behind state packets) number old new
      ≡ coding_state_behind state packets'
  unfolding replaced_state coding_state_behind
  state_again =
      sym (ap behind again
      ∙ rw (
        memory_added coded difference (P settings),
        register_added coded difference (P settings),
        lines_again,
      ) refl)
    where
      behind : Frame → State
      behind frame =
          record {
            settings = settings;
            memory = memory_behind frame (P settings);
            register = register_behind frame (P settings);
            lines = lines_behind frame (C settings);
          }

  -- "It flips exactly those carrier bits and state bits in which two frames, coded from one state and differing only in
  -- that packet, would differ; which bits these are doesn't depend on the other packets": the difference frame is made
  -- of the settings, the packet's number, the old packet and the new one, and of nothing else.

  pub carrier_flips : (k : ℕ)
      → bit_xor (carrier_value (frame_of state packets) k) (carrier_value (frame_of state packets') k)
      ≡ carrier_value (difference_frame settings number old new) k
  carrier_flips k =
      ap (bit_xor (carrier_value coded k)) (carrier_again k)
      ∙ add_difference (carrier_value coded k) (carrier_value difference k)

  pub register_flips
      : bit_xor (coding_state_behind state packets).register (coding_state_behind state packets').register
      ≡ register_behind (difference_frame settings number old new) (P settings)
  unfolding coding_state_behind
  register_flips =
      ap (bit_xor (register_behind coded (P settings)))
      (ap (λ (frame : Frame). register_behind frame (P settings)) again ∙ register_added coded difference (P settings))
      ∙ add_difference (register_behind coded (P settings)) (register_behind difference (P settings))

  pub memory_flips : (k : ℕ) → k < 1122 → bit_xor (get_or (coding_state_behind state packets).memory k 0)
      (get_or (coding_state_behind state packets').memory k 0)
      ≡ get_or (memory_behind (difference_frame settings number old new) (P settings)) k 0
  unfolding coding_state_behind
  memory_flips k lt =
      entry_flips 1122 (memory_behind coded (P settings)) (memory_behind difference (P settings))
      (memory_behind (frame_of state packets') (P settings))
      (ap (λ (frame : Frame). memory_behind frame (P settings)) again ∙ memory_added coded difference (P settings)) k lt

  pub lines_flips : (k : ℕ) → k < 360
      → bit_xor (get_or (coding_state_behind state packets).lines k 0) (get_or (coding_state_behind state
      packets').lines k 0)
      ≡ get_or (lines_behind (difference_frame settings number old new) (C settings)) k 0
  unfolding coding_state_behind
  lines_flips k lt =
      entry_flips 360 (lines_behind coded (C settings)) (lines_behind difference (C settings))
      (lines_behind (frame_of state packets') (C settings))
      (ap (λ (frame : Frame). lines_behind frame (C settings)) again ∙ lines_again) k lt
