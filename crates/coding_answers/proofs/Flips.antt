-- A replacement adds a frame to carriers and to a state: what such flips do one after the other.
--     flipped_carriers, flipped_state    carriers and a state, with a frame's added
--     carriers_flipped, state_flipped    a replacement adds the difference frame's
--     carriers_alike, state_alike        packets that differ alike flip alike
--     carriers_order, state_order        two flips commute
--     carriers_joined, state_joined      two flips are one, by the sum of the frames
use mathlib.Core.Path.{◌≡◌, refl, sym, ap, ◌∙◌}
use mathlib.Core.List.{List}
use Prim.Native.Nat.{ℕ, ◌<◌, ◌≤◌}
use lib.Bits.{bit_xor, xor_comm}
use lib.ListN.{length, get_or}
use Rattle.lists.specs.Tab.{tab}
use Rattle.lists.proofs.Tabs.{length_tab, get_d_tab, tab_cong}
use Rattle.lists.proofs.Xor.{xor_assoc}
use Rattle.settings.specs.declared.Settings.{Settings}
use Rattle.settings.specs.Sizes.{P, C}
use Rattle.rules.specs.Bits.{first_entry}
use Rattle.rules.proofs.Added.{added, carrier_added, memory_added, register_added, lines_added}
use Rattle.rules.specs.Frame.{Frame, carrier_value, memory_behind, register_behind, lines_behind}
use Rattle.coding_state.specs.declared.State.{State}
use Rattle.coding_answers.specs.Replacement.{added_to, difference_word, difference_frame}
use Rattle.coding_answers.specs.Replacement.{replaced_carriers, replaced_state}
use Rattle.coding_answers.proofs.Difference.{difference_alike}

unfoldable pub flipped_carriers : Frame → List ℕ → List ℕ
flipped_carriers frame carriers = tab (length carriers) (λ k. bit_xor (get_or carriers k 0) (carrier_value frame k))

unfoldable pub flipped_state : Frame → State → State
flipped_state frame state =
    record {
      settings = state.settings;
      memory = added_to 1122 state.memory (memory_behind frame (P state.settings));
      register = bit_xor state.register (register_behind frame (P state.settings));
      lines = added_to 360 state.lines (lines_behind frame (C state.settings));
    }

-- ---- replacements

module _ (number : ℕ) (old new : List ℕ) where
  pub carriers_flipped : (settings : Settings) (carriers : List ℕ)
      → replaced_carriers settings number old new carriers
      ≡ flipped_carriers (difference_frame settings number old new) carriers
  carriers_flipped settings carriers = unfold replaced_carriers flipped_carriers in refl

  pub state_flipped : (state : State)
      → replaced_state state number old new ≡ flipped_state (difference_frame state.settings number old new) state
  state_flipped state = unfold replaced_state flipped_state in refl

  module _ (one two : List ℕ) (same : difference_word one two ≡ difference_word old new) where
    pub carriers_alike : (settings : Settings) (carriers : List ℕ)
        → replaced_carriers settings number one two carriers ≡ replaced_carriers settings number old new carriers
    unfolding replaced_carriers flipped_carriers
    carriers_alike settings carriers =
        ap (λ (frame : Frame). flipped_carriers frame carriers) (difference_alike settings number one two old new same)

    pub state_alike : (state : State) → replaced_state state number one two ≡ replaced_state state number old new
    unfolding replaced_state flipped_state
    state_alike state =
        ap (λ (frame : Frame). flipped_state frame state)
        (difference_alike state.settings number one two old new same)

-- ---- one after the other

xor_order : (a b c : ℕ) → bit_xor (bit_xor a b) c ≡ bit_xor (bit_xor a c) b
xor_order a b c = xor_assoc a b c ∙ ap (bit_xor a) (xor_comm b c) ∙ sym (xor_assoc a c b)

-- a list with two rules' numbers added, in either order, and at once
list_order : (size : ℕ) (list : List ℕ) (one two : ℕ → ℕ)
    → tab size (λ k. bit_xor (get_or (tab size (λ k. bit_xor (get_or list k 0) (one k))) k 0) (two k))
    ≡ tab size (λ k. bit_xor (get_or (tab size (λ k. bit_xor (get_or list k 0) (two k))) k 0) (one k))
list_order size list one two =
    tab_cong size _ _ (λ k lt. ap (λ (x : ℕ). bit_xor x (two k)) (get_d_tab size _ k lt)
    ∙ xor_order (get_or list k 0) (one k) (two k) ∙ sym (ap (λ (x : ℕ). bit_xor x (one k)) (get_d_tab size _ k lt)))

list_joined : (size : ℕ) (list : List ℕ) (one two both : ℕ → ℕ)
    → ((k : ℕ) → k < size → both k ≡ bit_xor (one k) (two k))
    → tab size (λ k. bit_xor (get_or (tab size (λ k. bit_xor (get_or list k 0) (one k))) k 0) (two k))
    ≡ tab size (λ k. bit_xor (get_or list k 0) (both k))
list_joined size list one two both is =
    tab_cong size _ _ (λ k lt. ap (λ (x : ℕ). bit_xor x (two k)) (get_d_tab size _ k lt)
    ∙ xor_assoc (get_or list k 0) (one k) (two k) ∙ sym (ap (bit_xor (get_or list k 0)) (is k lt)))

module _ (one two : Frame) where
  carriers_twice : (carriers : List ℕ) → flipped_carriers two (flipped_carriers one carriers)
      ≡ tab (length carriers) (λ k. bit_xor (get_or (flipped_carriers one carriers) k 0) (carrier_value two k))
  unfolding flipped_carriers
  carriers_twice carriers =
      ap (λ (n : ℕ). tab n (λ k. bit_xor (get_or (flipped_carriers one carriers) k 0) (carrier_value two k)))
      (length_tab (length carriers) _)

module _ (one two : Frame) where
  pub carriers_order : (carriers : List ℕ)
      → flipped_carriers two (flipped_carriers one carriers) ≡ flipped_carriers one (flipped_carriers two carriers)
  unfolding flipped_carriers
  carriers_order carriers =
      carriers_twice one two carriers
      ∙ list_order (length carriers) carriers (carrier_value one) (carrier_value two)
      ∙ sym (carriers_twice two one carriers)

  pub state_order : (state : State)
      → flipped_state two (flipped_state one state) ≡ flipped_state one (flipped_state two state)
  state_order state =
      unfold flipped_state in let words = P state.settings in
      let carriers = C state.settings in
      rw (
        list_order 1122 state.memory (λ k. get_or (memory_behind one words) k 0)
            (λ k. get_or (memory_behind two words) k 0),
        xor_order state.register (register_behind one words) (register_behind two words),
        list_order 360 state.lines (λ k. get_or (lines_behind one carriers) k 0)
            (λ k. get_or (lines_behind two carriers) k 0),
      ) refl

  module _ (one-rate : two.rate ≡ one.rate) (one-v : two.v ≡ one.v)
      (fits : first_entry one.v one.v ≤ 360) where
    pub carriers_joined : ((k : ℕ) → get_or one.lines k 0 < 2) → ((k : ℕ) → get_or two.lines k 0 < 2)
        → (carriers : List ℕ)
        → flipped_carriers two (flipped_carriers one carriers) ≡ flipped_carriers (added one two) carriers
    unfolding flipped_carriers
    carriers_joined bits-one bits-two carriers =
        carriers_twice one two carriers
        ∙ list_joined (length carriers) carriers (carrier_value one) (carrier_value two) (carrier_value (added one two))
        (λ k lt. carrier_added one two one-rate one-v fits bits-one bits-two k)

    pub state_joined : (state : State)
        → flipped_state two (flipped_state one state) ≡ flipped_state (added one two) state
    state_joined state =
        unfold flipped_state in let words = P state.settings in
        let carriers = C state.settings in
        rw (
          list_joined 1122 state.memory (λ k. get_or (memory_behind one words) k 0)
              (λ k. get_or (memory_behind two words) k 0) (λ k. get_or (memory_behind (added one two) words) k 0)
              (λ k lt. ap (λ (l : List ℕ). get_or l k 0) (memory_added one two words) ∙ get_d_tab 1122 _ k lt),
          xor_assoc state.register (register_behind one words) (register_behind two words),
          register_added one two words,
          list_joined 360 state.lines (λ k. get_or (lines_behind one carriers) k 0)
              (λ k. get_or (lines_behind two carriers) k 0) (λ k. get_or (lines_behind (added one two) carriers) k 0)
              (λ k lt. ap (λ (l : List ℕ). get_or l k 0) (lines_added one two one-rate one-v fits carriers)
              ∙ get_d_tab 360 _ k lt),
        ) refl
