-- Replacing a packet by itself flips nothing, and replacing it back undoes it.
--     nothing_flips, state_stays         "Old equal to new flips nothing"
--     back_carriers, back_state          replacing and replacing back
use mathlib.Core.Path.{◌≡◌, refl, sym, ap, ap₂, ◌∙◌}
use mathlib.Core.List.{List}
use Prim.Native.Nat.{ℕ, ◌/◌, ◌%◌}
use native.Mathlib.Decide.{ℕ_discrete, dec_lt}
use native.Mathlib.Omega.{arith}
use lib.Bits.{bit_xor, xor_self, xor_comm, xor_zero_r}
use lib.ListN.{length, get_or, get_or-eq_default}
use Rattle.lists.specs.Tab.{tab}
use Rattle.lists.proofs.Tabs.{length_tab, get_d_tab, tab_ext, tab_cong}
use Rattle.lists.proofs.Xor.{xor_cancel}
use Rattle.settings.specs.declared.Settings.{Settings}
use Rattle.settings.specs.Sizes.{P, C}
use Rattle.settings.proofs.LegalSettings.{LegalBits}
use Rattle.rules.specs.Word.{sent_word}
use Rattle.rules.specs.Frame.{Frame, carrier_value, memory_behind, register_behind, lines_behind}
use Rattle.rules.proofs.Added.{added, carrier_added, memory_added, register_added, lines_added}
use Rattle.coding_state.specs.declared.State.{State}
use Rattle.coding_answers.specs.Replacement.{added_to, difference_word, difference_byte, difference_frame}
use Rattle.coding_answers.specs.Replacement.{replaced_carriers, replaced_state}
use Rattle.coding_answers.specs.Calls.{Sized}
use Rattle.coding_answers.proofs.Difference.{add_zeros, difference_own, difference_other}
use Rattle.coding_answers.proofs.Difference.{difference_alike, zeros_added}
use Rattle.coding_answers.proofs.Again.{lines_fit, difference_entries}

-- ---- old equal to new

-- a list that is the sum of itself and itself is zero throughout
no_entry : (size : ℕ) (list : List ℕ) → list ≡ added_to size list list → (k : ℕ) → get_or list k 0 ≡ 0
no_entry size list same k =
    ap (λ (l : List ℕ). get_or l k 0) same
    ∙ elim (dec_lt k size) [
      | yes h ↦ get_d_tab size twice k h ∙ xor_self (get_or list k 0)
      | no h ↦ get_or-eq_default (tab size twice) 0 {n = k} (rw (length_tab size twice) (omega arith))
    ]
  where
    twice : ℕ → ℕ
    twice k = bit_xor (get_or list k 0) (get_or list k 0)

module _ (settings : Settings) (bits : LegalBits settings.v) (number : ℕ) (packet : List ℕ) where
  abbrev none : Frame
  none = difference_frame settings number packet packet

  no_byte : (b : ℕ) → difference_byte number packet packet b ≡ 0
  no_byte b = elim (ℕ_discrete (b / 204) number) [
    | yes e ↦ difference_own number packet packet b e ∙ xor_self (get_or (sent_word packet) (b % 204) 0)
    | no ne ↦ difference_other number packet packet b ne
  ]

  -- the frame is the sum of itself and itself
  none_twice : none ≡ added none none
  unfolding difference_frame
  none_twice =
      let byte = difference_byte number packet packet in
      zeros_added settings byte byte byte (λ b. no_byte b ∙ sym (xor_self (byte b)))

  no_carrier : (k : ℕ) → carrier_value none k ≡ 0
  no_carrier k =
      unfold difference_frame in ap (λ (frame : Frame). carrier_value frame k) none_twice
      ∙ carrier_added none none refl refl (lines_fit bits) (difference_entries settings number packet packet)
      (difference_entries settings number packet packet) k ∙ xor_self (carrier_value none k)

  no_memory : (words k : ℕ) → get_or (memory_behind none words) k 0 ≡ 0
  no_memory words =
      no_entry 1122 (memory_behind none words)
      (ap (λ (frame : Frame). memory_behind frame words) none_twice ∙ memory_added none none words)

  no_register : (words : ℕ) → register_behind none words ≡ 0
  no_register words =
      ap (λ (frame : Frame). register_behind frame words) none_twice ∙ register_added none none words
      ∙ xor_self (register_behind none words)

  no_line : (carriers k : ℕ) → get_or (lines_behind none carriers) k 0 ≡ 0
  unfolding difference_frame
  no_line carriers =
      no_entry 360 (lines_behind none carriers) (ap (λ (frame : Frame). lines_behind frame carriers) none_twice
      ∙ lines_added none none refl refl (lines_fit bits) carriers)

  pub nothing_flips : (carriers : List ℕ) → replaced_carriers settings number packet packet carriers ≡ carriers
  unfolding replaced_carriers
  nothing_flips carriers =
      sym (tab_ext (length carriers) (λ k. bit_xor (get_or carriers k 0) (carrier_value none k)) carriers refl
      (λ k lt. sym (ap (bit_xor (get_or carriers k 0)) (no_carrier k) ∙ xor_zero_r (get_or carriers k 0))))

pub state_stays : (state : State) → LegalBits state.settings.v → Sized state → (number : ℕ) (packet : List ℕ)
    → replaced_state state number packet packet ≡ state
state_stays state bits sized number packet =
    unfold replaced_state in let settings = state.settings in
    let none = difference_frame settings number packet packet in
    rw (
      sym (add_zeros 1122 state.memory (memory_behind none (P settings)) sized.memory_long
          (no_memory settings bits number packet (P settings))),
      no_register settings bits number packet (P settings),
      xor_zero_r state.register,
      sym (add_zeros 360 state.lines (lines_behind none (C settings)) sized.lines_long
          (no_line settings bits number packet (C settings))),
    ) refl

-- ---- replacing back

-- the words differ by the same, whichever is the old one
difference_back : (settings : Settings) (number : ℕ) (old new : List ℕ)
    → difference_frame settings number new old ≡ difference_frame settings number old new
unfolding difference_word
difference_back settings number old new =
    difference_alike settings number new old old new
    (tab_cong 204 (λ k. bit_xor (get_or (sent_word new) k 0) (get_or (sent_word old) k 0))
    (λ k. bit_xor (get_or (sent_word old) k 0) (get_or (sent_word new) k 0))
    (λ k lt. xor_comm (get_or (sent_word new) k 0) (get_or (sent_word old) k 0)))

-- a list of its own length, with the same added twice
twice_added : (size : ℕ) (list : List ℕ) (other : ℕ → ℕ) → length list ≡ size
    → tab size (λ k. bit_xor (get_or (tab size (λ k. bit_xor (get_or list k 0) (other k))) k 0) (other k)) ≡ list
twice_added size list other long =
    sym (tab_ext size (λ k. bit_xor (get_or (tab size once) k 0) (other k)) list long
    (λ k lt. sym (ap (λ (x : ℕ). bit_xor x (other k)) (get_d_tab size once k lt) ∙ xor_cancel (get_or list k 0)
    (other k))))
  where
    once : ℕ → ℕ
    once k = bit_xor (get_or list k 0) (other k)

pub back_carriers : (settings : Settings) (number : ℕ) (old new carriers : List ℕ)
    → replaced_carriers settings number new old (replaced_carriers settings number old new carriers) ≡ carriers
unfolding replaced_carriers
back_carriers settings number old new carriers =
    ap₂ (λ (n : ℕ) (frame : Frame). tab n (λ k. bit_xor (get_or (tab (length carriers) once) k 0)
    (carrier_value frame k)))
    (length_tab (length carriers) once) (difference_back settings number old new)
    ∙ twice_added (length carriers) carriers (carrier_value (difference_frame settings number old new)) refl
  where
    once : ℕ → ℕ
    once k = bit_xor (get_or carriers k 0) (carrier_value (difference_frame settings number old new) k)

pub back_state : (state : State) → Sized state → (number : ℕ) (old new : List ℕ)
    → replaced_state (replaced_state state number old new) number new old ≡ state
back_state state sized number old new =
    unfold replaced_state in let settings = state.settings in
    let difference = difference_frame settings number old new in
    rw (
      difference_back settings number old new,
      twice_added 1122 state.memory (λ k. get_or (memory_behind difference (P settings)) k 0) sized.memory_long,
      xor_cancel state.register (register_behind difference (P settings)),
      twice_added 360 state.lines (λ k. get_or (lines_behind difference (C settings)) k 0) sized.lines_long,
    ) refl
