-- Two replacements, one after the other.
--     answer_stays             what a replacement answers doesn't depend on one before it
--     replacements_commute     in either order they leave the same carriers and the same state
--     through_the_middle       from old to another packet and from that to new is from old to new
use mathlib.Core.Path.{◌≡◌, refl, sym, ap, ap₂, ◌∙◌}
use mathlib.Core.List.{List}
use Prim.Native.Nat.{ℕ, ◌/◌, ◌%◌}
use native.Mathlib.Decide.{ℕ_discrete}
use lib.Bits.{bit_xor}
use lib.ListN.{get_or}
use Rattle.lists.proofs.Xor.{xor_middle}
use Rattle.settings.specs.declared.Settings.{Settings}
use Rattle.settings.proofs.LegalSettings.{legal_settings}
use Rattle.rules.specs.Word.{sent_word}
use Rattle.rules.specs.Frame.{Frame}
use Rattle.rules.proofs.Added.{added}
use Rattle.coding_state.specs.declared.State.{State}
use Rattle.coding_state.proofs.Good.{good_legal}
use Rattle.coding_answers.specs.Replacement.{difference_byte, difference_frame, replaced_carriers, replaced_state}
use Rattle.coding_answers.specs.Replacement.{replacing, replaced_into, state_replaced}
use Rattle.coding_answers.specs.Calls.{Replaces}
use Rattle.coding_answers.proofs.Again.{lines_fit, difference_entries}
use Rattle.coding_answers.proofs.Difference.{difference_own, difference_other, zeros_added}
use Rattle.coding_answers.proofs.Flips.{flipped_carriers, flipped_state, carriers_flipped, state_flipped}
use Rattle.coding_answers.proofs.Flips.{carriers_order, state_order, carriers_joined, state_joined}
use Rattle.coding_answers.proofs.Replacements.{Accepted, accepted_of, answers_0, replaces}
use Rattle.coding_answers.proofs.Replacements.{accepted_with, refused_stays, length_replaced}
use Rattle.coding_answers.proofs.StaysGood.{replaced_good, replaced_in_range}

module _ (state : State) (carriers : List ℕ) (number : ℕ) (old new : List ℕ) (number' : ℕ) (old' new' : List ℕ) where
  -- what the first call leaves
  abbrev left : State
  left = state_replaced state carriers number old new

  abbrev shown : List ℕ
  shown = replaced_into state carriers number old new

  answer_after : Accepted state carriers number old new
      → replacing (replaced_state state number old new) (replaced_carriers state.settings number old new carriers)
      number' old' new' ≡ replacing state carriers number' old' new'
  unfolding replacing replaced_state
  answer_after all =
      rw (
        replaced_good state all.good number old new,
        all.good,
        length_replaced state.settings number old new carriers,
        replaced_in_range state.settings number old new carriers all.ranged,
        all.ranged,
      ) refl

  -- A replacement leaves every answer to another as it was.
  pub answer_stays
      : replacing (state_replaced state carriers number old new) (replaced_into state carriers number old new)
      number' old' new' ≡ replacing state carriers number' old' new'
  answer_stays = elim (ℕ_discrete (replacing state carriers number old new) 0) [
    | no ne ↦
        let stay = refused_stays state carriers number old new ne in
        ap₂ (λ (s : State) (c : List ℕ). replacing s c number' old' new') stay.1 stay.0
    | yes e ↦
        let is = replaces state carriers number old new e in
        ap₂ (λ (s : State) (c : List ℕ). replacing s c number' old' new') is.state_is is.carriers_are
        ∙ answer_after (accepted_of state carriers number old new e)
  ]

  abbrev one : Frame
  one = difference_frame state.settings number old new

  abbrev two : Frame
  two = difference_frame state.settings number' old' new'

  -- two calls that are done add both difference frames
  both_done : replacing state carriers number old new ≡ 0 → replacing state carriers number' old' new' ≡ 0
      → Replaces left shown number' old' new' (flipped_carriers two (flipped_carriers one carriers))
      (flipped_state two (flipped_state one state))
  both_done e f =
      let is = replaces state carriers number old new e in
      let then = replaces left shown number' old' new' (answer_stays ∙ f) in
      let first-state : left ≡ flipped_state one state = is.state_is ∙ state_flipped number old new state in
      let settings = ap (λ (s : State). s.settings) first-state ∙ same_settings in
      record {
        done = then.done;
        carriers_are = then.carriers_are ∙ carriers_flipped number' old' new' left.settings shown
            ∙ ap₂ (λ (s : Settings) (c : List ℕ). flipped_carriers (difference_frame s number' old' new') c) settings
            (is.carriers_are ∙ carriers_flipped number old new state.settings carriers);
        state_is = then.state_is ∙ state_flipped number' old' new' left
            ∙ ap₂ (λ (s : Settings) (x : State). flipped_state (difference_frame s number' old' new') x) settings
            first-state;
      }
    where
      same_settings : (flipped_state one state).settings ≡ state.settings
      same_settings = unfold flipped_state in refl

  -- a call that is refused before another is refused after it too
  refused_later : (replacing state carriers number' old' new' ≡ 0 → ⊥)
      → (replaced_into left shown number' old' new' ≡ shown) × (state_replaced left shown number' old' new' ≡ left)
  refused_later ne = refused_stays left shown number' old' new' (λ e. ne (sym answer_stays ∙ e))

-- ---- in either order

module _ (state : State) (carriers : List ℕ) (number : ℕ) (old new : List ℕ) (number' : ℕ) (old' new' : List ℕ) where
  -- what each call leaves where it is the first
  abbrev left₁ : State
  left₁ = state_replaced state carriers number old new

  abbrev shown₁ : List ℕ
  shown₁ = replaced_into state carriers number old new

  abbrev left₂ : State
  left₂ = state_replaced state carriers number' old' new'

  abbrev shown₂ : List ℕ
  shown₂ = replaced_into state carriers number' old' new'

  -- Whatever the two replacements are, and whichever are refused.
  pub replacements_commute
      : (replaced_into (state_replaced state carriers number old new) (replaced_into state carriers number old new)
      number' old' new'
      ≡ replaced_into (state_replaced state carriers number' old' new') (replaced_into state carriers number' old' new')
      number old new)
      × (state_replaced (state_replaced state carriers number old new) (replaced_into state carriers number old new)
      number' old' new'
      ≡ state_replaced (state_replaced state carriers number' old' new')
      (replaced_into state carriers number' old' new')
      number old new)
  replacements_commute =
      go (ℕ_discrete (replacing state carriers number old new) 0)
      (ℕ_discrete (replacing state carriers number' old' new') 0)
    where
      go : Dec (replacing state carriers number old new ≡ 0) → Dec (replacing state carriers number' old' new' ≡ 0)
          → (replaced_into left₁ shown₁ number' old' new' ≡ replaced_into left₂ shown₂ number old new)
          × (state_replaced left₁ shown₁ number' old' new' ≡ state_replaced left₂ shown₂ number old new)
      go (yes e) (yes f) =
          let here = both_done state carriers number old new number' old' new' e f in
          let there = both_done state carriers number' old' new' number old new f e in
          let one = difference_frame state.settings number old new in
          let two = difference_frame state.settings number' old' new' in (
            here.carriers_are ∙ carriers_order one two carriers ∙ sym there.carriers_are,
            here.state_is ∙ state_order one two state ∙ sym there.state_is,
          )
      go (no ne) f =
          let stays = refused_stays state carriers number old new ne in
          let later = refused_later state carriers number' old' new' number old new ne in (
            ap₂ (λ (s : State) (c : List ℕ). replaced_into s c number' old' new') stays.1 stays.0
                ∙ sym later.0,
            ap₂ (λ (s : State) (c : List ℕ). state_replaced s c number' old' new') stays.1 stays.0
                ∙ sym later.1,
          )
      go (yes e) (no ne) =
          let stays = refused_stays state carriers number' old' new' ne in
          let later = refused_later state carriers number old new number' old' new' ne in (
            later.0
                ∙ sym (ap₂ (λ (s : State) (c : List ℕ). replaced_into s c number old new) stays.1 stays.0),
            later.1
                ∙ sym (ap₂ (λ (s : State) (c : List ℕ). state_replaced s c number old new) stays.1 stays.0),
          )

-- ---- from old to new by another packet

module _ (number : ℕ) (old middle new : List ℕ) where
  byte_middle : (b : ℕ) → difference_byte number old new b
      ≡ bit_xor (difference_byte number old middle b) (difference_byte number middle new b)
  byte_middle b = elim (ℕ_discrete (b / 204) number) [
    | yes e ↦
        difference_own number old new b e
        ∙ sym (ap₂ bit_xor (difference_own number old middle b e) (difference_own number middle new b e)
        ∙ xor_middle (get_or (sent_word old) (b % 204) 0) (get_or (sent_word middle) (b % 204) 0)
        (get_or (sent_word new) (b % 204) 0))
    | no ne ↦
        difference_other number old new b ne
        ∙ sym (ap₂ bit_xor (difference_other number old middle b ne) (difference_other number middle new b ne))
  ]

  frame_middle : (settings : Settings) → difference_frame settings number old new
      ≡ added (difference_frame settings number old middle) (difference_frame settings number middle new)
  unfolding difference_frame
  frame_middle settings =
      zeros_added settings (difference_byte number old new) (difference_byte number old middle)
      (difference_byte number middle new) byte_middle

  -- Two replacements of one packet, the second of which names as old what the first named as new, are one.
  pub through_the_middle : (state : State) (carriers : List ℕ) → replacing state carriers number old middle ≡ 0
      → replacing state carriers number middle new ≡ 0 → Replaces state carriers number old new
      (replaced_into (state_replaced state carriers number old middle) (replaced_into state carriers number old middle)
      number middle new)
      (state_replaced (state_replaced state carriers number old middle) (replaced_into state carriers number old middle)
      number middle new)
  unfolding difference_frame
  through_the_middle state carriers e f =
      let all = accepted_of state carriers number old middle e in
      let rest = accepted_of state carriers number middle new f in
      let settings = state.settings in
      let one = difference_frame settings number old middle in
      let two = difference_frame settings number middle new in
      let fits = lines_fit (legal_settings settings (good_legal state all.good)).bits in
      let both = both_done state carriers number old middle number middle new e f in
      let is = replaces state carriers number old new (answers_0 state carriers number old new
      (accepted_with state carriers number old middle all old new all.old_long rest.new_long all.old_begins
      rest.new_begins)) in
      record {
        done = is.done;
        carriers_are = is.carriers_are ∙ carriers_flipped number old new settings carriers
            ∙ ap (λ (frame : Frame). flipped_carriers frame carriers) (frame_middle settings)
            ∙ sym (carriers_joined one two refl refl fits (difference_entries settings number old middle)
            (difference_entries settings number middle new) carriers) ∙ sym both.carriers_are;
        state_is = is.state_is ∙ state_flipped number old new state
            ∙ ap (λ (frame : Frame). flipped_state frame state) (frame_middle settings)
            ∙ sym (state_joined one two refl refl fits state) ∙ sym both.state_is;
      }
