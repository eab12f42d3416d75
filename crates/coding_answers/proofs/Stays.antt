-- "which bits these are doesn't depend on the other packets", and the state bits not on the state: a replacement that
-- leaves one state of a layer's settings as it was leaves every state of those settings as it was. So one trial tells
-- whether a replacement at some number alters what the following frame is coded from.
--     stays_for_every             of a replacement in a state
--     call_leaves_every_state     of the call
use mathlib.Core.Path.{◌≡◌, refl, sym, ap, ◌∙◌}
use mathlib.Core.List.{List}
use Prim.Native.Nat.{ℕ, ◌<◌}
use native.Mathlib.Decide.{ℕ_discrete}
use lib.Bits.{bit_xor, xor_zero_r}
use lib.ListN.{length, get_or}
use Rattle.lists.proofs.Tabs.{get_d_tab, tab_ext}
use Rattle.settings.specs.declared.Settings.{Settings}
use Rattle.settings.specs.Sizes.{P, C}
use Rattle.rules.specs.Frame.{Frame, memory_behind, register_behind, lines_behind}
use Rattle.coding_state.specs.declared.State.{State}
use Rattle.coding_answers.specs.Replacement.{added_to, difference_frame, replaced_state}
use Rattle.coding_answers.specs.Replacement.{replacing, state_replaced}
use Rattle.coding_answers.specs.Calls.{Sized}
use Rattle.coding_answers.proofs.Difference.{nothing_added}
use Rattle.coding_answers.proofs.Replacements.{replaces, refused_stays}

-- a list that leaves one list as it was leaves every list of its length as it was
list_stays : (size : ℕ) (one two : List ℕ) → added_to size one two ≡ one
    → (list : List ℕ) → length list ≡ size → added_to size list two ≡ list
list_stays size one two same list long =
    sym (tab_ext size (λ k. bit_xor (get_or list k 0) (get_or two k 0)) list long (λ k lt.
    sym (ap (bit_xor (get_or list k 0)) (none k lt) ∙ xor_zero_r (get_or list k 0))))
  where
    none : (k : ℕ) → k < size → get_or two k 0 ≡ 0
    none k lt =
        nothing_added (get_or one k 0) (get_or two k 0) (sym (get_d_tab size _ k lt) ∙ ap
        (λ (l : List ℕ). get_or l k 0) same)

module _ (number : ℕ) (old new : List ℕ) (one : State) (stays : replaced_state one number old new ≡ one)
    (other : State) (sized : Sized other) (same : other.settings ≡ one.settings) where
  abbrev difference : Frame
  difference = difference_frame one.settings number old new

  memory_stays : added_to 1122 other.memory (memory_behind difference (P one.settings)) ≡ other.memory
  unfolding replaced_state
  memory_stays =
      list_stays 1122 one.memory (memory_behind difference (P one.settings)) (ap (λ (s : State). s.memory) stays)
      other.memory sized.memory_long

  register_stays : bit_xor other.register (register_behind difference (P one.settings)) ≡ other.register
  unfolding replaced_state
  register_stays =
      ap (bit_xor other.register) (nothing_added one.register (register_behind difference (P one.settings))
      (ap (λ (s : State). s.register) stays))
      ∙ xor_zero_r other.register

  lines_stay : added_to 360 other.lines (lines_behind difference (C one.settings)) ≡ other.lines
  unfolding replaced_state
  lines_stay =
      list_stays 360 one.lines (lines_behind difference (C one.settings)) (ap (λ (s : State). s.lines) stays)
      other.lines sized.lines_long

  -- A replacement that leaves one state as it was leaves every other state of its settings as it was.
  pub stays_for_every : replaced_state other number old new ≡ other
  unfolding replaced_state
  stays_for_every = ap made same ∙ rw (memory_stays, register_stays, lines_stay) refl
    where
      made : Settings → State
      made settings =
          record {
            settings = other.settings;
            memory =
                added_to 1122 other.memory (memory_behind (difference_frame settings number old new) (P settings));
            register =
                bit_xor other.register (register_behind (difference_frame settings number old new) (P settings));
            lines = added_to 360 other.lines (lines_behind (difference_frame settings number old new) (C settings));
          }

-- A call that is done and leaves its state as it was: the same replacement leaves every state of those settings as it
-- was, whatever the carriers, and whether it is done or refused.
pub call_leaves_every_state : (state : State) (carriers : List ℕ) (number : ℕ) (old new : List ℕ)
    → replacing state carriers number old new ≡ 0 → state_replaced state carriers number old new ≡ state
    → (other : State) → Sized other → other.settings ≡ state.settings → (carriers' : List ℕ)
    → state_replaced other carriers' number old new ≡ other
call_leaves_every_state state carriers number old new done stays other sized same carriers' =
    elim (ℕ_discrete (replacing other carriers' number old new) 0) [
      | no ne ↦ (refused_stays other carriers' number old new ne).1
      | yes e ↦
          (replaces other carriers' number old new e).state_is
          ∙ stays_for_every number old new state
          (sym (replaces state carriers number old new done).state_is ∙ stays) other sized same
    ]
