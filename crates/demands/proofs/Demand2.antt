-- Demand 2, clause by clause.
--     demand_2
use mathlib.Core.Path.{◌≡◌, refl, sym, ap, ◌∙◌}
use mathlib.Core.Logic.{◌↔◌}
use mathlib.Core.List.{List}
use Prim.Native.Nat.{ℕ, suc, ◌<◌}
use native.Mathlib.Omega.{arith}
use lib.ListN.{length, get_or}
use borrow.Author.Tests.{eq-eqb}
use Rattle.lists.proofs.Tabs.{length_tab, get_d_tab}
use Rattle.settings.specs.Sizes.{C}
use Rattle.rules.specs.Frame.{carrier_value}
use Rattle.nearest.specs.Slot.{restored, Slot, corrected, other_start, none}
use Rattle.nearest.proofs.Unique.{near_codewords_equal}
use Rattle.nearest.proofs.Near.{near_gives}
use Rattle.fewest.proofs.Best.{best_is_best, best_unique}
use Rattle.coding_state.specs.declared.State.{State as Coding}
use Rattle.coding_answers.specs.Coding.{frame_of, coding, coded_into, state_coded, carriers_of_frame, coding_state_behind}
use Rattle.coding_answers.specs.Entries.{coding_call, coding_lent}
use Rattle.coding_answers.proofs.Layers.{entries_lawful}
use Rattle.receiving_answers.specs.Words.{call_pairs, register_before}
use Rattle.receiving_answers.specs.Entries.{receiving_call, receiving_lent}
use Rattle.receiving_answers.proofs.Layers.{entries_lawful as back_lawful}
use Rattle.demands.specs.Demand2.{Near, Demand2}
use Rattle.demands.proofs.Whole.{frames_come_back}
use Rattle.demands.proofs.Joins.{joining_comes_back}
use Rattle.demands.proofs.Records.{layer_alone, door_alone}
use Rattle.demands.proofs.Doors.{doors_come_back}

-- ---- coding

module _ (state : Coding) (packets carriers : List ℕ) (done : coding state packets carriers ≡ 0) where
  left : (coded_into state packets carriers ≡ carriers_of_frame state packets)
      × (state_coded state packets carriers ≡ coding_state_behind state packets)
  left = unfold coded_into state_coded in rw (eq-eqb (coding state packets carriers) 0 done) (refl, refl)

  coded : (length (coded_into state packets carriers) ≡ C state.settings)
      × ((k : ℕ) → k < C state.settings
      → get_or (coded_into state packets carriers) k 0 ≡ carrier_value (frame_of state packets) k)
      × (state_coded state packets carriers ≡ coding_state_behind state packets)
  unfolding carriers_of_frame
  coded = (
    ap length left.0 ∙ length_tab (C state.settings) (carrier_value (frame_of state packets)),
    λ k less.
        ap (λ (l : List ℕ). get_or l k 0) left.0
        ∙ get_d_tab (C state.settings) (carrier_value (frame_of state packets)) k less,
    left.1,
  )

-- ---- a slot by its first byte

none_near : (received slot : List ℕ) → length received ≡ 203 → Slot received slot
    → (get_or slot 0 0 ≡ 255) ↔ ((c : List ℕ) → Near received c → ⊥)
none_near received slot long (corrected c code few begins) =
    (λ is. absurd (omega arith), λ missing. absurd (missing c (record { codeword = code; few = few })))
none_near received slot long (other_start c code few other) =
    (λ is. absurd (omega arith), λ missing. absurd (missing c (record { codeword = code; few = few })))
none_near received slot long (none missing) = (λ is c near. missing c near.codeword near.few, λ other. refl)

module _ (received c : List ℕ) (long : length received ≡ 203) (near : Near received c) where
  same : (d : List ℕ) → Near received d → d ≡ c
  same d other =
      near_codewords_equal d c (restored received) other.codeword near.codeword (ap suc long) other.few
      near.few

  by_start : (slot : List ℕ) → Slot received slot → (get_or slot 0 0 ≡ 254) ↔ (get_or c 0 0 ≡ 0x47 → ⊥)
  by_start slot (corrected d code few begins) = (
    λ is. absurd (omega arith),
    λ other. absurd (other (ap (λ (l : List ℕ). get_or l 0 0) (sym (same d (record { codeword = code; few = few })))
        ∙ begins)),
  )
  by_start slot (other_start d code few other) = (
    λ is begins. other (ap (λ (l : List ℕ). get_or l 0 0) (same d (record { codeword = code; few = few })) ∙ begins),
    λ begins. refl,
  )
  by_start slot (none missing) = absurd (missing c near.codeword near.few)

pub demand_2 : Demand2
demand_2 =
    record {
      coded = coded;
      chosen = λ state carriers n.
          let pairs = call_pairs state carriers n in
          let register = register_before (call_pairs state carriers) state.register n in
          let is = best_is_best pairs register in
          (is, λ other best. best_unique pairs register other _ best is);
      one_codeword = λ word c d long code code' few few'. near_codewords_equal c d word code code' long few few';
      yields = λ received slot c long is near begins.
          near_gives received c slot long near.codeword near.few begins is;
      filled = λ state carriers slots r slots' back done i less. (back.slots_are done).given i less;
      none_near = none_near;
      other_start = λ received slot c long is near. by_start received c long near slot is;
      comes_back = λ start started packets given. frames_come_back start started packets given;
      joining = λ start sending packets given. joining_comes_back start sending packets given;
      coding_alone = layer_alone coding_call coding_lent entries_lawful;
      coding_door_alone = door_alone coding_call coding_lent entries_lawful;
      back_alone = layer_alone receiving_call receiving_lent back_lawful;
      back_door_alone = door_alone receiving_call receiving_lent back_lawful;
      doors = doors_come_back;
    }
