-- The receiving state's bytes, there and back.
--     state_made, state_at_is     a state is that of an area by its parts, or of a part of an area
--     read_back                   the bytes of the state of an area that long are the area
--     length_bytes, state_back    a state has 4,560 bytes, and the state of them is the state
--     put_at                      a state put into an area, part by part from a place on
--     zero_bytes                  the bytes of the all-zero state are zeros
use mathlib.Core.Path.{◌≡◌, refl, sym, ap, ◌∙◌}
use mathlib.Core.List.{List, [], ◌∷◌}
use Prim.Native.Nat.{ℕ, ◌+◌}
use native.Mathlib.Omega.{arith}
use lib.ListN.{length, get_or, replicate}
use Rattle.lists.specs.Tab.{tab, part_of, laid}
use Rattle.lists.proofs.Parts.{with_part}
use Rattle.lists.proofs.Fields.{sizes_of, total, parts_laid, laid_parts, length_laid, laid_zeros}
use Rattle.settings.specs.Areas.{settings_of, settings_bytes}
use Rattle.layers.proofs.Places.{part_of_part, with_fields_is}
use Rattle.receiving_state.specs.declared.State.{State}
use Rattle.receiving_state.specs.State.{fresh_receiving_state, zero_receiving_state}
use Rattle.receiving_state.specs.Bytes.{receiving_state_of, receiving_bytes}

-- the state's fields, each as bytes
abbrev receiving_fields : State → List (List ℕ)
receiving_fields state =
    settings_bytes state.settings
    ∷ (state.taken ∷ [])
    ∷ state.memory
    ∷ state.lines
    ∷ (state.register ∷ [])
    ∷ state.held
    ∷ []

-- how long the fields are
abbrev sizes : List ℕ
sizes = 4 ∷ 1 ∷ 1122 ∷ 360 ∷ 1 ∷ 3072 ∷ []

-- a state by its fields' bytes
abbrev pub state_by : List ℕ → List ℕ → List ℕ → List ℕ → List ℕ → List ℕ → State
state_by head taken memory lines register held =
    record {
      settings = settings_of head;
      taken = get_or taken 0 0;
      memory = memory;
      lines = lines;
      register = get_or register 0 0;
      held = held;
    }

same_state : {a b c d e f a' b' c' d' e' f' : List ℕ} → a ≡ a' → b ≡ b' → c ≡ c' → d ≡ d' → e ≡ e' → f ≡ f'
    → state_by a b c d e f ≡ state_by a' b' c' d' e' f'
same_state one two three four five six = rw (one, two, three, four, five, six) refl

module _ (area : List ℕ) where
  state_by_is : state_by (part_of area 0 4) (part_of area 4 1) (part_of area 5 1122) (part_of area 1127 360)
      (part_of area 1487 1) (part_of area 1488 3072) ≡ receiving_state_of area
  state_by_is = unfold receiving_state_of tab in refl

  pub state_made : (head taken memory lines register held : List ℕ) → head ≡ part_of area 0 4 → taken ≡ part_of area 4 1
      → memory ≡ part_of area 5 1122 → lines ≡ part_of area 1127 360 → register ≡ part_of area 1487 1
      → held ≡ part_of area 1488 3072 → state_by head taken memory lines register held ≡ receiving_state_of area
  state_made head taken memory lines register held e f g h i j = same_state e f g h i j ∙ state_by_is

-- .. and that of a part of an area, from a place on
pub state_at_is : (area : List ℕ) (place : ℕ) (head taken memory lines register held : List ℕ) → head
    ≡ part_of area place 4
    → taken ≡ part_of area (place + 4) 1 → memory ≡ part_of area (place + 5) 1122 → lines
    ≡ part_of area (place + 1127) 360
    → register ≡ part_of area (place + 1487) 1 → held ≡ part_of area (place + 1488) 3072
    → state_by head taken memory lines register held ≡ receiving_state_of (part_of area place 4560)
state_at_is area place head taken memory lines register held e f g h i j =
    let first : place + 0 ≡ place = omega arith in
    let part = part_of_part area place 4560 in
    state_made (part_of area place 4560) head taken memory lines register held
    (e ∙ ap (λ (n : ℕ). part_of area n 4) (sym first) ∙ part 0 4 (omega arith)) (f ∙ part 4 1 (omega arith))
    (g ∙ part 5 1122 (omega arith)) (h ∙ part 1127 360 (omega arith)) (i ∙ part 1487 1 (omega arith))
    (j ∙ part 1488 3072 (omega arith))

-- The bytes of the state of an area as long as a state are the area.
pub read_back : (area : List ℕ) → length area ≡ 4560 → receiving_bytes (receiving_state_of area) ≡ area
read_back area long = unfold receiving_bytes receiving_state_of tab in laid_parts sizes area long

module _ (state : State) (bytes : length state.memory ≡ 1122) (entries : length state.lines ≡ 360)
    (bits : length state.held ≡ 3072) where
  sized : sizes_of (receiving_fields state) ≡ sizes
  sized = rw (bytes, entries, bits) refl

  pub length_bytes : length (receiving_bytes state) ≡ 4560
  length_bytes = unfold receiving_bytes in length_laid (receiving_fields state) ∙ ap total sized

  -- The state of a state's bytes is the state.
  pub state_back : receiving_state_of (receiving_bytes state) ≡ state
  state_back =
      unfold receiving_bytes in let parts = parts_laid (receiving_fields state) sizes sized in
      sym (state_made (laid (receiving_fields state)) (settings_bytes state.settings) (state.taken ∷ [])
      state.memory state.lines (state.register ∷ []) state.held (cc) (cc) (cc) (cc) (cc) (cc))

  -- A state that is put into an area, part by part from a place on, is put as its bytes.
  pub put_at : (area : List ℕ) (place : ℕ) (one two three four five six : List ℕ)
      → one ≡ with_part (settings_bytes state.settings) place area → two ≡ with_part (state.taken ∷ []) (place + 4) one
      → three ≡ with_part state.memory (place + 5) two → four ≡ with_part state.lines (place + 1127) three
      → five ≡ with_part (state.register ∷ []) (place + 1487) four → six ≡ with_part state.held (place + 1488) five
      → six ≡ with_part (receiving_bytes state) place area
  put_at area place one two three four five six e₁ e₂ e₃ e₄ e₅ e₆ =
      unfold receiving_bytes in
      let third : place + 4 + 1 ≡ place + 5 = omega arith in
      let fourth : place + 4 + 1 + 1122 ≡ place + 1127 = omega arith in
      let fifth : place + 4 + 1 + 1122 + 360 ≡ place + 1487 = omega arith in
      let sixth : place + 4 + 1 + 1122 + 360 + 1 ≡ place + 1488 = omega arith in
      rw (e₆, e₅, e₄, e₃, e₂, e₁, ← third, ← fourth, ← fifth, ← sixth)
      (with_fields_is (receiving_fields state) sizes sized place area)

-- The bytes of the all-zero state are zeros.
pub zero_bytes : receiving_bytes zero_receiving_state ≡ replicate 4560 0
zero_bytes = unfold receiving_bytes zero_receiving_state fresh_receiving_state in laid_zeros sizes
