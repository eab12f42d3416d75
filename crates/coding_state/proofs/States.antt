-- The coding state's bytes, there and back.
--     put_at                      a state put into an area, part by part from a place on
--     state_made, state_at_is     a state is that of an area by its parts, or of a part of an area
--     read_back                   the bytes of the state of an area that long are the area
--     length_bytes, state_back    a state's bytes are 1,487, and the state of them is the state
--     zero_bytes                  those of the all-zero state are zeros
use mathlib.Core.Path.{◌≡◌, refl, sym, ap, ◌∙◌}
use mathlib.Core.List.{List, [], ◌∷◌}
use Prim.Native.Nat.{ℕ, ◌+◌}
use native.Mathlib.Omega.{arith}
use lib.ListN.{length, get_or, replicate}
use Rattle.lists.specs.Tab.{tab, part_of, laid}
use Rattle.lists.proofs.Parts.{with_part}
use Rattle.lists.proofs.Fields.{sizes_of, total, parts_laid, laid_parts, length_laid}
use Rattle.lists.proofs.Fields.{laid_zeros}
use Rattle.layers.proofs.Places.{part_of_part, with_fields_is}
use Rattle.rules.specs.Bytes.{memory_at_start}
use Rattle.rules.specs.Bits.{lines_at_start}
use Rattle.settings.specs.Areas.{settings_of, settings_bytes}
use Rattle.coding_state.specs.declared.State.{State}
use Rattle.coding_state.specs.State.{fresh_coding_state, zero_coding_state}
use Rattle.coding_state.specs.Bytes.{coding_state_of, coding_bytes}

-- the state's fields, each as bytes
abbrev coding_fields : State → List (List ℕ)
coding_fields state = settings_bytes state.settings ∷ state.memory ∷ (state.register ∷ []) ∷ state.lines ∷ []

-- how long the fields are
abbrev sizes : List ℕ
sizes = 4 ∷ 1122 ∷ 1 ∷ 360 ∷ []

-- a state by its fields' bytes
abbrev pub state_by : List ℕ → List ℕ → List ℕ → List ℕ → State
state_by head memory register lines =
    record { settings = settings_of head; memory = memory; register = get_or register 0 0; lines = lines }

same_state : {a b c d a' b' c' d' : List ℕ} → a ≡ a' → b ≡ b' → c ≡ c' → d ≡ d' → state_by a b c d
    ≡ state_by a' b' c' d'
same_state e f g h = rw (e, f, g, h) refl

state_by_is : (area : List ℕ)
    → state_by (part_of area 0 4) (part_of area 4 1122) (part_of area 1126 1) (part_of area 1127 360)
    ≡ coding_state_of area
state_by_is area = unfold coding_state_of tab in refl

pub state_made : (area head memory register lines : List ℕ) → head ≡ part_of area 0 4 → memory ≡ part_of area 4 1122
    → register ≡ part_of area 1126 1 → lines ≡ part_of area 1127 360
    → state_by head memory register lines ≡ coding_state_of area
state_made area head memory register lines e f g h = same_state e f g h ∙ state_by_is area

-- .. and that of a part of an area, from a place on
pub state_at_is : (area : List ℕ) (place : ℕ) (head memory register lines : List ℕ) → head ≡ part_of area place 4
    → memory ≡ part_of area (place + 4) 1122 → register ≡ part_of area (place + 1126) 1
    → lines ≡ part_of area (place + 1127) 360
    → state_by head memory register lines ≡ coding_state_of (part_of area place 1487)
state_at_is area place head memory register lines e f g h =
    let first : place + 0 ≡ place = omega arith in
    let part = part_of_part area place 1487 in
    state_made (part_of area place 1487) head memory register lines
    (e ∙ ap (λ (n : ℕ). part_of area n 4) (sym first) ∙ part 0 4 (omega arith)) (f ∙ part 4 1122 (omega arith))
    (g ∙ part 1126 1 (omega arith)) (h ∙ part 1127 360 (omega arith))

-- The bytes of the state of an area as long as a state are the area.
pub read_back : (area : List ℕ) → length area ≡ 1487 → coding_bytes (coding_state_of area) ≡ area
read_back area long = unfold coding_bytes coding_state_of tab in laid_parts sizes area long

module _ (state : State) (bytes : length state.memory ≡ 1122) (entries : length state.lines ≡ 360) where
  sized : sizes_of (coding_fields state) ≡ sizes
  sized = rw (bytes, entries) refl

  pub length_bytes : length (coding_bytes state) ≡ 1487
  length_bytes = unfold coding_bytes in length_laid (coding_fields state) ∙ ap total sized

  -- The state of a state's bytes is the state.
  pub state_back : coding_state_of (coding_bytes state) ≡ state
  state_back =
      unfold coding_bytes in let parts = parts_laid (coding_fields state) sizes sized in
      sym (state_made (laid (coding_fields state)) (settings_bytes state.settings) state.memory
      (state.register ∷ []) state.lines (cc) (cc) (cc) (cc))

  -- A state that is put into an area, part by part from a place on, is put as its bytes.
  pub put_at : (area : List ℕ) (place : ℕ) (one two three four : List ℕ)
      → one ≡ with_part (settings_bytes state.settings) place area → two ≡ with_part state.memory (place + 4) one
      → three ≡ with_part (state.register ∷ []) (place + 1126) two
      → four ≡ with_part state.lines (place + 1127) three → four ≡ with_part (coding_bytes state) place area
  put_at area place one two three four e₁ e₂ e₃ e₄ =
      unfold coding_bytes in
      let third : place + 4 + 1122 ≡ place + 1126 = omega arith in
      let fourth : place + 4 + 1122 + 1 ≡ place + 1127 = omega arith in
      rw (e₄, e₃, e₂, e₁, ← third, ← fourth) (with_fields_is (coding_fields state) sizes sized place area)

-- ---- the all-zero state

-- The bytes of the all-zero state are zeros.
pub zero_bytes : coding_bytes zero_coding_state ≡ replicate 1487 0
unfolding coding_bytes zero_coding_state fresh_coding_state memory_at_start lines_at_start
zero_bytes = laid_zeros sizes
