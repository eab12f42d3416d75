-- "This holds for every packet of the frame, the last included": but for the last twelve packets nothing of a packet
-- runs past the frame's end, so that its replacement leaves the state as it was.
--     early_stays                     of a replacement in a state
--     early_call_leaves_the_state     of the call
use mathlib.Core.Path.{◌≡◌, refl, sym, ap, ◌∙◌}
use mathlib.Core.List.{List}
use Prim.Native.Nat.{ℕ, ◌+◌, ◌-◌, ◌*◌, ◌<◌, ◌≤◌}
use native.Mathlib.Nat.{mul-le-mul_right, add-mul}
use native.Mathlib.Decide.{ℕ_discrete, dec_lt}
use native.Mathlib.Omega.{arith}
use lib.Bits.{xor_zero_r}
use lib.ListN.{get_or, get_or-eq_default}
use Rattle.lists.proofs.Pieces.{place_in}
use Rattle.settings.specs.declared.Settings.{Settings}
use Rattle.settings.specs.Legal.{starting}
use Rattle.settings.specs.Patterns.{pattern_length, kept_below}
use Rattle.settings.specs.Sizes.{P, C}
use Rattle.settings.proofs.LegalSettings.{Legal, legal_settings, bits_most}
use Rattle.settings.proofs.LegalSettings.{LegalRate, half, two_thirds, three_quarters, five_sixths, seven_eighths}
use Rattle.settings.proofs.Frame.{frame_of_is}
use Rattle.settings.proofs.Patterns.{kept_below_closed, begun}
use Rattle.rules.specs.Bits.{delay_of, first_entry, lines_at_start, line_bit}
use Rattle.rules.specs.Frame.{Frame, kept_bit_of, memory_behind, lines_behind}
use Rattle.rules.proofs.BitsAfter.{length_lines_after, lines_after_at, lines_after_rest}
use Rattle.rules.proofs.Shown.{line_late}
use Rattle.rules.proofs.Stream.{start_zero}
use Rattle.rules.proofs.Widths.{delay_most}
use Rattle.coding_state.specs.declared.State.{State}
use Rattle.coding_state.proofs.Good.{good_legal}
use Rattle.coding_answers.specs.Replacement.{difference_frame, replaced_state, replacing, state_replaced}
use Rattle.coding_answers.specs.Calls.{Sized}
use Rattle.coding_answers.proofs.Again.{lines_fit}
use Rattle.coding_answers.proofs.Difference.{add_zeros}
use Rattle.coding_answers.proofs.Quiet.{kept_after, memory_after, register_after}
use Rattle.coding_answers.proofs.Replacements.{accepted_of, replaces, refused_stays}

-- a word keeps so many bits that the last 120 carriers have none of its first six message bits
last_kept : {rate : ℕ} → LegalRate rate → (p q : ℕ) → p < q
    → kept_below rate (1632 * p + 6) + 720 ≤ kept_below rate (1632 * q)
unfolding pattern_length begun
last_kept half p q lt =
    omega (arith, kept_below_closed half (1632 * p + 6), kept_below_closed half (1632 * q))
last_kept two_thirds p q lt =
    omega (arith, kept_below_closed two_thirds (1632 * p + 6), kept_below_closed two_thirds (1632 * q))
last_kept three_quarters p q lt =
    omega (arith, kept_below_closed three_quarters (1632 * p + 6), kept_below_closed three_quarters (1632 * q))
last_kept five_sixths p q lt =
    omega (arith, kept_below_closed five_sixths (1632 * p + 6), kept_below_closed five_sixths (1632 * q))
last_kept seven_eighths p q lt =
    omega (arith, kept_below_closed seven_eighths (1632 * p + 6), kept_below_closed seven_eighths (1632 * q))

module _ (settings : Settings) (start : starting settings ≡ 0) (number : ℕ) (early : number + 13 ≤ P settings)
    (old new : List ℕ) where
  abbrev difference : Frame
  difference = difference_frame settings number old new

  abbrev v : ℕ
  v = settings.v

  legal : Legal settings
  legal = legal_settings settings start

  -- what a line holds behind the frame
  line_quiet : (l e : ℕ) → l < v → e < delay_of v l
      → line_bit v lines_at_start (kept_bit_of difference) (C settings + e) l ≡ 0
  line_quiet l e less lt =
      let most : delay_of v l ≤ 120 = delay_most v l less in
      let many = (frame_of_is settings start).carriers_least in
      let s : ℕ = C settings + e - delay_of v l in
      let near : C settings * v ≤ (s + 120) * v = mul-le-mul_right v (omega arith) in
      let few : 120 * v ≤ 720 = let six = bits_most legal.bits in omega arith in
      let kept = last_kept legal.rate (number + 12) (P settings) (omega arith) in
      let all = (frame_of_is settings start).kept in
      line_late v lines_at_start (kept_bit_of difference) (C settings + e) l (omega arith)
      ∙ kept_after settings number old new legal.rate (s * v + l) (omega (arith, add-mul s 120 v))

  lines_zero : (k : ℕ) → get_or (lines_behind difference (C settings)) k 0 ≡ 0
  unfolding lines_behind difference_frame
  lines_zero k = elim (dec_lt k (first_entry v v)) [
    | yes used ↦
        place_in (delay_of v) (λ k. get_or (lines_behind difference (C settings)) k 0 ≡ 0) v
        (λ l e less lt. lines_after_at v lines_at_start (kept_bit_of difference) (C settings) l e less lt
        ∙ line_quiet l e less lt) k used
    | no unused ↦ elim (dec_lt k 360) [
      | yes lt ↦ lines_after_rest v lines_at_start (kept_bit_of difference) (C settings) k (omega arith) lt
      | no past ↦
          get_or-eq_default (lines_behind difference (C settings)) 0 {n = k}
          (omega (
            arith,
            length_lines_after v lines_at_start (kept_bit_of difference) (C settings)
                (lines_fit legal.bits),
          ))
    ]
  ]

  memory_zero : (k : ℕ) → get_or (memory_behind difference (P settings)) k 0 ≡ 0
  memory_zero k =
      ap (λ (l : List ℕ). get_or l k 0) (sym (memory_after settings number old new (P settings) (omega arith)))
      ∙ start_zero k

-- A packet with at least twelve words of the frame behind its own.
pub early_stays : (state : State) → Sized state → starting state.settings ≡ 0
    → (number : ℕ) → number + 13 ≤ P state.settings → (old new : List ℕ) → replaced_state state number old new ≡ state
early_stays state sized start number early old new =
    unfold replaced_state in let settings = state.settings in
    let difference = difference_frame settings number old new in
    rw (
      sym (add_zeros 1122 state.memory (memory_behind difference (P settings)) sized.memory_long
          (memory_zero settings start number early old new)),
      register_after settings number old new (P settings) early,
      xor_zero_r state.register,
      sym (add_zeros 360 state.lines (lines_behind difference (C settings)) sized.lines_long
          (lines_zero settings start number early old new)),
    ) refl

-- Whatever the call answers.
pub early_call_leaves_the_state : (state : State) → Sized state → (carriers : List ℕ)
    → (number : ℕ) → number + 13 ≤ P state.settings → (old new : List ℕ)
    → state_replaced state carriers number old new ≡ state
early_call_leaves_the_state state sized carriers number early old new =
    elim (ℕ_discrete (replacing state carriers number old new) 0) [
      | no ne ↦ (refused_stays state carriers number old new ne).1
      | yes e ↦
          (replaces state carriers number old new e).state_is
          ∙ early_stays state sized (good_legal state (accepted_of state carriers number old new e).good) number early
          old new
    ]
