-- The packets of n frames, with frames of empty packets behind them: every frame of the row is then such as a coder
-- takes, and the first n are those given.
--     with_empty_frames                        the row
--     all_long, all_right                      each of its frames is such as a coder takes
--     same_frame, same_carriers, same_slots    the first n frames, their carriers and the slots that they give are
--                                              those of the packets given
--     each_same                                rows that agree
use mathlib.Core.Path.{◌≡◌, refl, ap, ap₂, ◌∙◌}
use mathlib.Core.Bool.{Bool, true, false, cond}
use mathlib.Core.List.{List, ◌∷◌}
use Prim.Native.Nat.{ℕ, zero, suc, ◌+◌, ◌*◌, ◌/◌, ◌%◌, ◌<◌, ◌≤◌}
use native.Mathlib.Nat.{mul_comm, mul-le-mul_left, mul-suc, div-lt_iff_lt-mul}
use native.Mathlib.Decide.{dec_lt}
use native.Mathlib.Omega.{arith}
use lib.Dec.{eqb, ltb}
use lib.ListN.{length, get_or}
use borrow.Author.Tests.{eq-eqb, lt-ltb, le-ltb}
use Rattle.lists.specs.Tab.{tab, laid}
use Rattle.lists.proofs.AllBelows.{all_yes}
use Rattle.lists.proofs.Tabs.{length_tab, get_d_tab, tab_lt}
use Rattle.settings.specs.declared.Settings.{Settings}
use Rattle.settings.specs.Sizes.{P}
use Rattle.rules.specs.Word.{packet_at}
use Rattle.coding_state.specs.declared.State.{State}
use Rattle.coding_answers.specs.Coding.{all_begin, carriers_of_frame, coding_state_behind}
use Rattle.demands.specs.Frames.{coder_at, carriers_at, sent_packet, first_given, given_packets, Packets}
use Rattle.whole_texts.specs.ThereAndBack.{each_from, FramesOfPackets, slots_given}

-- rows that agree
pub each_same : (row other : ℕ → List ℕ) (n f : ℕ) → ((k : ℕ) → f ≤ k → k < f + n → row k ≡ other k)
    → each_from row f n ≡ each_from other f n
unfolding each_from
each_same row other zero f same = refl
each_same row other (suc n) f same =
    ap₂ (λ (x : List ℕ) (l : List (List ℕ)). x ∷ l) (same f (omega arith) (omega arith))
    (each_same row other n (suc f) (λ k least most. same k (omega arith) (omega arith)))

-- byte k of a frame of packets that hold zeros behind their 47
empty_byte : ℕ → ℕ
empty_byte k = cond (eqb (k % 188) 0) 0x47 0

empty_few : (k : ℕ) → empty_byte k < 256
unfolding empty_byte
empty_few k = go (eqb (k % 188) 0)
  where
    go : (b : Bool) → cond {A = ℕ} b 0x47 0 < 256
    go true = omega arith
    go false = omega arith

-- the packets that frame f gives are of frames 0 to f
given_until : (count f : ℕ) → first_given count f + given_packets count f ≤ count * suc f
unfolding first_given given_packets
given_until count zero = omega (arith, mul-suc count 0)
given_until count (suc f) = omega (arith, mul-suc count (suc f))

module _ (settings : Settings) (packets : ℕ → List ℕ) (n : ℕ) where
  empty_frame : List ℕ
  empty_frame = tab (188 * P settings) empty_byte

  empty_begins : all_begin (P settings) empty_frame ≡ true
  unfolding empty_frame empty_byte all_begin
  empty_begins =
      all_yes (P settings) (λ p. eqb (get_or empty_frame (188 * p) 0) 0x47) (λ p lt.
      let first : 188 * p % 188 ≡ 0 = omega arith in
      eq-eqb (get_or empty_frame (188 * p) 0) 0x47 (get_d_tab (188 * P settings) empty_byte (188 * p) (omega arith)
      ∙ rw first refl))

  pub with_empty_frames : ℕ → List ℕ
  with_empty_frames f = cond (ltb f n) (packets f) empty_frame

  pub same_frame : (f : ℕ) → f < n → with_empty_frames f ≡ packets f
  same_frame f less = unfold with_empty_frames in rw (lt-ltb f n less) refl

  -- what holds of the frames given, and of a frame of empty packets, holds of each
  of_each : (Holds : List ℕ → Type 0) → ((f : ℕ) → f < n → Holds (packets f)) → Holds empty_frame → (f : ℕ)
      → Holds (with_empty_frames f)
  unfolding with_empty_frames
  of_each Holds given empty f = elim (dec_lt f n) [
    | yes less ↦ rw (lt-ltb f n less) (given f less)
    | no more ↦ rw (le-ltb f n (omega arith)) empty
  ]

  module _ (frames : FramesOfPackets settings packets n) where
    pub all_long : (f : ℕ) → length (with_empty_frames f) ≡ 188 * P settings
    all_long =
        of_each (λ l. length l ≡ 188 * P settings) frames.long
        (unfold empty_frame in length_tab (188 * P settings) empty_byte)

    pub all_right : Packets settings with_empty_frames
    all_right =
        record {
          begin = of_each (λ l. all_begin (P settings) l ≡ true) frames.begin empty_begins;
          bytes = of_each (λ l. (k : ℕ) → get_or l k 0 < 256) (λ f less k. frames.bytes f k less)
              (unfold empty_frame in tab_lt (188 * P settings) empty_byte 256 (omega arith) empty_few);
        }

  -- ---- what the first n frames decide

  same_coder : (start : State) (f : ℕ) → f ≤ n → coder_at start with_empty_frames f ≡ coder_at start packets f
  unfolding coder_at
  same_coder start zero few = refl
  same_coder start (suc f) few = ap₂ coding_state_behind (same_coder start f (omega arith)) (same_frame f few)

  pub same_carriers : (start : State) (f : ℕ) → f < n → carriers_at start with_empty_frames f
      ≡ carriers_at start packets f
  unfolding carriers_at
  same_carriers start f less = ap₂ carriers_of_frame (same_coder start f (omega arith)) (same_frame f less)

  pub same_slots : 0 < P settings → (f : ℕ) → f < n
      → slots_given (P settings) with_empty_frames f ≡ slots_given (P settings) packets f
  unfolding slots_given sent_packet
  same_slots some f less =
      ap laid (each_same _ _ (given_packets (P settings) f) (first_given (P settings) f) (λ g least most.
      let before : g < n * P settings =
      omega (arith, most, given_until (P settings) f, mul-le-mul_left (P settings) less, mul_comm n (P settings)) in
      ap (λ (l : List ℕ). 0 ∷ packet_at l (g % P settings))
      (same_frame (g / P settings) ((div-lt_iff_lt-mul some).1 before))))
