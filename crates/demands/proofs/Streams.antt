-- All that is sent from a frame on is one stream: "What runs past the frame's end is in the state and comes out in
-- the next frame."
--     carried_first, carried_next     its first carriers are the frame's, and then come the next frame's
--     lines_hold                      the lines hold bits before every frame
--     register_on                     the register past a frame's end is one of the next stream
--     hears_next                      who hears the stream past a frame's end hears the next stream, from its first
--                                     byte on
use mathlib.Core.Path.{◌≡◌, refl, sym, ap, ap₂, ◌∙◌, fun_ext, subst}
use mathlib.Core.List.{List}
use Prim.Native.Nat.{ℕ, zero, suc, ◌+◌, ◌-◌, ◌*◌, ◌/◌, ◌%◌, ◌<◌, ◌≤◌}
use native.Mathlib.Nat.{mod-eq_of_lt, add-mod_right, div-eq_of_lt, add-div_right}
use native.Mathlib.Decide.{dec_lt}
use native.Mathlib.Omega.{arith}
use lib.ListN.{get_or}
use borrow.Author.Tests.{lt-ltb, le-ltb}
use Rattle.lists.proofs.Tabs.{length_tab, get_d_tab}
use Rattle.settings.specs.declared.Settings.{Settings}
use Rattle.settings.specs.Sizes.{P, C}
use Rattle.settings.proofs.LegalSettings.{Legal}
use Rattle.settings.proofs.Frame.{Frame as Sizes}
use Rattle.rules.specs.Word.{packet_at, sent_word}
use Rattle.rules.specs.Dispersal.{dispersed}
use Rattle.rules.specs.Bytes.{waits_there, waits_back, stream_byte, memory_after}
use Rattle.rules.proofs.Ways.{there_fits, back_fits}
use Rattle.rules.proofs.Memory.{stream_after, memory_add, memory_cong}
use Rattle.rules.proofs.Kept.{kept_lt}
use Rattle.rules.specs.Frame.{Frame, kept_bit_of, carrier_value, memory_behind, register_behind, lines_behind, sent_byte}
use Rattle.rules.proofs.Joined.{next, both, InBlocks, frame_in_blocks, carriers_first, carriers_next, register_next}
use Rattle.coding_state.specs.declared.State.{State}
use Rattle.coding_answers.specs.Coding.{frame_of, carriers_of_frame, coding_state_behind}
use Rattle.demands.specs.Frames.{coder_at, carriers_at, sent_from, layered, stream_from}
use Rattle.demands.specs.InStep.{arriving}
use Rattle.demands.proofs.Entries.{entries_behind}
use Rattle.demands.proofs.Digits.{Carried}
use Rattle.demands.proofs.Heard.{Hears}

-- ---- what goes in

word_there : (packets : ℕ → List ℕ) (f g p q j : ℕ) → f ≡ g → p ≡ q
    → get_or (dispersed p (sent_word (packet_at (packets f) p))) j 0
    ≡ get_or (dispersed q (sent_word (packet_at (packets g) q))) j 0
word_there packets f g p q j e d =
    ap₂ (λ (h r : ℕ). get_or (dispersed r (sent_word (packet_at (packets h) r))) j 0) e d

sent_early : (count : ℕ) (packets : ℕ → List ℕ) (f b : ℕ) → b < 204 * count
    → sent_byte (packets f) b ≡ sent_from count packets f b
sent_early count packets f b h =
    unfold sent_byte sent_from in let inside : b / 204 < count = omega arith in
    let none = div-eq_of_lt inside in
    let frame : f ≡ f + b / 204 / count = omega arith in
    word_there packets f (f + b / 204 / count) (b / 204) (b / 204 % count) (b % 204) frame (sym (mod-eq_of_lt inside))

sent_late : (count : ℕ) (packets : ℕ → List ℕ) (f b : ℕ) → 0 < count
    → sent_from count packets (suc f) b ≡ sent_from count packets f (204 * count + b)
sent_late count packets f b some =
    unfold sent_from in let word : (204 * count + b) / 204 ≡ b / 204 + count = omega arith in
    let byte : (204 * count + b) % 204 ≡ b % 204 = omega arith in
    let more = add-div_right (b / 204) some in
    let frame : suc f + b / 204 / count ≡ f + (b / 204 + count) / count = omega arith in
    rw (word, byte)
    (word_there packets (suc f + b / 204 / count) (f + (b / 204 + count) / count) (b / 204 % count)
    ((b / 204 + count) % count) (b % 204) frame (sym (add-mod_right (b / 204) count)))

module _ (start : State) (packets : ℕ → List ℕ) (legal : Legal start.settings)
    (sizes : Sizes start.settings) where
  abbrev settings : Settings
  settings = start.settings

  abbrev coder : ℕ → State
  coder f = coder_at start packets f

  abbrev stream_of : ℕ → Frame
  stream_of f = stream_from start packets f

  -- frame f alone
  abbrev frame_at : ℕ → Frame
  frame_at f = layered settings (coder f).memory (coder f).register (coder f).lines (sent_byte (packets f))

  settings_stay : (f : ℕ) → (coder f).settings ≡ settings
  unfolding coder_at coding_state_behind
  settings_stay zero = refl
  settings_stay (suc f) = settings_stay f

  frame_is : (f : ℕ) → frame_of (coder f) (packets f) ≡ frame_at f
  unfolding frame_of
  frame_is f =
      ap (λ (s : Settings). layered s (coder f).memory (coder f).register (coder f).lines (sent_byte (packets f)))
      (settings_stay f)

  some : 0 < P settings
  some = omega (arith, sizes.packets_least)

  abbrev rest : ℕ → ℕ → ℕ
  rest f = sent_from (P settings) packets (suc f)

  long_is : (f : ℕ) → both (frame_at f) (P settings) (rest f) ≡ stream_of f
  long_is f =
      ap (layered settings (coder f).memory (coder f).register (coder f).lines)
      (fun_ext (λ b. elim (dec_lt b (204 * P settings)) [
        | yes h ↦ rw (lt-ltb b (204 * P settings) h) (sent_early (P settings) packets f b h)
        | no h ↦
            (let place : 204 * P settings + (b - 204 * P settings) ≡ b = omega arith in
            rw (le-ltb b (204 * P settings) (omega arith))
            (sent_late (P settings) packets f (b - 204 * P settings) some ∙ ap
            (sent_from (P settings) packets f) place))
      ]))

  later_is : (f : ℕ) → next (frame_at f) (P settings) (C settings) (rest f) ≡ stream_of (suc f)
  later_is f =
      unfold coder_at coding_state_behind in sym (ap₂ (λ (s : Settings) (frame : Frame).
      layered settings (memory_behind frame (P s)) (register_behind frame (P s)) (lines_behind frame (C s)) (rest f))
      (settings_stay f) (frame_is f))

  whole : InBlocks settings.rate settings.v (P settings) (C settings)
  whole = frame_in_blocks settings legal

  -- ---- what comes out

  carriers_are : (f : ℕ) → Carried (frame_at f) 0 (C settings) (carriers_at start packets f)
  carriers_are f =
      unfold carriers_at carriers_of_frame in rw (frame_is f, settings_stay f)
      (record {
        long = length_tab (C settings) (carrier_value (frame_at f));
        value = λ k lt. get_d_tab (C settings) (carrier_value (frame_at f)) k lt
            ∙ ap (carrier_value (frame_at f)) (omega arith);
      })

  pub carried_first : (f : ℕ) → Carried (stream_of f) 0 (C settings) (carriers_at start packets f)
  carried_first f =
      record {
        long = (carriers_are f).long;
        value = λ k lt.
            (carriers_are f).value k lt ∙ ap (carrier_value (frame_at f)) (omega arith)
            ∙ sym (carriers_first (frame_at f) (P settings) (C settings) (rest f) whole k lt)
            ∙ ap (λ (s : Frame). carrier_value s k) (long_is f) ∙ ap (carrier_value (stream_of f)) (omega arith);
      }

  pub carried_next : (f : ℕ) → Carried (stream_of f) (C settings) (C settings) (carriers_at start packets (suc f))
  carried_next f =
      record {
        long = (carried_first (suc f)).long;
        value = λ k lt.
            (carried_first (suc f)).value k lt ∙ ap (carrier_value (stream_of (suc f))) (omega arith)
            ∙ ap (λ (s : Frame). carrier_value s k) (sym (later_is f))
            ∙ sym (carriers_next (frame_at f) (P settings) (C settings) (rest f) whole k)
            ∙ ap (λ (s : Frame). carrier_value s (C settings + k)) (long_is f);
      }

  lines_behind_is : (f : ℕ) → ((k : ℕ) → get_or (coder f).lines k 0 < 2) → (k : ℕ)
      → get_or (lines_behind (frame_at f) (C settings)) k 0 < 2
  unfolding lines_behind kept_bit_of
  lines_behind_is f held k =
      entries_behind legal.bits (coder f).lines (kept_bit_of (frame_at f)) (C settings) held
      (λ c. kept_lt settings.rate (coder f).register _ c) k

  pub lines_hold : ((k : ℕ) → get_or start.lines k 0 < 2) → (f k : ℕ) → get_or (coder_at start packets f).lines k 0 < 2
  unfolding coder_at
  lines_hold entries zero k = entries k
  lines_hold entries (suc f) k =
      subst (λ (frame : Frame). get_or frame.lines k 0 < 2) (later_is f) (lines_behind_is f (lines_hold entries f) k)

  -- ---- past a frame's end

  pub register_on : (f w : ℕ) → register_behind (stream_of f) (P settings + w) ≡ register_behind (stream_of (suc f)) w
  register_on f w =
      ap (λ (s : Frame). register_behind s (P settings + w)) (sym (long_is f))
      ∙ sym (register_next (frame_at f) (P settings) (C settings) (rest f) w)
      ∙ ap (λ (s : Frame). register_behind s w) (later_is f)

  memory_on : (f : ℕ)
      → (coder (suc f)).memory
      ≡ memory_after waits_there (coder f).memory (sent_from (P settings) packets f) (P settings)
  memory_on f =
      unfold memory_behind in ap (λ (s : Frame). s.memory) (sym (later_is f))
      ∙ memory_cong waits_there there_fits (coder f).memory (sent_byte (packets f)) (sent_from (P settings) packets f)
      (P settings) (λ k lt. sent_early (P settings) packets f k lt)

  arriving_on : (f b : ℕ) → arriving (stream_of (suc f)) b ≡ arriving (stream_of f) (204 * P settings + b)
  arriving_on f b =
      unfold arriving in ap (λ (x : ℕ). x % 256)
      (ap₂ (λ (m : List ℕ) (sent : ℕ → ℕ). stream_byte waits_there m sent b) (memory_on f)
      (fun_ext (λ k. sent_late (P settings) packets f k some))
      ∙ stream_after waits_there there_fits (coder f).memory (sent_from (P settings) packets f) (P settings) b)

  pub hears_next : (wrong f w : ℕ) (memory : List ℕ) → wrong ≤ 204 * P settings
      → Hears (stream_of f) wrong (P settings + w) memory → Hears (stream_of (suc f)) 0 w memory
  hears_next wrong f w memory few hears =
      record {
        before = memory_after waits_back hears.before hears.heard (P settings);
        heard = λ b. hears.heard (204 * P settings + b);
        heard_is = λ b late lt. hears.heard_is (204 * P settings + b) (omega arith) (omega arith)
            ∙ sym (arriving_on f b);
        memory_is = hears.memory_is
            ∙ sym (memory_add waits_back back_fits hears.before hears.heard (P settings) w);
      }
