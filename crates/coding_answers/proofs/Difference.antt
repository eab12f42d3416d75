-- Two frames coded from one state that differ only in one packet: the one is the other and the difference frame added.
--     add_difference, add_zeros           a difference added; zeros added
--     nothing_added                       what leaves a number as it was
--     difference_own, difference_other    the difference frame's bytes, in the packet's word and in the others
--     difference_alike                    it is made of the word by which the two packets differ
--     from_zeros, zeros_added             a frame from a state of zeros, and the sum of two
--     packet_alike                        another packet of theirs is the same
--     sent_differs                        their bytes
--     frames_differ                       the frames
use mathlib.Core.Path.{◌≡◌, sym, ap, ap₂, ◌∙◌, fun_ext}
use mathlib.Core.Bool.{Bool, cond}
use mathlib.Core.List.{List}
use Prim.Native.Nat.{ℕ, ◌+◌, ◌*◌, ◌/◌, ◌%◌}
use native.Mathlib.Decide.{ℕ_discrete, dec_lt}
use native.Mathlib.Omega.{arith}
use lib.Bits.{bit_xor, xor_zero_r, xor_self}
use lib.Dec.{eqb}
use lib.ListN.{length, get_or, length-replicate, get_or-eq_default}
use borrow.Author.Tests.{eq-eqb, ne_eqb}
use Rattle.lists.proofs.Tabs.{get_d_tab, tab_ext, tab_cong}
use Rattle.lists.proofs.Xor.{xor_assoc}
use Rattle.settings.specs.declared.Settings.{Settings}
use Rattle.rules.specs.Word.{packet_at, sent_word}
use Rattle.rules.specs.Dispersal.{dispersed}
use Rattle.rules.proofs.DispersedWords.{dispersed_difference}
use Rattle.rules.specs.Bytes.{memory_at_start}
use Rattle.rules.proofs.Stream.{start_zero as memory_zero}
use Rattle.rules.specs.Bits.{lines_at_start}
use Rattle.rules.proofs.Shown.{start_zero as lines_zero}
use Rattle.rules.specs.Frame.{sent_byte, Frame}
use Rattle.rules.proofs.Added.{added}
use Rattle.coding_state.specs.declared.State.{State}
use Rattle.coding_answers.specs.Coding.{frame_of}
use Rattle.coding_answers.specs.Listed.{DifferOnlyIn}
use Rattle.coding_answers.specs.Replacement.{added_to, difference_word, difference_byte, difference_frame}
use Rattle.coding_answers.specs.Calls.{Sized}

-- adding what two differ by to the one gives the other
pub add_difference : (a b : ℕ) → bit_xor a (bit_xor a b) ≡ b
add_difference a b = sym (xor_assoc a a b) ∙ ap (λ (x : ℕ). bit_xor x b) (xor_self a)

-- a number that leaves another as it was is zero
pub nothing_added : (a b : ℕ) → bit_xor a b ≡ a → b ≡ 0
nothing_added a b same = sym (add_difference a b) ∙ ap (bit_xor a) same ∙ xor_self a

-- zeros added to a list of its own length
pub add_zeros : (size : ℕ) (list zeros : List ℕ) → length list ≡ size → ((k : ℕ) → get_or zeros k 0 ≡ 0)
    → list ≡ added_to size list zeros
add_zeros size list zeros long none =
    tab_ext size (λ k. bit_xor (get_or list k 0) (get_or zeros k 0)) list long
    (λ k lt. sym (ap (bit_xor (get_or list k 0)) (none k) ∙ xor_zero_r (get_or list k 0)))

pub difference_own : (number : ℕ) (old new : List ℕ) (b : ℕ) → b / 204 ≡ number
    → difference_byte number old new b
    ≡ bit_xor (get_or (sent_word old) (b % 204) 0) (get_or (sent_word new) (b % 204) 0)
unfolding difference_byte difference_word
difference_own number old new b e =
    ap (λ (own : Bool). cond own (get_or (difference_word old new) (b % 204) 0) 0) (eq-eqb (b / 204) number e)
    ∙ (get_d_tab 204 (λ k. bit_xor (get_or (sent_word old) k 0) (get_or (sent_word new) k 0)) (b % 204) (omega arith))

pub difference_other : (number : ℕ) (old new : List ℕ) (b : ℕ) → (b / 204 ≡ number → ⊥)
    → difference_byte number old new b ≡ 0
unfolding difference_byte
difference_other number old new b ne =
    ap (λ (own : Bool). cond own (get_or (difference_word old new) (b % 204) 0) 0) (ne_eqb (b / 204) number ne)

-- the frame of such bytes from a state of zeros
abbrev pub from_zeros : Settings → (ℕ → ℕ) → Frame
from_zeros settings sent =
    record {
      v = settings.v;
      rate = settings.rate;
      memory = memory_at_start;
      register = 0;
      lines = lines_at_start;
      sent = sent;
    }

-- packets that differ by one word make one difference frame
pub difference_alike : (settings : Settings) (number : ℕ) (one two old new : List ℕ)
    → difference_word one two ≡ difference_word old new
    → difference_frame settings number one two ≡ difference_frame settings number old new
unfolding difference_frame difference_byte
difference_alike settings number one two old new same =
    ap (λ (word : List ℕ). from_zeros settings (λ b. cond (eqb (b / 204) number) (get_or word (b % 204) 0) 0)) same

-- of bytes that are the sums of two frames' bytes
pub zeros_added : (settings : Settings) (sum one two : ℕ → ℕ) → ((b : ℕ) → sum b ≡ bit_xor (one b) (two b))
    → from_zeros settings sum ≡ added (from_zeros settings one) (from_zeros settings two)
unfolding memory_at_start lines_at_start
zeros_added settings sum one two is =
    ap (λ (sent : ℕ → ℕ). made memory_at_start lines_at_start sent) (fun_ext is)
    ∙ ap (λ (memory : List ℕ). made memory lines_at_start both)
    (add_zeros 1122 memory_at_start memory_at_start (length-replicate {A = ℕ} 1122 0) memory_zero)
    ∙ ap (λ (lines : List ℕ). made (added_to 1122 memory_at_start memory_at_start) lines both)
    (add_zeros 360 lines_at_start lines_at_start (length-replicate {A = ℕ} 360 0) lines_zero)
  where
    both : ℕ → ℕ
    both b = bit_xor (one b) (two b)

    made : List ℕ → List ℕ → (ℕ → ℕ) → Frame
    made memory lines sent =
        record { v = settings.v; rate = settings.rate; memory = memory; register = 0; lines = lines; sent = sent }

module _ (number : ℕ) (packets packets' : List ℕ) (differ : DifferOnlyIn number packets packets') where
  byte_alike : (k : ℕ) → (k / 188 ≡ number → ⊥) → get_or packets k 0 ≡ get_or packets' k 0
  byte_alike k ne = elim (dec_lt k (length packets)) [
    | yes h ↦ differ.alike k h ne
    | no h ↦
        get_or-eq_default packets 0 {n = k} (omega arith)
        ∙ sym (get_or-eq_default packets' 0 {n = k} (omega (arith, differ.long)))
  ]

  pub packet_alike : (q : ℕ) → (q ≡ number → ⊥) → packet_at packets q ≡ packet_at packets' q
  packet_alike q ne =
      unfold packet_at in tab_cong 188 (λ j. get_or packets (188 * q + j) 0) (λ j. get_or packets' (188 * q + j) 0)
      (λ j lt. byte_alike (188 * q + j) (λ e. ne (omega arith)))

  abbrev byte_differs : ℕ → ℕ
  byte_differs = difference_byte number (packet_at packets number) (packet_at packets' number)

  pub sent_differs : (b : ℕ) → sent_byte packets' b ≡ bit_xor (sent_byte packets b) (byte_differs b)
  unfolding sent_byte
  sent_differs b = elim (ℕ_discrete (b / 204) number) [
    | yes e ↦
        ap (byte_of packets') e ∙ sym (add_difference (byte_of packets number) (byte_of packets' number))
        ∙ ap₂ bit_xor (sym (ap (byte_of packets) e))
        (dispersed_difference number (word_of packets number) (word_of packets' number) (b % 204) (omega arith)
        ∙ sym (difference_own number (packet_at packets number) (packet_at packets' number) b e))
    | no ne ↦
        sym (ap (λ (packet : List ℕ). get_or (dispersed (b / 204) (sent_word packet)) (b % 204) 0)
        (packet_alike (b / 204) ne)) ∙ sym (xor_zero_r (byte_of packets (b / 204)))
        ∙ sym (ap (bit_xor (byte_of packets (b / 204))) (difference_other number _ _ b ne))
  ]
    where
      word_of : List ℕ → ℕ → List ℕ
      word_of run q = sent_word (packet_at run q)

      byte_of : List ℕ → ℕ → ℕ
      byte_of run q = get_or (dispersed q (word_of run q)) (b % 204) 0

  -- the state goes with the one frame, and the other has none
  pub frames_differ : (state : State) → Sized state → frame_of state packets' ≡ added (frame_of state packets)
      (difference_frame state.settings number (packet_at packets number) (packet_at packets' number))
  unfolding frame_of difference_frame
  frames_differ state sized =
      ap (λ (sent : ℕ → ℕ). made state.memory state.register state.lines sent) (fun_ext sent_differs)
      ∙ ap (λ (memory : List ℕ). made memory state.register state.lines both)
      (add_zeros 1122 state.memory memory_at_start sized.memory_long memory_zero)
      ∙ ap (λ (register : ℕ). made (added_to 1122 state.memory memory_at_start) register state.lines both)
      (sym (xor_zero_r state.register)) ∙ ap
      (λ (lines : List ℕ). made (added_to 1122 state.memory memory_at_start) (bit_xor state.register 0) lines both)
      (add_zeros 360 state.lines lines_at_start sized.lines_long lines_zero)
    where
      both : ℕ → ℕ
      both b = bit_xor (sent_byte packets b) (byte_differs b)

      made : List ℕ → ℕ → List ℕ → (ℕ → ℕ) → Frame
      made memory register lines sent =
          record {
            v = state.settings.v;
            rate = state.settings.rate;
            memory = memory;
            register = register;
            lines = lines;
            sent = sent;
          }
