-- A word of the stream comes back: its slot gives its packet.
--     word_sent         a word of the stream is a packet's, dispersed
--     packet_of         which packet it is, counted over all frames
--     word_comes_back   its slot
use mathlib.Core.Path.{◌≡◌, sym, ap, ap₂, ◌∙◌, subst}
use mathlib.Core.List.{List}
use Prim.Native.Nat.{ℕ, ◌+◌, ◌-◌, ◌*◌, ◌/◌, ◌%◌, ◌<◌, ◌≤◌}
use native.Mathlib.Nat.{mod-lt, mul_comm, mul-add-div_right, mul-add-mod_self_left}
use native.Mathlib.Omega.{arith}
use lib.Dec.{eqb}
use lib.ListN.{get_or, take}
use borrow.Author.Tests.{eqb-true}
use Rattle.lists.proofs.Tabs.{get_d_tab}
use Rattle.lists.proofs.AllBelows.{all_at}
use Rattle.settings.specs.Sizes.{P}
use Rattle.rules.specs.Word.{packet_at, sent_word}
use Rattle.nearest.specs.Slot.{Slot}
use Rattle.rules.specs.Dispersal.{dispersed}
use Rattle.rules.specs.Bytes.{waits_back, stream_byte}
use Rattle.rules.proofs.DispersedWords.{length_dispersed}
use Rattle.coding_state.specs.declared.State.{State}
use Rattle.coding_answers.specs.Coding.{all_begin}
use Rattle.receiving_answers.specs.Words.{received_byte, finished_word}
use Rattle.demands.specs.Frames.{sent_packet, sent_from, stream_from, Packets}
use Rattle.demands.specs.CameBack.{PacketGiven}
use Rattle.demands.proofs.Words.{Taken}
use Rattle.demands.proofs.Heard.{Hears, words_finished}
use Rattle.demands.proofs.Slots.{taken_off, packet_given}

word_sent : (count : ℕ) (packets : ℕ → List ℕ) (f w j : ℕ) → j < 204 → sent_from count packets f (204 * w + j)
    ≡ get_or (dispersed (w % count) (sent_word (packet_at (packets (f + w / count)) (w % count)))) j 0
word_sent count packets f w j h =
    unfold sent_from in let word : (204 * w + j) / 204 ≡ w = omega arith in
    let byte : (204 * w + j) % 204 ≡ j = omega arith in
    ap₂ (λ (q b : ℕ). get_or (dispersed (q % count) (sent_word (packet_at (packets (f + q / count)) (q % count)))) b 0)
    word byte

pub packet_of : (count : ℕ) (packets : ℕ → List ℕ) (f w : ℕ) → 0 < count
    → packet_at (packets (f + w / count)) (w % count) ≡ sent_packet count packets (count * f + w)
packet_of count packets f w some =
    unfold sent_packet in ap₂ (λ (g p : ℕ). packet_at (packets g) p)
    (sym (ap (λ (n : ℕ). (n + w) / count) (mul_comm count f) ∙ mul-add-div_right some f w))
    (sym (mul-add-mod_self_left count f w))

module _ (start : State) (packets : ℕ → List ℕ) (given : Packets start.settings packets)
    (some : 0 < P start.settings) where
  abbrev count : ℕ
  count = P start.settings

  begins : (f p : ℕ) → p < count → get_or (packets f) (188 * p) 0 ≡ 0x47
  begins f p h =
      unfold all_begin in eqb-true (get_or (packets f) (188 * p) 0) 0x47
      (all_at count (λ p. eqb (get_or (packets f) (188 * p) 0) 0x47) (given.begin f) p h)

  module _ (f wrong word words : ℕ) (pairs : ℕ → List ℕ) (memory : List ℕ) (register : ℕ)
      (taken : Taken (stream_from start packets f) wrong word words pairs register)
      (hears : Hears (stream_from start packets f) wrong word memory) where
    -- the finished word is right from byte `from` on
    pub word_comes_back : (from n w place : ℕ) → from ≤ 8 → n < words → 11 ≤ word + n → w ≡ word + n - 11
        → place ≡ w % count → wrong ≤ 12 → wrong ≤ 12 * (204 * w + from)
        → (slot : List ℕ) → Slot (take 203 (dispersed place (finished_word pairs memory register n))) slot
        → PacketGiven from (sent_packet count packets (count * f + w)) slot
    word_comes_back from n w place few h late w-is place_is twelve right slot allowed =
        let frame = packets (f + w / count) in
        let p = w % count in
        let bytes = given.bytes (f + w / count) in
        let finished = finished_word pairs memory register n in
        let here = ap (λ (q : ℕ). dispersed q finished) place_is in
        subst (λ (packet : List ℕ). PacketGiven from packet slot) (packet_of count packets f w some)
        (packet_given frame p bytes (begins (f + w / count) p (mod-lt w some)) from few (dispersed p finished)
        (length_dispersed p finished)
        (λ j from_on lt. taken_off frame p bytes p finished j lt (byte j lt (omega arith))) slot
        (subst (λ (l : List ℕ). Slot (take 203 l) slot) here allowed))
      where
        byte : (j : ℕ) → j < 204 → wrong ≤ 12 * (204 * w + j)
            → get_or (finished_word pairs memory register n) j 0
            ≡ get_or (dispersed (w % count) (sent_word (packet_at (packets (f + w / count)) (w % count)))) j 0 % 256
        byte j lt right =
            unfold finished_word in let right_there : wrong ≤ 12 * (204 * (word + n - 11) + j) = omega arith in
            get_d_tab 204 (λ j. stream_byte waits_back memory (received_byte pairs register) (204 * n + j)) j lt
            ∙ words_finished (stream_from start packets f) wrong word words pairs register taken memory hears twelve n j
            h lt late right_there
            ∙ ap (λ (b : ℕ). b % 256)
            (ap (λ (q : ℕ). sent_from count packets f (204 * q + j)) (sym w-is) ∙ word_sent count packets f w j lt)
