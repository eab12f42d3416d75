-- The words of a frame, one by one.
--     coded_few                                 a word has at most 1,632 symbols
--     word_done                                 what `code_word` does, from its parts
--     rows_more, rows_fresh                     the parities of 32 packets: the next packet's, and new ones
--     parities_put, front_long                  parts of slices
--     sent_part                                 the word sent, from its packet and its row
use mathlib.Core.Path.{◌≡◌, refl, sym, ap, ap₂, ◌∙◌, subst}
use mathlib.Core.List.{List, ◌++◌}
use mathlib.Core.Logic.{◌⊎◌, inl, inr}
use Prim.Native.Nat.{ℕ, ◌+◌, ◌-◌, ◌*◌, ◌/◌, ◌%◌, ◌<◌, ◌≤◌}
use native.Mathlib.Nat.{mul-le-mul}
use native.Mathlib.Omega.{arith}
use lib.ListN.{length, get_or, take, drop, length-drop}
use lib.Seq.{ext_get_or, length-take-le, get_or-take, get_or-drop}
use Rattle.lists.proofs.Tabs.{get_d_tab, tab_cong}
use Rattle.lists.proofs.Join.{get_d_first}
use Rattle.settings.proofs.LegalSettings.{LegalRate, LegalBits}
use Rattle.rules.specs.Word.{parity_of, packet_at, sent_word}
use Rattle.remainder.specs.Packets.{parity_byte, parities_of}
use Rattle.rules.proofs.Packets.{packet_part, length_packet}
use Rattle.remainder.proofs.Division.{length_parity}
use Rattle.remainder.proofs.Packets.{parities_fit_is, length_parities}
use Rattle.codeword.specs.Sent.{word_sent}
use Rattle.codeword.proofs.Sent.{sent_is}
use Rattle.puncturing.proofs.Linear.{legal_true}
use Rattle.bit_interleaver.specs.Symbols.{placed}
use Rattle.word_coder.specs.declared.Run.{Run}
use Rattle.word_coder.specs.declared.Coded.{Coded}
use Rattle.word_coder.specs.Step.{step_of, stepped, stepped_by}
use Rattle.rules.proofs.Counts.{few_blocks, each}
use Rattle.coder.specs.declared.frame.Progress.{Progress}
use Rattle.coder.specs.Steps.{ParitiesIn, Rows, Worded}

pub coded_few : {rate v : ℕ} → LegalRate rate → LegalBits v
    → (table : List ℕ) (run : Run) (stream : List ℕ) (coded : Coded)
    → coded ≡ step_of table rate v run stream → coded.count ≤ 1632
unfolding step_of stepped stepped_by
coded_few {rate} {v} legal bits table run stream coded e =
    subst (λ (c : Coded). c.count ≤ 1632) (sym e)
    (rw (legal_true legal) (mul-le-mul (few_blocks legal run.left) (each bits).few))

-- what `code_word` does, from its parts
pub word_done : (table : List ℕ) (rate v : ℕ) (progress : Progress) (stream carriers : List ℕ) (coded : Coded)
    (carriers' : List ℕ) → coded ≡ step_of table rate v progress.run stream
    → carriers' ≡ placed v coded.symbols progress.written coded.count carriers
    → Worded table rate v progress stream carriers
    (record { run = coded.run; written = progress.written + coded.count }) carriers'
word_done table rate v progress stream carriers coded carriers' same p =
    record {
      run_is = ap (λ (x : Coded). x.run) same;
      written_is = ap (λ (x : Coded). progress.written + x.count) same;
      carriers_are = p ∙ ap (λ (x : Coded). placed v x.symbols progress.written x.count carriers) same;
    }

-- ---- the parities

module _ (packets : List ℕ) where
  -- the part of the run that holds so many packets from p on
  abbrev part : ℕ → ℕ → List ℕ
  part p count = take (188 * p + 188 * count - 188 * p) (drop (188 * p) packets)

  -- the next packet, where it isn't the first of 32
  pub rows_more : (rows : List ℕ) (p : ℕ) → Rows packets p rows → ((p + 1) % 32 ≡ 0 → ⊥) → Rows packets (p + 1) rows
  rows_more rows p at more =
      record { row = λ k j e h lt. let other : (p + 1) / 32 ≡ p / 32 = omega arith in at.row k j (e ∙ other) h lt }

  part_packet : (p count q : ℕ) → q < count → 188 * p + 188 * count ≤ length packets
      → packet_at (part p count) q ≡ packet_at packets (p + q)
  part_packet p count q few inside =
      unfold packet_at in tab_cong 188 _ _ (λ j lt.
      let place : 188 * p + (188 * q + j) ≡ 188 * (p + q) + j = omega arith in
      get_or-take (188 * p + 188 * count - 188 * p) (drop (188 * p) packets) (188 * q + j) 0 (omega arith)
      ∙ get_or-drop (188 * p) packets (188 * q + j) 0 ∙ ap (λ (i : ℕ). get_or packets i 0) place)

  pub part_long : (p count : ℕ) → 188 * p + 188 * count ≤ length packets → length (part p count) ≡ 188 * count
  part_long p count inside =
      length-take-le (188 * p + 188 * count - 188 * p) (drop (188 * p) packets)
      (omega (arith, length-drop (188 * p) packets)) ∙ omega arith

  pub rows_fresh : (p count : ℕ) (area : List ℕ) → p % 32 ≡ 0 → count ≤ length packets / 188 - p
      → (count ≡ length packets / 188 - p) ⊎ (count ≡ 32) → 188 * p + 188 ≤ length packets
      → ParitiesIn (part p count) area → Rows packets p area
  unfolding parity_byte
  rows_fresh p count area first few all some at = record { row = row }
    where
      below : (k : ℕ) → k / 32 ≡ p / 32 → 188 * k + 188 ≤ length packets
          → (count ≡ length packets / 188 - p) ⊎ (count ≡ 32) → k % 32 < count
      below k e h (inl s) = omega arith
      below k e h (inr s) = omega arith

      inside : 188 * p + 188 * count ≤ length packets
      inside = omega arith

      row : (k j : ℕ) → k / 32 ≡ p / 32 → 188 * k + 188 ≤ length packets → j < 16
          → get_or area (16 * (k % 32) + j) 0 ≡ get_or (parity_of (packet_at packets k)) j 0
      row k j e h lt =
          let here : p + k % 32 ≡ k = omega arith in
          let short : k % 32 < count = below k e h all in
          let long = part_long p count inside in
          let packet : (16 * (k % 32) + j) / 16 ≡ k % 32 = omega arith in
          let byte : (16 * (k % 32) + j) % 16 ≡ j = omega arith in
          at.byte (16 * (k % 32) + j) (omega (arith, long))
          ∙ ap₂ (λ (n i : ℕ). get_or (parity_of (packet_at (part p count) n)) i 0) packet byte
          ∙ ap (λ (l : List ℕ). get_or (parity_of l) j 0)
          (part_packet p count (k % 32) short inside ∙ ap (packet_at packets) here)

-- the parities that the first part of an area took in
pub parities_put : (packets before part behind : List ℕ) → length packets ≡ 188 * (length packets / 188)
    → length before ≡ 16 * (length packets / 188) → part ≡ parities_of packets before
    → ParitiesIn packets (part ++ behind)
unfolding parities_of
parities_put packets before part behind whole room e =
    let long = ap length e ∙ length_parities packets before (length packets / 188) whole room in
    record {
      byte = λ k lt.
          get_d_first part behind k (omega (arith, long)) ∙ ap (λ (l : List ℕ). get_or l k 0) e
          ∙ rw (parities_fit_is packets before (length packets / 188) whole room)
          (get_d_tab (length before) (parity_byte packets) k (omega (arith, room)));
    }

-- the first part of an area
pub front_long : (area : List ℕ) (n : ℕ) → n ≤ length area → length (take (n - 0) area) ≡ n
front_long area n room = length-take-le (n - 0) area (omega arith) ∙ omega arith

-- ---- the word sent

-- from the parts of the packets and of the rows that a turn lends
module _ (packets rows : List ℕ) (p : ℕ) (at : Rows packets p rows) (room : length rows ≡ 512)
    (inside : 188 * p + 188 ≤ length packets) where
  abbrev row : List ℕ
  row = take (16 * (p % 32) + 16 - 16 * (p % 32)) (drop (16 * (p % 32)) rows)

  row_parity : row ≡ parity_of (packet_at packets p)
  row_parity =
      let start = 16 * (p % 32) in
      let long : length row ≡ 16 =
      length-take-le (start + 16 - start) (drop start rows) (omega (arith, length-drop start rows)) ∙ omega arith in
      ext_get_or 0 row (parity_of (packet_at packets p)) (long ∙ sym (length_parity (packet_at packets p)))
      (λ j lt. get_or-take (start + 16 - start) (drop start rows) j 0 (omega (arith, long)) ∙ get_or-drop start rows j 0
      ∙ at.row p j refl inside (omega (arith, long)))

  pub sent_part : (word : List ℕ) → word ≡ word_sent (take (188 * p + 188 - 188 * p) (drop (188 * p) packets)) row
      → word ≡ sent_word (packet_at packets p)
  sent_part word e =
      e ∙ ap (λ (packet : List ℕ). word_sent packet row) (packet_part packets p inside)
      ∙ sent_is (packet_at packets p) row (length_packet packets p) row_parity
