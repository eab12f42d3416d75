-- The packets of a frame, 188 bytes each.
--     length_packet, packet_lt     a packet has 188 elements, and they are bytes where the frame's are
--     packet_part                  the part of a run that a turn lends is its packet
use mathlib.Core.Path.{◌≡◌, ap, ◌∙◌}
use mathlib.Core.List.{List}
use Prim.Native.Nat.{ℕ, ◌+◌, ◌*◌, ◌-◌, ◌<◌, ◌≤◌}
use native.Mathlib.Omega.{arith}
use lib.ListN.{length, get_or, take, drop, length-drop}
use lib.Seq.{length-take-le, get_or-take, get_or-drop}
use Rattle.lists.proofs.Tabs.{tab_ext, tab_lt, length_tab}
use Rattle.rules.specs.Word.{packet_at}

pub length_packet : (packets : List ℕ) (p : ℕ) → length (packet_at packets p) ≡ 188
length_packet packets p = unfold packet_at in length_tab 188 (λ j. get_or packets (188 * p + j) 0)

pub packet_lt : (packets : List ℕ) (p : ℕ) → ((k : ℕ) → get_or packets k 0 < 256)
    → (k : ℕ) → get_or (packet_at packets p) k 0 < 256
unfolding packet_at
packet_lt packets p bytes =
    tab_lt 188 (λ j. get_or packets (188 * p + j) 0) 256 (omega arith) (λ j. bytes (188 * p + j))

pub packet_part : (packets : List ℕ) (p : ℕ) → 188 * p + 188 ≤ length packets
    → take (188 * p + 188 - 188 * p) (drop (188 * p) packets) ≡ packet_at packets p
packet_part packets p h =
    unfold packet_at in let size : 188 * p + 188 - 188 * p ≡ 188 = omega arith in
    ap (λ (n : ℕ). take n (drop (188 * p) packets)) size
    ∙ tab_ext 188 (λ j. get_or packets (188 * p + j) 0) (take 188 (drop (188 * p) packets))
    (length-take-le 188 (drop (188 * p) packets) (omega (arith, length-drop (188 * p) packets)))
    (λ j lt. get_or-take 188 (drop (188 * p) packets) j 0 lt ∙ get_or-drop (188 * p) packets j 0)
