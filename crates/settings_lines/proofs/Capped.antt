-- Of a line that is longer than one of settings it is enough to hold the front.
--     answer_capped
use mathlib.Core.Path.{◌≡◌, refl, sym, ap, ◌∙◌}
use mathlib.Core.List.{List}
use Prim.Native.Nat.{ℕ, ◌<◌}
use native.Mathlib.Omega.{arith}
use native.Mathlib.Decide.{dec_le}
use lib.ListN.{length, take, length-take}
use lib.Seq.{take_all}
use Rattle.text_lines.specs.First.{well_formed}
use Rattle.text_lines.proofs.Cuts.{long_not_written}
use Rattle.settings_lines.specs.Lines.{printed, answer_to}
use Rattle.settings_lines.specs.Turns.{frames_room}
use Rattle.settings_lines.specs.Laws.{room_is}

long_answer : (line : List ℕ) → 8 < length line → answer_to line ≡ printed 255 0 0
long_answer line long = unfold answer_to well_formed in rw (long_not_written 4 line long) refl

pub answer_capped : (line : List ℕ) → answer_to (take frames_room line) ≡ answer_to line
answer_capped line = elim (dec_le (length line) frames_room) [
  | yes h ↦ ap answer_to (take_all frames_room line h)
  | no h ↦ long_answer (take frames_room line) (omega (arith, room_is, length-take frames_room line))
      ∙ sym (long_answer line (omega (arith, room_is)))
]
