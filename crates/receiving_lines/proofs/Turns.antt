-- Turns of the program.
--     receiving_turn_unique     any two results of a turn are equal
use mathlib.Core.Path.{◌≡◌}
use mathlib.Core.List.{List}
use Prim.Native.Nat.{ℕ}
use Rattle.text_lines.specs.declared.Reading.{Reading}
use Rattle.text_lines.specs.declared.work.Turned.{Turned}
use Rattle.text_lines.proofs.Unique.{given_unique, same_turned}
use Rattle.receiving_lines.specs.declared.Run.{Run}
use Rattle.receiving_lines.specs.Lines.{LineTold}
use Rattle.receiving_lines.specs.Turns.{receiving_over, receiving_room, receiving_answer_room, ReceivingTurn}
use Rattle.receiving_lines.proofs.Unique.{line_unique}

pub receiving_turn_unique : (run : Run) (reading : Reading) (text line out : List ℕ) (r s : Turned Run)
    (line' line'' out' out'' : List ℕ) → ReceivingTurn run reading text line out r line' out'
    → ReceivingTurn run reading text line out s line'' out'' → (r ≡ s) × (line' ≡ line'') × (out' ≡ out'')
receiving_turn_unique run reading text line out r s line' line'' out' out'' one other =
    let same =
    given_unique receiving_over LineTold line_unique receiving_room run receiving_answer_room reading text line out
    _ _ _ _ _ _ _ _ _ _ _ _ _ _ one other in
    (same_turned r s same.0 same.1 same.2 same.3 same.4, same.5, same.6)
