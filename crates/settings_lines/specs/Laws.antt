-- The lengths of the program's areas, as its code has them.
--     room_is, answer_room_is
use Rattle.std.specs.Prelude.{◌≡◌}
use Rattle.std.proofs.Common.{refl}
use Rattle.text_lines.specs.Turned.{line_room, answer_room}
use Rattle.settings_lines.specs.Turns.{frames_room, frames_answer_room}

pub room_is : 9 ≡ frames_room
room_is = unfold frames_room line_room in refl

pub answer_room_is : 15 ≡ frames_answer_room
answer_room_is = unfold frames_answer_room answer_room in refl
