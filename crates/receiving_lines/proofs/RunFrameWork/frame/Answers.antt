-- `receiving_lines`: a line after the first. A frame of each small layer fits into the area of the carriers.
use Rattle.std.proofs.Common.{◌≡◌, ◌≤◌, refl, arith, true, false}
use Rattle.settings.specs.declared.Settings.{Settings}
use Rattle.settings.specs.Sizes.{carriers_of}
use Rattle.text_lines.specs.First.{small}
use Rattle.text_lines.proofs.Answers.{told_put, told_as}
use Rattle.text_lines.proofs.Areas.{read_frame_is, read_small, read_room, read_bytes}
use Rattle.text_lines.proofs.Small.{small_sizes}
use Rattle.receiving_lines.proofs.Tellings.{frame_wrong, frame_right}
use Rattle.receiving_lines.proofs.RunFrameWork.frame.Goals as goal

few : (settings : Settings) → small settings ≡ true → carriers_of settings ≤ 39168
few settings fine = (small_sizes settings fine).1

pub returns-then-not-read_frame-clause-answered : goal.returns-then-not-read_frame-clause-answered
returns-then-not-read_frame-clause-answered c = λ room.
    let not =
    read_frame_is _ _ _ _ _ _ c.carriers-count.ensures (few _) c.carrier_area-carriers.ensures _ _
    c.read_frame.ensures
    false c.if-not-read_frame.true in
    let told =
    told_put c.end.new.self c.args.out.now 255 _ _ _ (omega (arith, room)) c.put_answer.ensures.value
    c.put_answer.ensures.out_after in
    frame_wrong c.args.self.now _ c.args.out.now _ _ _ not (told_as refl c.end.ensures told)

pub slice_bounds-taken-end : goal.slice_bounds-taken-end
slice_bounds-taken-end c =
    read_room _ _ _ _ _ _ c.carriers-count.ensures (few _) c.carrier_area-carriers.ensures _ _
    c.read_frame.ensures c.if-not-read_frame.false

pub taken-requires : goal.taken-requires
taken-requires c =
    read_small _ _ _ _ _ _ c.carriers-count.ensures (few _) c.carrier_area-carriers.ensures _ _
    c.read_frame.ensures
    c.if-not-read_frame.false

pub returns-clause-answered : goal.returns-clause-answered
returns-clause-answered c = λ room.
    let read = c.if-not-read_frame.false in
    let frame =
    read_frame_is _ _ _ _ _ _ c.carriers-count.ensures (few _) c.carrier_area-carriers.ensures _ _
    c.read_frame.ensures
    true read in
    let bytes =
    read_bytes _ _ _ _ _ _ c.carriers-count.ensures (few _) c.carrier_area-carriers.ensures _ _
    c.read_frame.ensures
    read in
    frame_right c.args.self.now _ c.args.out.now _ _ _ frame _ bytes (c.taken.ensures room)
