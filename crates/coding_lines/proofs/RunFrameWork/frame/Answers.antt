-- `coding_lines`: a line after the first. A frame of each small layer fits into the area of the packets.
use Rattle.std.proofs.Common.{◌≡◌, ap, ◌∙◌, arith, ℕ, ◌*◌, ◌≤◌, true, false}
use Rattle.settings.specs.declared.Settings.{Settings}
use Rattle.settings.specs.Sizes.{packets_of}
use Rattle.settings.proofs.Frame.{packets_few}
use Rattle.text_lines.specs.First.{small}
use Rattle.text_lines.proofs.Answers.{told_put}
use Rattle.text_lines.proofs.Areas.{read_frame_is, read_small, read_room, read_bytes}
use Rattle.text_lines.proofs.Small.{small_sizes}
use Rattle.coding_lines.proofs.Tellings.{frame_wrong, frame_right}
use Rattle.coding_lines.proofs.RunFrameWork.frame.Goals as goal

few : (settings : Settings) → small settings ≡ true → 188 * packets_of settings ≤ 23688
few settings fine = omega (arith, (small_sizes settings fine).0)

pub overflow_mul-count : goal.overflow_mul-count
overflow_mul-count c = omega (arith, c.packets-count.ensures, packets_few c.args.self.now.state.settings)

pub returns-then-not-read_frame-clause-answered : goal.returns-then-not-read_frame-clause-answered
returns-then-not-read_frame-clause-answered c = λ room.
    let size = ap (λ (n : ℕ). 188 * n) c.packets-count.ensures in
    let not = read_frame_is _ _ _ _ _ _ size (few _) c.packet_area-packets.ensures _ _ c.read_frame.ensures false
    c.if-not-read_frame.true in
    let is = frame_wrong c.args.self.now _ not in
    let told =
    told_put c.end.new.self c.args.out.now 255 _ _ _ (omega (arith, room)) c.put_answer.ensures.value
    c.put_answer.ensures.out_after in
    record { text = _; next = _; told = told; says = (is.0, c.end.ensures ∙ is.1) }

pub slice_bounds-coded-end : goal.slice_bounds-coded-end
slice_bounds-coded-end c =
    let size = ap (λ (n : ℕ). 188 * n) c.packets-count.ensures in
    read_room _ _ _ _ _ _ size (few _) c.packet_area-packets.ensures _ _ c.read_frame.ensures
    c.if-not-read_frame.false

pub coded-requires : goal.coded-requires
coded-requires c =
    let size = ap (λ (n : ℕ). 188 * n) c.packets-count.ensures in
    read_small _ _ _ _ _ _ size (few _) c.packet_area-packets.ensures _ _ c.read_frame.ensures
    c.if-not-read_frame.false

pub returns-clause-answered : goal.returns-clause-answered
returns-clause-answered c = λ room.
    let size = ap (λ (n : ℕ). 188 * n) c.packets-count.ensures in
    let read = c.if-not-read_frame.false in
    let frame =
    read_frame_is _ _ _ _ _ _ size (few _) c.packet_area-packets.ensures _ _ c.read_frame.ensures true read in
    let bytes = read_bytes _ _ _ _ _ _ size (few _) c.packet_area-packets.ensures _ _ c.read_frame.ensures read in
    let is = frame_right c.args.self.now _ frame _ bytes in
    record { text = _; next = _; told = (c.coded.ensures room); says = is }
