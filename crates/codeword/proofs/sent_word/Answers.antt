use Rattle.std.proofs.Common.{◌≡◌, length, drop, arith, sym, refl, ap, ◌∙◌}
use Rattle.std.proofs.lemmas.Slice.{between_to_end}
use Rattle.codeword.proofs.Sent.{other_packet, other_parity, whole_word}
use Rattle.codeword.proofs.Laid.{put_behind, laid_is}
use Rattle.codeword.proofs.sent_word.Goals as goal

pub returns-then-packet-ne188 : goal.returns-then-packet-ne188
returns-then-packet-ne188 c = other_packet _ _ c.if-packet-ne188.true

pub returns-then-parity-ne16 : goal.returns-then-parity-ne16
returns-then-parity-ne16 c = other_parity _ _ c.if-packet-ne188.false c.if-parity-ne16.true

pub returns : goal.returns
returns c =
    let front = c.copy_from_slice in
    let parity = c.copy_from_slice-2 in
    let parity_is : parity.new.self ≡ c.args.parity.now = parity.ensures.after in
    let front_is : front.new.self ≡ drop 1 c.args.packet.now =
    front.ensures.after
    ∙ between_to_end c.args.packet.now 1 (length c.args.packet.now) (omega arith) in
    let long : length parity.new.self ≡ 16 = omega (arith, ap length parity_is) in
    put_behind 187 16 203 0x47 0 front.new.self parity.new.self _ front.ensures.len long refl refl
    ∙ rw (front_is, parity_is)
    (laid_is _ _ c.if-packet-ne188.false c.if-parity-ne16.false
    ∙ sym (whole_word _ _ c.if-packet-ne188.false c.if-parity-ne16.false))
