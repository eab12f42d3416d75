use Rattle.std.proofs.Common.{◌≡◌, ◌+◌, ◌-◌, ap, ◌∙◌, replicate, arith, rules, length, refl, ℕ}
use Rattle.lent_areas.proofs.Copies.{copied}
use Rattle.lent_areas.proofs.copy_out.Goals as goal

pub returns : goal.returns
returns c =
    let long : length c.split_at_mut-copied.result.1.now + c.min-count.result ≡ length c.args.out.now =
    c.split_at_mut-copied.ensures.back_len in
    let behind : length c.split_at_mut-copied.result.1.now ≡ length c.args.out.now - c.min-count.result = omega arith in
    let zeros = c.fill.ensures.after (λ y e. search rules) ∙ ap (λ (n : ℕ). replicate n 0) behind in
    let read = c.copy_from_slice.ensures.after in
    rw (read, zeros)
    (copied c.args.area.now _ c.args.place c.min-count.result (length c.args.out.now) (rw c.min.ensures refl)
    c.min-count.ensures)
