use Rattle.std.proofs.Common.{◌≡◌, ◌%◌, ◌^◌, ℕ, ap, ◌∙◌, arith}
use Rattle.dispersal.specs.Register.{generator_at}
use Rattle.dispersal.proofs.Jumps.{jumps, at_start, at_jump, at_stay, at_half, at_lt, at_end}
use Rattle.dispersal.proofs.register_at.Goals as goal
use Rattle.dispersal.proofs.register_at.Goals.{then-left-eq1, else-left-eq1}

pub loop-jump-init : goal.loop-jump-init
loop-jump-init c = (omega arith, at_start (c.args.place % 32767))

pub jumped-register-requires : goal.jumped-register-requires
jumped-register-requires c = at_lt _ _ c.loop-jump.invariant.1

pub loop-jump-preserved : goal.loop-jump-preserved
unfolding jumps
loop-jump-preserved c =
    let at = c.loop-jump in
    let k = at.jump-index in
    let place = c.args.place % 32767 in
    let inv = at.invariant in (
      at_half place k at.left at.register inv.0 inv.1,
      elim c.if-left-eq1.branch [
        | then-left-eq1 w ↦ w.register-is ∙ w.jumped-register.ensures
            ∙ at_jump place k at.left at.register inv.0 inv.1 c.loop-jump-test.true w.if-left-eq1.true
        | else-left-eq1 w ↦ w.register-is ∙ at_stay place k at.left at.register inv.0 inv.1 w.if-left-eq1.false
      ],
    )

pub returns : goal.returns
returns c =
    let all : c.loop-jump.jump-index ≡ 15 = omega arith in
    c.loop-jump.invariant.1 ∙ ap (λ (k : ℕ). generator_at (c.args.place % 32767 % 2 ^ k)) all ∙ at_end c.args.place
