use Rattle.std.proofs.Common.{◌≡◌, ◌+◌, ◌-◌, ◌*◌, ◌/◌, ◌%◌, ◌^◌, ◌≤◌, ◌<◌, ℕ, refl, sym, ap, ◌∙◌, arith}
use mathlib.Core.Path.{ap₂}
use native.Mathlib.Numerals.{add-one}
use lib.Bits.{bit_xor}
use Rattle.dispersal.specs.Steps.{mixed}
use Rattle.dispersal.proofs.Jumps.{steps_ahead, mixed_lt}
use Rattle.dispersal.proofs.jumped.Goals as goal

pub loop-i-init : goal.loop-i-init
unfolding mixed
loop-i-init c = refl

one_more : (register jump i sum : ℕ) → register < 32768 → i ≤ 14 → sum ≡ mixed jump i register → bit_xor sum
    (jump / 2 ^ i % 2 * ((register * 16384 + bit_xor register (register / 2) % 16384) / 2 ^ (14 - i) % 32768))
    ≡ mixed jump (i + 1) register
one_more register jump i sum small few e =
    unfold mixed in ap₂ (λ (x y : ℕ). bit_xor x (jump / 2 ^ i % 2 * y)) e (steps_ahead register i small few)
    ∙ ap (λ (k : ℕ). mixed jump k register) (sym (add-one i))

pub loop-i-preserved : goal.loop-i-preserved
loop-i-preserved c =
    let at = c.loop-i in
    let now = c.from-now.ensures in
    let bits = c.from-bits.ensures in
    rw (now, bits) (one_more c.args.register c.args.jump at.i at.sum c.requires (omega arith) at.invariant)

last : (c : goal.After-loop-i) → c.loop-i.i ≡ 15
last c = omega arith

pub overflow_cast-result : goal.overflow_cast-result
overflow_cast-result c =
    let small = mixed_lt c.args.jump c.loop-i.i c.args.register c.requires in
    omega (arith, c.loop-i.invariant)

pub returns : goal.returns
returns c = c.loop-i.invariant ∙ ap (λ (k : ℕ). mixed c.args.jump k c.args.register) (last c)
