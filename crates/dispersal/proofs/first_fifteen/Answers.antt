use Rattle.std.proofs.Common.{◌≡◌, ◌+◌, ◌*◌, ℕ, sym, ap, ◌∙◌, arith}
use mathlib.Core.Path.{ap₂}
use Rattle.lists.proofs.Fill.{fill_new, fill_more}
use Rattle.rules.specs.Dispersal.{byte_from}
use Rattle.dispersal.specs.Register.{stages_of, register_from}
use Rattle.dispersal.specs.Steps.{next_byte, next_register}
use Rattle.dispersal.proofs.Registers.{stages_digits, register_stages, register_next, byte_next}
use Rattle.dispersal.proofs.first_fifteen.Goals as goal

module _ (register state byte j : ℕ) (here : state ≡ register_from (stages_of register) (8 * j))
    (out : byte ≡ next_byte state) where
  right_byte : byte ≡ byte_from (stages_of register) j
  right_byte = out ∙ ap next_byte here ∙ byte_next (stages_of register) (stages_digits register) j

  right_state : (next : ℕ) → next ≡ next_register state byte → next ≡ register_from (stages_of register) (8 * (j + 1))
  right_state next e = e ∙ ap₂ next_register here right_byte
      ∙ register_next (stages_of register) (stages_digits register) j

pub loop-j-init : goal.loop-j-init
loop-j-init c = (sym (register_stages c.args.register), fill_new 204 _)

pub loop-j-preserved : goal.loop-j-preserved
loop-j-preserved c =
    let at = c.loop-j in
    let register = c.args.register in (
      right_state register at.state c.next_byte-byte.result at.j at.invariant.0
          c.next_byte-byte.ensures _ c.next_register-state.ensures,
      fill_more 204 _ at.invariant.1 (omega arith) _
          (right_byte register at.state _ at.j at.invariant.0 c.next_byte-byte.ensures),
    )

pub returns : goal.returns
returns c =
    let put = c.loop-j.invariant.1 in
    record { len = put.len; done = λ k h. put.done k (omega arith) }
