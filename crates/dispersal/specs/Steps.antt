-- What the inner functions say of each other.
--     next_byte, next_register    eight steps of the register
--     Begun                       the first bytes of a sequence are there
--     GoneOn                      it goes on, each byte the sum of two before it
--     step, steps                 steps of the register
--     mixed                       the sum of the registers after 0, 1, 2, .. steps that a jump's bits name
use Rattle.std.specs.Prelude.{◌≡◌, List, ℕ, zero, suc, ◌+◌, ◌*◌, ◌/◌, ◌%◌, ◌^◌, ◌<◌, length, get_or}
use Rattle.std.specs.Int.Bits.{bit_xor}
use Rattle.rules.specs.Dispersal.{byte_from}
use Rattle.dispersal.specs.Register.{stages_of}

unfoldable pub next_byte : ℕ → ℕ
next_byte register = bit_xor (register / 64) (register / 128) % 256

unfoldable pub next_register : ℕ → ℕ → ℕ
next_register register byte = register % 128 * 256 + byte

pub record Begun (count register : ℕ) (sequence : List ℕ) : Type 0 where
  pub len : length sequence ≡ 204
  pub done : (k : ℕ) → k < count → get_or sequence k 0 ≡ byte_from (stages_of register) k

pub record GoneOn (far near end : ℕ) (old new : List ℕ) : Type 0 where
  pub len : length new ≡ 204
  pub first : (k : ℕ) → k < far → get_or new k 0 ≡ get_or old k 0
  pub next : (k : ℕ) → k + far < end → get_or new (k + far) 0 ≡ bit_xor (get_or new (k + near) 0) (get_or new k 0)

unfoldable pub step : ℕ → ℕ
step register = register % 16384 * 2 + bit_xor (register / 8192 % 2) (register / 16384 % 2)

unfoldable pub steps : ℕ → ℕ → ℕ
steps zero register = register
steps (suc n) register = step (steps n register)

unfoldable pub mixed : ℕ → ℕ → ℕ → ℕ
mixed jump zero register = 0
mixed jump (suc i) register = bit_xor (mixed jump i register) (jump / 2 ^ i % 2 * steps i register)
