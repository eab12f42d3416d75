-- The words of rule 3 as theorems, and both ways one after the other.
--     there_comes_out     byte j of word p comes out at place j of word p + (j mod 12)
--     both_ways           going back after interleaving, every byte comes out 11 words later
use mathlib.Core.Path.{◌≡◌, refl, ap, ◌∙◌}
use mathlib.Core.List.{List}
use Prim.Native.Nat.{ℕ, ◌+◌, ◌-◌, ◌*◌, ◌%◌, ◌≤◌}
use native.Mathlib.Omega.{arith}
use Rattle.rules.specs.Bytes.{waits_there, waits_back, stream_byte, comes_out_at}
use Rattle.rules.proofs.Stream.{stream_late, comes_out}
use Rattle.rules.proofs.Ways.{both_waits}

-- "byte j of word p comes out at place j of word p + (j mod 12)"
pub there_comes_out : (memory : List ℕ) (sent : ℕ → ℕ) (p j : ℕ)
    → stream_byte waits_there memory sent (204 * (p + j % 12) + j) ≡ sent (204 * p + j)
there_comes_out memory sent p j =
    unfold comes_out_at waits_there in let branch : (204 * p + j) % 12 ≡ j % 12 = omega arith in
    ap (stream_byte waits_there memory sent) {x = 204 * (p + j % 12) + j} {y = comes_out_at waits_there (204 * p + j)}
    (omega arith) ∙ comes_out waits_there memory sent (204 * p + j)

-- Whatever the memories held, going back after interleaving gives, from byte 2,244 on, what went in 11 words before.
pub both_ways : (memory receiving : List ℕ) (sent : ℕ → ℕ) (b : ℕ) → 2244 ≤ b
    → stream_byte waits_back receiving (stream_byte waits_there memory sent) b ≡ sent (b - 2244)
both_ways memory receiving sent b h =
    let i = b % 12 in
    let eleven = both_waits (b % 12) (omega arith) in
    let branch : (b - 204 * waits_back (b % 12)) % 12 ≡ b % 12 = omega arith in
    stream_late waits_back receiving (stream_byte waits_there memory sent) b (b % 12) refl (omega arith)
    ∙ stream_late waits_there memory sent (b - 204 * waits_back (b % 12)) (b % 12) branch (omega arith)
    ∙ ap sent (omega arith)

-- ---- word 0: byte 1 comes out at byte 205 of the stream, byte 11 at 2,255, byte 12 at 12, byte 203 at 2,447

pub byte_1 : comes_out_at waits_there 1 ≡ 205
byte_1 = unfold comes_out_at waits_there in refl

pub byte_11 : comes_out_at waits_there 11 ≡ 2255
byte_11 = unfold comes_out_at waits_there in refl

pub byte_12 : comes_out_at waits_there 12 ≡ 12
byte_12 = unfold comes_out_at waits_there in refl

pub byte_203 : comes_out_at waits_there 203 ≡ 2447
byte_203 = unfold comes_out_at waits_there in refl
