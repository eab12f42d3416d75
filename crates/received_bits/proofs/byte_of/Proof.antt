-- `received_bits::byte_of` meets its contract.
use mathlib.Core.Path.{◌≡◌, ap}
use mathlib.Core.List.{List}
use Prim.Native.Nat.{ℕ, ◌+◌, ◌*◌, ◌%◌}
use native.Mathlib.Omega.{arith}
use borrow.Author.Rules.{rules}
use lib.ListN.{get_or}
use Rattle.lists.specs.Binary.{binary}
use Rattle.rules.specs.Back.{message_byte}
use Rattle.received_bits.proofs.byte_of.Statement.{statement}
use Rattle.received_bits.proofs.byte_of.Tie as tie

packed : (bits : List ℕ) (j : ℕ)
    → get_or bits (8 * j) 0 % 2 * 128 + get_or bits (8 * j + 1) 0 % 2 * 64 + get_or bits (8 * j + 2) 0 % 2 * 32
    + get_or bits (8 * j + 3) 0 % 2 * 16
    + get_or bits (8 * j + 4) 0 % 2 * 8 + get_or bits (8 * j + 5) 0 % 2 * 4 + get_or bits (8 * j + 6) 0 % 2 * 2
    + get_or bits (8 * j + 7) 0 % 2 ≡ message_byte bits j
unfolding message_byte binary
packed bits j =
    let e : get_or bits (8 * j) 0 ≡ get_or bits (8 * j + 0) 0 = ap (λ (i : ℕ). get_or bits i 0)
    (omega arith) in omega arith

pub byte_of_spec : {M : Type 1} → statement M
byte_of_spec =
    tie.close (tie.spec (λ c. search rules) (λ c. search rules) (λ c. search rules) (λ c. search rules)
    (λ c. search rules) (λ c. search rules) (λ c. search rules) (λ c. search rules) (λ c. search rules)
    (λ c. search rules) (λ c. search rules) (λ c. search rules) (λ c. search rules) (λ c. search rules)
    (λ c. search rules) (λ c. search rules) (λ c. search rules) (λ c. search rules) (λ c. search rules)
    (λ c. search rules) (λ c. search rules) (λ c. search rules) (λ c. search rules) (λ c. search rules)
    (λ c. search rules) (λ c. search rules) (λ c. search rules) (λ c. search rules) (λ c. search rules)
    (λ c. search rules) (λ c. packed _ _))
