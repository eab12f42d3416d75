-- A received word that is near a codeword which begins with 47 gives that codeword's packet.
--     distance_most     two words that agree from a place on differ in no more bytes than there are before it
--     restored_near     so does a codeword that begins with 47 from a received word
--     near_gives        the count is the distance, and the packet the codeword's first 188 bytes
use mathlib.Core.Path.{◌≡◌}
use mathlib.Core.Bool.{Bool, true, false, cond}
use mathlib.Core.List.{List, [], ◌∷◌}
use Prim.Native.Nat.{ℕ, zero, suc, ◌≤◌, ◌<◌, zero-le}
use native.Mathlib.Nat.{zero-add}
use native.Mathlib.Omega.{arith}
use lib.Dec.{eqb}
use lib.ListN.{length, get_or, take}
use borrow.Author.Tests.{eq-eqb}
use Rattle.nearest.specs.Codeword.{Codeword, distance}
use Rattle.nearest.specs.Slot.{restored, Slot, corrected}
use Rattle.nearest.proofs.SlotUnique.{slot_unique}

one_most : (b : Bool) → cond b 0 1 ≤ 1
one_most true = omega arith
one_most false = omega arith

pub distance_most : (from : ℕ) (c d : List ℕ) → length c ≡ length d
    → ((j : ℕ) → from ≤ j → j < length c → get_or c j 0 ≡ get_or d j 0) → distance c d ≤ from
unfolding distance
distance_most from [] d e same = zero-le
distance_most from (a ∷ c) [] e same = absurd (omega arith)
distance_most zero (a ∷ c) (b ∷ d) e same =
    rw (eq-eqb a b (same 0 zero-le (omega arith)), zero-add (distance c d))
    (distance_most zero c d (omega arith) (λ j h lt. same (suc j) zero-le (omega arith)))
distance_most (suc from) (a ∷ c) (b ∷ d) e same =
    omega (
      arith,
      one_most (eqb a b),
      distance_most from c d (omega arith) (λ j h lt. same (suc j) (omega arith) (omega arith)),
    )

pub restored_near : (from : ℕ) (received c : List ℕ) → length c ≡ suc (length received) → get_or c 0 0 ≡ 0x47
    → ((j : ℕ) → from ≤ j → j < length received → get_or c (suc j) 0 ≡ get_or received j 0)
    → distance c (restored received) ≤ from
unfolding distance
restored_near from received [] e begins same = absurd (omega arith)
restored_near from received (a ∷ c) e begins same =
    rw (eq-eqb a 0x47 begins, zero-add (distance c received))
    (distance_most from c received (omega arith) (λ j h lt. same j h (omega arith)))

pub near_gives : (received c slot : List ℕ) → length received ≡ 203 → Codeword c → distance c (restored received) ≤ 8
    → get_or c 0 0 ≡ 0x47 → Slot received slot → slot ≡ distance c (restored received) ∷ take 188 c
near_gives received c slot long code near begins allowed =
    slot_unique received slot (distance c (restored received) ∷ take 188 c) long allowed (corrected c code near begins)
