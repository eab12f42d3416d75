-- Rule 1 for a run of packets: the number that `parities` answers. What becomes of the lent area is `parities_of` of
-- `remainder`'s specs/Packets.antt.
--     taking_parities     0, or the number of refusal
use Rattle.std.specs.Prelude.{not, List, [], ◌∷◌, ℕ}
use Rattle.settings.specs.Answers.{◌when◌, first_of}
use Rattle.remainder.specs.Packets.{parities_fit}

-- "5: packet, word or answer area of wrong length"
unfoldable pub taking_parities : List ℕ → List ℕ → ℕ
taking_parities packets out = first_of ((5 when not (parities_fit packets out)) ∷ [])
