-- What `slot::give` may do with a received word and the area of its slot.
--     Given     the slot's area becomes this, and the answer has that number
-- proofs/SlotUnique.antt: it allows one result alone.
use Rattle.std.specs.Prelude.{◌≡◌, ◌⊎◌, ◌≢◌, List, ℕ, length}
use Rattle.nearest.specs.Slot.{Slot}

pub data Given (received slot : List ℕ) : List ℕ → ℕ → Type 0 where
  given : (slot' : List ℕ) → length received ≡ 203 → length slot ≡ 189 → Slot received slot'
      → Given received slot slot' 0
  -- "5: packet, word or answer area of wrong length"
  refused : (length received ≢ 203) ⊎ (length slot ≢ 189) → Given received slot slot 5
