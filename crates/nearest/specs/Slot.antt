-- "Each packet fills a slot of 189 bytes: the number of bytes corrected, 0 to 8, then the 188 bytes. 255: no codeword
-- within eight. 254: it doesn't begin with 47. After 254 or 255 come 188 zeros."
--     Slot      what the slot of a received word may hold
-- proofs/SlotUnique.antt: it allows one result alone.
use Rattle.std.specs.Prelude.{◌≡◌, ◌≢◌, List, ◌∷◌, ℕ, ◌≤◌, get_or, take, replicate}
use Rattle.nearest.specs.Codeword.{Codeword, distance}

-- "47 is put in front of its bytes 0 to 202": a wrong 47 counts among the eight
abbrev pub restored : List ℕ → List ℕ
restored received = 0x47 ∷ received

pub data Slot (received : List ℕ) : List ℕ → Type 0 where
  corrected : (c : List ℕ) → Codeword c → distance c (restored received) ≤ 8 → get_or c 0 0 ≡ 0x47
      → Slot received (distance c (restored received) ∷ take 188 c)
  other_start : (c : List ℕ) → Codeword c → distance c (restored received) ≤ 8 → get_or c 0 0 ≢ 0x47
      → Slot received (254 ∷ replicate 188 0)
  none : ((c : List ℕ) → Codeword c → distance c (restored received) ≤ 8 → ⊥) → Slot received (255 ∷ replicate 188 0)
