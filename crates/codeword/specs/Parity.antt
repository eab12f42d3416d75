-- Rule 1: "The codeword of a packet is its 188 bytes, then 16 parity bytes."
--     ParityOf m p p' r      what `parity` may do with a message m: the area p becomes p', and the answer's number is r
-- proofs/Unique.antt: it allows one result alone. proofs/Message.antt: p' is `parity_of m`, a function of `remainder`.
use Rattle.std.specs.Prelude.{◌≡◌, ◌⊎◌, ◌≢◌, List, ◌++◌, ℕ, length}
use Rattle.nearest.specs.Codeword.{Codeword}

pub data ParityOf (m p : List ℕ) : List ℕ → ℕ → Type 0 where
  -- the message and the parity behind it are a codeword
  parity : (p' : List ℕ) → length m ≡ 188 → length p ≡ 16 → length p' ≡ 16 → Codeword (m ++ p') → ParityOf m p p' 0
  -- "5: packet, word or answer area of wrong length"
  refused : (length m ≢ 188) ⊎ (length p ≢ 16) → ParityOf m p p 5
