-- "Sums done by hand": the rows of document 01's table marked *, "proved together, as one list under one statement",
-- and the punctured message at the two rates that the table leaves out.
--     _gives_           a row: the numbers that the rules' definitions give are those that document 01 has
--     CarriersOfByte    a row: the carriers that the list has for a byte of the stream, in every layer of some v and
--                       rate
--     AllRight          every row of a list holds
--     message           the message 1000000
--     sums              the list, in the table's order
-- proofs/Sums.antt: `sums_right`, that every row of the list holds.
use Rattle.std.specs.Prelude.{◌≡◌, ◌↔◌, ◌⊎◌, List, [], ◌∷◌, ℕ, ◌≤◌, get_or, replicate}
use Rattle.lists.specs.Tab.{tab}
use Rattle.settings.specs.declared.Settings.{Settings}
use Rattle.settings.specs.Legal.{starting}
use Rattle.field.specs.Field.{◌⊗◌}
use Rattle.rules.specs.Word.{parity_of}
use Rattle.rules.specs.Dispersal.{sequence_byte}
use Rattle.rules.specs.Bytes.{waits_there, comes_out_at}
use Rattle.rules.specs.Puncturing.{punctured}
use Rattle.rules.specs.Bits.{carrier_of}
use Rattle.coding_answers.specs.Listed.{Reached}

infix 20 ◌gives◌
abbrev pub ◌gives◌ : List ℕ → List ℕ → Type 0
computed gives written = computed ≡ written

abbrev pub CarriersOfByte : ℕ → ℕ → ℕ → (ℕ → Type 0) → Type 0
CarriersOfByte v rate b Written =
    (settings : Settings) → starting settings ≡ 0 → settings.rate ≡ rate → settings.v ≡ v
    → (carrier : ℕ) → Reached settings b carrier ↔ Written carrier

abbrev pub AllRight : List {1} (Type 0) → Type 0
AllRight [] = Unit {0}
AllRight (row ∷ rest) = row × AllRight rest

-- "message 1000000"
abbrev pub message : ℕ → ℕ
message n = get_or (1 ∷ 0 ∷ 0 ∷ 0 ∷ 0 ∷ 0 ∷ 0 ∷ []) n 0

unfoldable pub sums : List {1} (Type 0)
sums =
    -- "dispersal, first four bytes: 03 F6 08 34"
    (tab 4 sequence_byte gives 0x03 ∷ 0xF6 ∷ 0x08 ∷ 0x34 ∷ [])
    -- "02 times 80 in the field: 1D"
    ∷ (0x02 ⊗ 0x80 ∷ [] gives 0x1D ∷ [])
    -- "188 zero bytes: 16 zero parity bytes"
    ∷ (parity_of (replicate 188 0) gives replicate 16 0)
    -- "message 1000000 from zero, 1/2: 11 10 11 11 00 01 11"
    ∷ (punctured 1 0 message 7 gives 1 ∷ 1 ∷ 1 ∷ 0 ∷ 1 ∷ 1 ∷ 1 ∷ 1 ∷ 0 ∷ 0 ∷ 0 ∷ 1 ∷ 1 ∷ 1 ∷ [])
    -- "same, 2/3: 11 0 11 1 00 1 11"
    ∷ (punctured 2 0 message 7 gives 1 ∷ 1 ∷ 0 ∷ 1 ∷ 1 ∷ 1 ∷ 0 ∷ 0 ∷ 1 ∷ 1 ∷ 1 ∷ [])
    -- "same, 3/4: 11 0 1 11 0 0 11"
    ∷ (punctured 3 0 message 7 gives 1 ∷ 1 ∷ 0 ∷ 1 ∷ 1 ∷ 1 ∷ 0 ∷ 0 ∷ 1 ∷ 1 ∷ [])
    -- the same at the two rates that the table leaves out, 5/6: 11 0 1 1 0 01 1
    ∷ (punctured 4 0 message 7 gives 1 ∷ 1 ∷ 0 ∷ 1 ∷ 1 ∷ 0 ∷ 0 ∷ 1 ∷ 1 ∷ [])
    -- 7/8: 11 0 1 1 0 1 1
    ∷ (punctured 5 0 message 7 gives 1 ∷ 1 ∷ 0 ∷ 1 ∷ 1 ∷ 0 ∷ 1 ∷ 1 ∷ [])
    -- "word 0, byte 1 comes out at stream byte: 205"
    ∷ (comes_out_at waits_there 1 ∷ [] gives 205 ∷ [])
    -- "byte 11; byte 12; byte 203: 2255; 12; 2447"
    ∷ (comes_out_at waits_there 11 ∷ comes_out_at waits_there 12 ∷ comes_out_at waits_there 203 ∷ []
    gives 2255 ∷ 12 ∷ 2447 ∷ [])
    -- "16QAM, kept bits 0, 1, 2, 3: carriers: 0, 40, 80, 120"
    ∷ (tab 4 (carrier_of 4) gives 0 ∷ 40 ∷ 80 ∷ 120 ∷ [])
    -- "64QAM, kept bit 11: carrier: 121"
    ∷ (carrier_of 6 11 ∷ [] gives 121 ∷ [])
    -- "QPSK 1/2, byte 0 of word 0 in the list: carriers 0 to 13 and 120 to 133"
    ∷ CarriersOfByte 2 1 (comes_out_at waits_there 0) (λ carrier. (carrier ≤ 13) ⊎ ((120 ≤ carrier) × (carrier ≤ 133)))
    ∷ []
