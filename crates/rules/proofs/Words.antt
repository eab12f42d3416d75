-- Rule 1's word, byte by byte.
--     sent_at       "The word sent is bytes 1 to 203 of the codeword .."
--     sent_sync     ".. and then 47, the sync byte of the packet after it"
use mathlib.Core.Path.{◌≡◌, refl, ◌∙◌}
use mathlib.Core.Bool.{cond}
use mathlib.Core.List.{List}
use Prim.Native.Nat.{ℕ, ◌+◌, ◌<◌}
use native.Mathlib.Omega.{arith}
use lib.Dec.{ltb}
use lib.ListN.{get_or}
use borrow.Author.Tests.{lt-ltb}
use Rattle.lists.proofs.Tabs.{get_d_tab}
use Rattle.rules.specs.Word.{codeword_of, sent_word}

pub sent_at : (packet : List ℕ) (j : ℕ) → j < 203 → get_or (sent_word packet) j 0
    ≡ get_or (codeword_of packet) (j + 1) 0
unfolding sent_word
sent_at packet j less =
    get_d_tab 204 (λ i. cond (ltb i 203) (get_or (codeword_of packet) (i + 1) 0) 0x47) j (omega arith)
    ∙ rw (lt-ltb j 203 less) refl

pub sent_sync : (packet : List ℕ) → get_or (sent_word packet) 203 0 ≡ 0x47
unfolding sent_word
sent_sync packet =
    get_d_tab 204 (λ i. cond (ltb i 203) (get_or (codeword_of packet) (i + 1) 0) 0x47) 203 (omega arith) ∙ refl
