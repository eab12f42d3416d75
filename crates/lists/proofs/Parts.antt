-- Bytes put into a part of a lent area, for every place and length.
--     with_part      an area into which bytes are put from a place on, as far as it has room
-- proofs/Puts.antt: what stands where in an area that has room for them.
use mathlib.Core.Bool.{cond, ◌&&◌}
use mathlib.Core.List.{List}
use Prim.Native.Nat.{ℕ, ◌+◌, ◌-◌}
use lib.Dec.{leb, ltb}
use lib.ListN.{length, get_or}
use Rattle.lists.specs.Tab.{tab}

unfoldable pub with_part : List ℕ → ℕ → List ℕ → List ℕ
with_part bytes place area =
    tab (length area)
    (λ k. cond (leb place k && ltb k (place + length bytes)) (get_or bytes (k - place) 0) (get_or area k 0))
