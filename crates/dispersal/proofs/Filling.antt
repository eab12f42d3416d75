-- A list that is filled from its own bytes by a rule.
--     fill_next                          the next byte
--     gone_none, gone_more, gone_end     while it goes on, and then
--     gone_fill                          it is filled further
--     begun_fill                         a sequence that is begun is filled so far
use mathlib.Core.Path.{◌≡◌, refl, sym, ap, ap₂, ◌∙◌}
use mathlib.Core.List.{List}
use Prim.Native.Nat.{ℕ, zero, suc, ◌+◌, ◌-◌, ◌≤◌, ◌<◌}
use native.Mathlib.Omega.{arith}
use lib.Bits.{bit_xor}
use native.Mathlib.Decide.{ℕ_discrete, dec_lt}
use lib.ListN.{length, get_or, set, length-set}
use lib.Seq.{get_or-set_same, get_or-set_other}
use Rattle.lists.proofs.Fill.{Fill}
use Rattle.rules.specs.Dispersal.{byte_from}
use Rattle.dispersal.specs.Register.{stages_of}
use Rattle.dispersal.specs.Steps.{Begun, GoneOn}
use Rattle.rules.proofs.Tape.{Rule}

pub fill_next : (f : ℕ → ℕ) (far near : ℕ) → Rule far near f → near < far → (n j : ℕ) (l : List ℕ) → 0 < near → far ≤ j
    → Fill n f j l → bit_xor (get_or l (j - (far - near)) 0) (get_or l (j - far) 0) ≡ f j
fill_next f far near rule apart n j l some h fill =
    ap₂ (λ (x y : ℕ). bit_xor x y) (fill.done (j - (far - near)) (omega arith) ∙ ap f (omega arith))
    (fill.done (j - far) (omega arith)) ∙ sym (rule (j - far)) ∙ ap f (omega arith)

module _ (far near : ℕ) (old : List ℕ) where
  pub gone_none : length old ≡ 204 → GoneOn far near far old old
  gone_none long = record { len = long; first = λ k h. refl; next = λ k h. absurd (omega arith) }

  pub gone_more : (j : ℕ) (l : List ℕ) → near < far → far ≤ j → j < 204 → GoneOn far near j old l
      → GoneOn far near (j + 1) old (set l j (bit_xor (get_or l (j - far + near) 0) (get_or l (j - far) 0)))
  gone_more j l apart from room gone =
      record {
        len = length-set l j v ∙ gone.len;
        first = λ k h. get_or-set_other l j k v 0 (omega arith) ∙ gone.first k h;
        next = λ k h. go k h (ℕ_discrete (k + far) j);
      }
    where
      v : ℕ
      v = bit_xor (get_or l (j - far + near) 0) (get_or l (j - far) 0)

      go : (k : ℕ) → k + far < j + 1 → Dec (k + far ≡ j)
          → get_or (set l j v) (k + far) 0 ≡ bit_xor (get_or (set l j v) (k + near) 0) (get_or (set l j v) k 0)
      go k h (yes s) =
          let here : j - far ≡ k = omega arith in
          let long : j < length l = let e = gone.len in omega arith in
          rw (get_or-set_other l j (k + near) v 0 (omega arith), get_or-set_other l j k v 0 (omega arith), s)
          (get_or-set_same l j v 0 long
          ∙ ap (λ (m : ℕ). bit_xor (get_or l (m + near) 0) (get_or l m 0)) here)
      go k h (no ne) =
          rw (
            get_or-set_other l j (k + far) v 0 ne,
            get_or-set_other l j (k + near) v 0 (omega arith),
            get_or-set_other l j k v 0 (omega arith),
          ) (gone.next k (omega arith))

  pub gone_end : (j end : ℕ) (l : List ℕ) → end ≤ j → GoneOn far near j old l → GoneOn far near end old l
  gone_end j end l few gone = record { len = gone.len; first = gone.first; next = λ k h. gone.next k (omega arith) }

  pub gone_fill : (f : ℕ → ℕ) (end : ℕ) (new : List ℕ) → Rule far near f → near < far → Fill 204 f far old
      → GoneOn far near end old new → Fill 204 f end new
  gone_fill f end new rule apart fill gone = record { len = gone.len; done = λ k h. below (k + 1) k (omega arith) h }
    where
      below : (n k : ℕ) → k < n → k < end → get_or new k 0 ≡ f k
      below zero k h few = absurd (omega arith)
      below (suc n) k h few = elim (dec_lt k far) [
        | yes early ↦ gone.first k early ∙ fill.done k early
        | no late ↦
            let here : k - far + far ≡ k = omega arith in
            rw here at (gone.next (k - far) (omega arith)
            ∙ ap₂ (λ (x y : ℕ). bit_xor x y) (below n (k - far + near) (omega arith) (omega arith))
            (below n (k - far) (omega arith) (omega arith))
            ∙ sym (rule (k - far)))
      ]

pub begun_fill : (count register : ℕ) (l : List ℕ) → Begun count register l
    → Fill 204 (byte_from (stages_of register)) count l
begun_fill count register l begun = record { len = begun.len; done = begun.done }
