-- Every word has an answer: each received word has a slot, and each word its correction. Whether a codeword lies within
-- eight bytes is found by trying all of them, which no program does, but which says that there is an answer.
--     SomeSlot, slot_of_is            a slot of a received word
--     SomeCorrection, corrected_of    what correcting a word gives
use mathlib.Core.Path.{◌≡◌, refl, sym, subst}
use mathlib.Core.List.{List, [], ◌∷◌}
use Prim.Native.Nat.{ℕ, zero, suc, ◌<◌, ◌≤◌}
use native.Mathlib.Decide.{ℕ_discrete, dec_le}
use native.Mathlib.Omega.{arith}
use lib.ListN.{length, get_or, take, replicate}
use Rattle.field.specs.Field.{power, value, Bytes}
use Rattle.nearest.specs.Codeword.{Codeword, distance}
use Rattle.nearest.specs.Correction.{nearest_number, nearest_values, Corrected, within, nowhere, wrong_length}
use Rattle.nearest.specs.Slot.{restored, Slot, corrected, other_start, none}
use Rattle.std.specs.Prelude.{Result, Ok, Err}
use Rattle.nearest.specs.declared.Uncorrected.{Uncorrected}
use Rattle.nearest.specs.declared.Uncorrected.TheVariants.{TooFar, WrongLength}

-- ---- trying all lists of bytes

record Found (n : ℕ) (Q : List ℕ → Type 0) : Type 0 where
  pub list : List ℕ
  pub long : length list ≡ n
  pub bytes : Bytes list
  pub holds : Q list

-- one that begins with a number below k
record Below (k n : ℕ) (Q : List ℕ → Type 0) : Type 0 where
  pub head : ℕ
  pub less : head < k
  pub rest : Found n (λ l. Q (head ∷ l))

empty : (list : List ℕ) → length list ≡ 0 → [] ≡ list
empty [] e = refl
empty (a ∷ list) e = absurd (omega arith)

heads : (n : ℕ) (Q : List ℕ → Type 0) → ((b : ℕ) → Dec (Found n (λ l. Q (b ∷ l)))) → (k : ℕ) → Dec (Below k n Q)
heads n Q tails zero = no (λ found. let less = found.less in omega arith)
heads n Q tails (suc k) = elim (tails k) [
  | yes found ↦ yes (record { head = k; less = omega arith; rest = found })
  | no missing ↦ elim (heads n Q tails k) [
    | yes found ↦ yes (record { head = found.head; less = let less = found.less in omega arith; rest = found.rest })
    | no none_below ↦ no (λ found. elim (ℕ_discrete found.head k) [
      | yes same ↦ missing (subst (λ (b : ℕ). Found n (λ l. Q (b ∷ l))) same found.rest)
      | no other ↦ none_below (record {
        head = found.head;
        less = let less = found.less in omega arith;
        rest = found.rest;
      })
    ])
  ]
]

whole : (n : ℕ) (Q : List ℕ → Type 0) (list : List ℕ) → length list ≡ suc n → Bytes list → Q list → Below 256 n Q
whole n Q [] long bytes holds = absurd (omega arith)
whole n Q (a ∷ list) long bytes holds = record {
  head = a;
  less = bytes.0;
  rest = record { list = list; long = let l = long in omega arith; bytes = bytes.1; holds = holds };
}

tried : (n : ℕ) (Q : List ℕ → Type 0) → ((l : List ℕ) → Dec (Q l)) → Dec (Found n Q)
tried zero Q test = elim (test []) [
  | yes h ↦ yes (record { list = []; long = refl; bytes = tt; holds = h })
  | no h ↦ no (λ found. h (subst Q (sym (empty found.list found.long)) found.holds))
]
tried (suc n) Q test = elim (heads n Q (λ b. tried n (λ l. Q (b ∷ l)) (λ l. test (b ∷ l))) 256) [
  | yes found ↦ yes (record {
    list = found.head ∷ found.rest.list;
    long = let l = found.rest.long in omega arith;
    bytes = (found.less, found.rest.bytes);
    holds = found.rest.holds;
  })
  | no missing ↦ no (λ found. missing (whole n Q found.list found.long found.bytes found.holds))
]

-- ---- a codeword near a word

abbrev near : List ℕ → List ℕ → Type 0
near w c = ((j : ℕ) → j < 16 → value c (power 2 j) ≡ 0) × (distance c w ≤ 8)

all_below : (n : ℕ) (R : ℕ → Type 0) → ((j : ℕ) → Dec (R j)) → Dec ((j : ℕ) → j < n → R j)
all_below zero R test = yes (λ j less. absurd (omega arith))
all_below (suc n) R test = elim (test n) [
  | no wrong ↦ no (λ all. wrong (all n (omega arith)))
  | yes right ↦ elim (all_below n R test) [
    | no wrong ↦ no (λ all. wrong (λ j less. all j (omega arith)))
    | yes rest ↦ yes (λ j less. elim (ℕ_discrete j n) [
      | yes same ↦ subst R (sym same) right
      | no other ↦ rest j (omega arith)
    ])
  ]
]

near_or_not : (w c : List ℕ) → Dec (near w c)
near_or_not w c = elim (all_below 16 (λ j. value c (power 2 j) ≡ 0) (λ j. ℕ_discrete (value c (power 2 j)) 0)) [
  | no wrong ↦ no (λ both. wrong both.0)
  | yes roots ↦ elim (dec_le (distance c w) 8) [
    | no far ↦ no (λ both. far both.1)
    | yes few ↦ yes (roots, few)
  ]
]

search : (w : List ℕ) → Dec (Found 204 (near w))
search w = tried 204 (near w) (near_or_not w)

code : (w : List ℕ) (found : Found 204 (near w)) → Codeword found.list
code w found = record { long = found.long; bytes = found.bytes; roots = found.holds.0 }

missing : (w : List ℕ) → (Found 204 (near w) → ⊥) → (c : List ℕ) → Codeword c → distance c w ≤ 8 → ⊥
missing w None-found c k few =
    None-found (record { list = c; long = k.long; bytes = k.bytes; holds = (k.roots, few) })

-- ---- the answers

pub record SomeSlot (received : List ℕ) : Type 0 where
  pub slot : List ℕ
  pub is : Slot received slot

pub slot_of_is : (received : List ℕ) → SomeSlot received
slot_of_is received = elim (search (restored received)) [
  | no None-found ↦ record { slot = 255 ∷ replicate 188 0; is = none (missing (restored received) None-found) }
  | yes found ↦ elim (ℕ_discrete (get_or found.list 0 0) 0x47) [
    | yes begins ↦ record {
      slot = distance found.list (restored received) ∷ take 188 found.list;
      is = corrected found.list (code (restored received) found) found.holds.1 begins;
    }
    | no other ↦ record {
      slot = 254 ∷ replicate 188 0;
      is = other_start found.list (code (restored received) found) found.holds.1 other;
    }
  ]
]

pub record SomeCorrection (word : List ℕ) : Type 0 where
  pub word' : List ℕ
  pub found : Result ℕ Uncorrected
  pub is : Corrected word word' (nearest_number found) (nearest_values found)

pub corrected_of : (word : List ℕ) → SomeCorrection word
corrected_of word = elim (ℕ_discrete (length word) 204) [
  | no other ↦ record { word' = word; found = Err WrongLength; is = wrong_length other }
  | yes long ↦ elim (search word) [
    | no None-found ↦ record { word' = word; found = Err TooFar; is = nowhere long (missing word None-found) }
    | yes found ↦ record {
      word' = found.list;
      found = Ok (distance found.list word);
      is = within found.list long (code word found) found.holds.1;
    }
  ]
]
