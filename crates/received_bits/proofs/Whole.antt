-- The pairs of a stretch, for each v and rate, and for numbers that are none.
--     digits_of            what stands in the planes is 0, 1 or 2
--     all_pairs            the pairs from the planes are those of the stretch
--     no_rate, no_bits     with a number that is no rate, or no v, there are none
use mathlib.Core.Path.{◌≡◌, refl, ap, ◌∙◌}
use mathlib.Core.Bool.{Bool, true, false, cond}
use mathlib.Core.List.{List}
use Prim.Native.Nat.{ℕ, ◌+◌, ◌-◌, ◌*◌, ◌/◌, ◌%◌, ◌^◌, ◌<◌}
use native.Mathlib.Nat.{mod-lt}
use native.Mathlib.Omega.{arith}
use lib.Dec.{ltb}
use lib.ListN.{length, get_or, replicate}
use borrow.Author.Tests.{ne_eqb}
use Rattle.lists.specs.Binary.{bit_of}
use Rattle.puncturing.proofs.Tables.{none_legal}
use Rattle.lists.proofs.Bools.{and_no}
use Rattle.lists.specs.Tab.{tab}
use Rattle.lists.proofs.Tabs.{tab_lt}
use Rattle.settings.specs.Legal.{legal_bits}
use Rattle.settings.specs.Patterns.{pattern_length}
use Rattle.settings.proofs.LegalSettings.{LegalBits, LegalRate, qpsk, qam16, qam64}
use Rattle.puncturing.proofs.Linear.{legal_true}
use Rattle.rules.specs.Bits.{line_of, carrier_of}
use Rattle.rules.specs.Back.{line_digit, received_digit}
use Rattle.received_bits.specs.Received.{pairs_of}
use Rattle.received_bits.specs.Steps.{plane_at, Digits, pair_in_planes}
use Rattle.received_bits.proofs.PairFilling.{from_planes}

pub cond_few : (b : Bool) (x y : ℕ) → x < 3 → y < 3 → cond b x y < 3
cond_few true x y h g = h
cond_few false x y h g = g

pub bit_few : (x : ℕ) → x % 2 < 3
bit_few x = let less = mod-lt x {m = 2} (omega arith) in omega arith

pub digit_few : (v : ℕ) (carriers : List ℕ) (k l : ℕ) → line_digit v carriers k l < 3
unfolding line_digit
digit_few v carriers k l =
    cond_few (ltb k (length carriers)) (bit_of v (get_or carriers k 0) l) 2
    (bit_few (get_or carriers k 0 / 2 ^ (v - 1 - l)))
    (omega arith)

pub received_few : (v : ℕ) (carriers : List ℕ) (c : ℕ) → received_digit v carriers c < 3
received_few v carriers c = unfold received_digit in digit_few v carriers (carrier_of v c) (line_of v c)

plane_few : (v : ℕ) (digit : ℕ → ℕ) → ((c : ℕ) → digit c < 3) → (place : ℕ) → plane_at v digit place < 3
unfolding plane_at
plane_few v digit few place =
    cond_few (ltb place 3360) _ 2 (few (place % (3360 / v) * v + place / (3360 / v))) (omega arith)

pub digits_of : (v : ℕ) (digit : ℕ → ℕ) (planes : List ℕ) → ((c : ℕ) → digit c < 3)
    → planes ≡ tab 5040 (plane_at v digit) → Digits planes
digits_of v digit planes small e =
    record {
      few =
          λ place. rw e (let less = tab_lt 5040 (plane_at v digit) 3 (omega arith) (plane_few v digit small) place in
          omega arith);
    }

pub bits_true : {v : ℕ} → LegalBits v → legal_bits v ≡ true
bits_true qpsk = refl
bits_true qam16 = refl
bits_true qam64 = refl

pub all_pairs : {v rate : ℕ} → LegalBits v → LegalRate rate → (given : ℕ) (carriers planes out : List ℕ) → given ≡ v
    → planes ≡ tab 5040 (plane_at v (received_digit v carriers)) → out ≡ tab 1680 (pair_in_planes v rate planes)
    → out ≡ pairs_of given rate carriers
unfolding pairs_of
all_pairs {v} {rate} bits legal given carriers planes out e f g =
    rw e (g ∙ ap (λ (list : List ℕ). tab 1680 (pair_in_planes v rate list)) f
    ∙ from_planes bits legal (received_digit v carriers) ∙ rw (bits_true bits, legal_true legal) refl)

pub no_rate : (v rate : ℕ) (carriers : List ℕ) → pattern_length rate ≡ 0 → replicate 1680 8 ≡ pairs_of v rate carriers
no_rate v rate carriers e = unfold pairs_of in rw (none_legal rate e, and_no (legal_bits v)) refl

pub no_bits : (v rate : ℕ) (carriers : List ℕ) → (v ≡ 6 → ⊥) → (v ≡ 4 → ⊥) → (v ≡ 2 → ⊥)
    → replicate 1680 8 ≡ pairs_of v rate carriers
unfolding pairs_of
no_bits v rate carriers six four two = rw (ne_eqb v 2 two, ne_eqb v 4 four, ne_eqb v 6 six) refl
