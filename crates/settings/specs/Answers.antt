-- The answers of the entries, and document 01's number for each of them ("Numbers of refusal"). A call's tests stand
-- in a list in document 01's order, and "the first that applies is given, and none without its reason".
--     Test         a number of refusal, and whether its reason applies
--     first_of     the number of the first that applies, or 0
--     given        a number of refusal that other tests have given; 0 applies to nothing
--     Answer                      done, or the reason of a refusal
--     reason_number, number_of    the number of a reason; 0 for done, another for a refusal
use Rattle.std.specs.Prelude.{Bool, cond, not, List, [], ◌∷◌, ℕ, eqb, Result, Ok, Err}
use Rattle.settings.specs.declared.Refusal.{Refusal}
use Rattle.settings.specs.declared.Refusal.TheVariants.{ModeNotLegal, BitsPerCarrierNotLegal}
use Rattle.settings.specs.declared.Refusal.TheVariants.{RateNotLegal, SegmentsNotLegal, WrongLength}
use Rattle.settings.specs.declared.Refusal.TheVariants.{WrongNumberOfCarriers, StateNotGood, SyncByteMissing}
use Rattle.settings.specs.declared.Refusal.TheVariants.{NumberNotBelowP, CarrierValueTooLarge, TooManySegments}
use Rattle.settings.specs.declared.Refusal.TheVariants.{LayerNotUsed}

infix 30 ◌when◌
pub record Test : Type 0 where
  pub number : ℕ
  pub applies : Bool

abbrev pub ◌when◌ : ℕ → Bool → Test
n when b = record { number = n; applies = b }

abbrev pub given : ℕ → Test
given number = number when not (eqb number 0)

abbrev pub first_of : List Test → ℕ
first_of [] = 0
first_of (test ∷ tests) = cond test.applies test.number (first_of tests)

abbrev pub Answer : Type 0
Answer = Result Unit Refusal

abbrev pub reason_number : Refusal → ℕ
-- "mode, v, rate, segments not legal (starting a layer, in this order)"
reason_number ModeNotLegal = 1
reason_number BitsPerCarrierNotLegal = 2
reason_number RateNotLegal = 3
reason_number SegmentsNotLegal = 4
-- "packet, word or answer area of wrong length"
reason_number WrongLength = 5
-- "carrier area not C long"
reason_number WrongNumberOfCarriers = 6
-- "state not good"
reason_number StateNotGood = 7
-- "a packet's first byte isn't 47"
reason_number SyncByteMissing = 8
-- "packet number or word's place not below P"
reason_number NumberNotBelowP = 9
-- "a carrier value of 2^v or more"
reason_number CarrierValueTooLarge = 10
-- "more than 13 segments in all"
reason_number TooManySegments = 12
-- "the named layer is unused"
reason_number LayerNotUsed = 13

-- whatever the call gives where it is done
abbrev pub number_of : {Given : Type 0} → Result Given Refusal → ℕ
number_of (Ok given) = 0
number_of (Err refusal) = reason_number refusal
