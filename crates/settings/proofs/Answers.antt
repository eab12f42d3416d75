-- An answer is fixed by its number.
use mathlib.Core.Path.{◌≡◌, refl, sym, ap, ◌∙◌}
use mathlib.Core.List.{[], ◌∷◌}
use Prim.Native.Nat.{ℕ}
use lib.ListN.{get_or}
use borrow.Author.Tests.{eq-eqb}
use Rattle.std.proofs.lemmas.Bool.{false≢true}
use Rattle.std.specs.Prelude.{Result, Ok, Err, is_ok, false, eqb}
use Rattle.std.specs.Result.{result_unwrap_or}
use Rattle.settings.specs.declared.Refusal.{Refusal}
use Rattle.settings.specs.declared.Refusal.TheVariants.{ModeNotLegal, BitsPerCarrierNotLegal}
use Rattle.settings.specs.declared.Refusal.TheVariants.{RateNotLegal, SegmentsNotLegal, WrongLength}
use Rattle.settings.specs.declared.Refusal.TheVariants.{WrongNumberOfCarriers, StateNotGood, SyncByteMissing}
use Rattle.settings.specs.declared.Refusal.TheVariants.{NumberNotBelowP, CarrierValueTooLarge, TooManySegments}
use Rattle.settings.specs.declared.Refusal.TheVariants.{LayerNotUsed}
use Rattle.settings.specs.Answers.{Answer, reason_number, number_of}

-- the answer of a number; 11 is no answer's
answer_of : ℕ → Answer
answer_of n =
    get_or (Ok tt ∷ Err ModeNotLegal ∷ Err BitsPerCarrierNotLegal ∷ Err RateNotLegal ∷ Err SegmentsNotLegal
    ∷ Err WrongLength ∷ Err WrongNumberOfCarriers ∷ Err StateNotGood ∷ Err SyncByteMissing ∷ Err NumberNotBelowP
    ∷ Err CarrierValueTooLarge ∷ Ok tt ∷ Err TooManySegments ∷ Err LayerNotUsed ∷ [])
    n (Ok tt)

reason_back : (r : Refusal) → answer_of (reason_number r) ≡ Err r
unfolding answer_of
reason_back ModeNotLegal = refl
reason_back BitsPerCarrierNotLegal = refl
reason_back RateNotLegal = refl
reason_back SegmentsNotLegal = refl
reason_back WrongLength = refl
reason_back WrongNumberOfCarriers = refl
reason_back StateNotGood = refl
reason_back SyncByteMissing = refl
reason_back NumberNotBelowP = refl
reason_back CarrierValueTooLarge = refl
reason_back TooManySegments = refl
reason_back LayerNotUsed = refl

answer_back : (a : Answer) → answer_of (number_of a) ≡ a
unfolding answer_of
answer_back (Ok tt) = refl
answer_back (Err r) = reason_back r

-- Two answers of one number are equal: a contract that gives the number gives the answer.
pub answers_equal : (a b : Answer) → number_of a ≡ number_of b → a ≡ b
answers_equal a b e = sym (answer_back a) ∙ ap answer_of e ∙ answer_back b

reason_not_zero : (r : Refusal) → false ≡ eqb (reason_number r) 0
reason_not_zero ModeNotLegal = refl
reason_not_zero BitsPerCarrierNotLegal = refl
reason_not_zero RateNotLegal = refl
reason_not_zero SegmentsNotLegal = refl
reason_not_zero WrongLength = refl
reason_not_zero WrongNumberOfCarriers = refl
reason_not_zero StateNotGood = refl
reason_not_zero SyncByteMissing = refl
reason_not_zero NumberNotBelowP = refl
reason_not_zero CarrierValueTooLarge = refl
reason_not_zero TooManySegments = refl
reason_not_zero LayerNotUsed = refl

-- A call is done where its number is 0.
pub ok_is : {Given : Type 0} (a : Result Given Refusal) → is_ok a ≡ eqb (number_of a) 0
ok_is (Ok given) = refl
ok_is (Err r) = reason_not_zero r

-- .. and refused where it gives a reason.
pub not_done : (r : Refusal) {number : ℕ} → reason_number r ≡ number → eqb number 0 ≡ false
not_done r e = sym (ap (λ (n : ℕ). eqb n 0) e) ∙ sym (reason_not_zero r)

reasons_equal : (r q : Refusal) → reason_number r ≡ reason_number q → r ≡ q
reasons_equal r q e = let same = answers_equal (Err r) (Err q) e in cc

-- a reason has another number than 0
pub none_given : (r : Refusal) → reason_number r ≡ 0 → ⊥
none_given r e = false≢true (reason_not_zero r ∙ eq-eqb (reason_number r) 0 e)

-- Two results of one number are equal, if what they give is: on a refusal nothing is given.
pub given_equal : {Given : Type 0} (other : Given) (a b : Result Given Refusal) → number_of a ≡ number_of b
    → result_unwrap_or a other ≡ result_unwrap_or b other → a ≡ b
given_equal other (Ok x) (Ok y) e same = ap Ok same
given_equal other (Ok x) (Err r) e same = absurd (none_given r (sym e))
given_equal other (Err r) (Ok y) e same = absurd (none_given r e)
given_equal other (Err r) (Err q) e same = ap Err (reasons_equal r q e)
