-- A word received as it was sent, whatever was punctured, has its message as the best one: each pair shows its bit.
--     pair_sent                  the pair of a message bit whose kept coded bits are received as they were sent
--     miss_none                  a digit that isn't there doesn't disagree
--     x_lt, y_lt                 what is sent are bits
--     first_bit                  a number's lowest digit as a message bit
--     Whole, Found               each pair of a word is as it was sent; the message is found
--     whole_first, whole_next    of the first pair, and of those behind it
--     exact                      where each pair is as it was sent, the message is the best one, with no disagreement
use mathlib.Core.Path.{◌≡◌, refl, sym, ap, ap₂, ◌∙◌, subst⁻¹}
use mathlib.Core.Bool.{Bool, true, false, not}
use mathlib.Core.Logic.{⊎_elim}
use mathlib.Core.List.{List, [], ◌∷◌, map}
use Prim.Native.Nat.{ℕ, suc, ◌+◌, ◌*◌, ◌/◌, ◌%◌, ◌<◌, ◌≤◌, zero-le, suc-le-suc}
use native.Mathlib.Omega.{arith}
use lib.ListN.{length, get_or}
use borrow.Author.Tests.{eq-eqb, lt-ltb}
use Rattle.lists.specs.Tab.{tab}
use Rattle.settings.specs.Patterns.{Kept, XY, X, Y}
use Rattle.rules.specs.Code.{coded_x, coded_y}
use Rattle.rules.proofs.CodeParity.{parity_lt}
use Rattle.fewest.specs.Best.{bit, seven, next, sent_x, sent_y, miss, differ, least, best}
use Rattle.fewest.proofs.Flips.{there, flip_x_is, flip_y_is, miss_both}
use Rattle.fewest.proofs.Best.{le_or_lt, best_zero, best_one}
use Rattle.fewest.proofs.Join.{next_lt, coded_first_x, coded_first_y, coded_next_x, coded_next_y}

-- x and y being the two coded bits; 2 stands for one that isn't kept
abbrev pub pair_sent : Kept → ℕ → ℕ → ℕ
pair_sent XY x y = 3 * x + y
pair_sent X x y = 3 * x + 2
pair_sent Y x y = 6 + y

-- ---- one digit

miss_same : (digit : ℕ) → digit < 2 → miss digit digit ≡ 0
miss_same digit h = unfold miss in rw (lt-ltb digit 2 h, eq-eqb digit digit refl) refl

there_bit : (digit : ℕ) → digit < 2 → there digit ≡ 1
there_bit digit h = unfold there in rw (lt-ltb digit 2 h) refl

miss_other : (x y : ℕ) → x + y ≡ 1 → miss x y ≡ 1
miss_other x y e =
    let h : x < 2 = omega arith in omega (arith, miss_both x x y e, miss_same x h, there_bit x h)

pub miss_none : (sent_bit : ℕ) → miss 2 sent_bit ≡ 0
miss_none sent_bit = unfold miss in refl

-- ---- one pair

-- the pair shows the bit at the register
record Shows (pair register : ℕ) (b : Bool) : Type 0 where
  none : differ pair register b ≡ 0
  some : 0 < differ pair register (not b)

pub x_lt : (register : ℕ) (b : Bool) → sent_x register b < 2
x_lt register b = unfold sent_x in parity_lt 0o171 (seven register b)

pub y_lt : (register : ℕ) (b : Bool) → sent_y register b < 2
y_lt register b = unfold sent_y in parity_lt 0o133 (seven register b)

x_flips : (register : ℕ) (b : Bool) → register < 64 → sent_x register b + sent_x register (not b) ≡ 1
x_flips register true h = omega (arith, flip_x_is register h)
x_flips register false h = flip_x_is register h

y_flips : (register : ℕ) (b : Bool) → register < 64 → sent_y register b + sent_y register (not b) ≡ 1
y_flips register true h = omega (arith, flip_y_is register h)
y_flips register false h = flip_y_is register h

by_digits : (pair register : ℕ) (b : Bool) (x y : ℕ) → pair / 3 ≡ x → pair % 3 ≡ y
    → miss x (sent_x register b) + miss y (sent_y register b) ≡ 0
    → 0 < miss x (sent_x register (not b)) + miss y (sent_y register (not b)) → Shows pair register b
by_digits pair register b x y e f n o = unfold differ in record { none = rw (e, f) n; some = rw (e, f) o }

shows : (kept : Kept) (register : ℕ) (b : Bool) → register < 64
    → Shows (pair_sent kept (sent_x register b) (sent_y register b)) register b
shows XY register b h =
    let hx = x_lt register b in
    let hy = y_lt register b in
    by_digits _ register b (sent_x register b) (sent_y register b) (omega arith) (omega arith)
    (omega (arith, miss_same _ hx, miss_same _ hy)) (omega (arith, miss_other _ _ (x_flips register b h)))
shows X register b h =
    let hx = x_lt register b in
    by_digits _ register b (sent_x register b) 2 (omega arith) (omega arith)
    (omega (arith, miss_same _ hx, miss_none (sent_y register b)))
    (omega (arith, miss_other _ _ (x_flips register b h)))
shows Y register b h =
    let hy = y_lt register b in
    by_digits _ register b 2 (sent_y register b) (omega arith) (omega arith)
    (omega (arith, miss_same _ hy, miss_none (sent_x register b)))
    (omega (arith, miss_other _ _ (y_flips register b h)))

-- ---- a word

-- one bit more in front
more : (pair : ℕ) (pairs : List ℕ) (register : ℕ) (b : Bool) → Shows pair register b → least pairs (next register b) ≡ 0
    → (least (pair ∷ pairs) register ≡ 0) × (best (pair ∷ pairs) register ≡ b ∷ best pairs (next register b))
unfolding least
more pair pairs register false s e =
    let n = s.none in (omega arith, best_zero pair pairs register (omega arith))
more pair pairs register true s e =
    let n = s.none in
    let o = s.some in
    (omega arith, best_one pair pairs register (omega arith))

pub first_bit : (x : ℕ) → (b : Bool) × (x % 2 ≡ bit b)
first_bit x =
    ⊎_elim (λ (p : 1 ≤ x % 2). (true, omega arith)) (λ (p : x % 2 < 1). (false, omega arith)) (le_or_lt 1 (x % 2))

-- each pair of a word is as it was sent; `kept n` is what is kept of message bit n
abbrev pub Whole : (ℕ → Kept) → List ℕ → ℕ → (ℕ → ℕ) → Type 0
Whole kept pairs register message =
    (n : ℕ) → n < length pairs
    → get_or pairs n 0 ≡ pair_sent (kept n) (coded_x register message n) (coded_y register message n)

-- the message is found, with no disagreement
abbrev pub Found : List ℕ → ℕ → (ℕ → ℕ) → Type 0
Found pairs register message =
    (least pairs register ≡ 0) × (map bit (best pairs register) ≡ tab (length pairs) (λ n. message n % 2))

module _ (kept : ℕ → Kept) (pair : ℕ) (pairs : List ℕ) (register : ℕ) (message : ℕ → ℕ) (h : register < 64)
    (b : Bool) (first : message 0 % 2 ≡ bit b) (whole : Whole kept (pair ∷ pairs) register message) where
  pub whole_first : pair ≡ pair_sent (kept 0) (sent_x register b) (sent_y register b)
  whole_first =
      whole 0 (suc-le-suc zero-le)
      ∙ ap₂ (pair_sent (kept 0)) (coded_first_x register h message b first) (coded_first_y register h message b first)

  pub whole_next : Whole (λ n. kept (suc n)) pairs (next register b) (λ n. message (suc n))
  whole_next n lt =
      whole (suc n) (suc-le-suc lt)
      ∙ ap₂ (pair_sent (kept (suc n))) (coded_next_x register h message b first n)
      (coded_next_y register h message b first n)

pub exact : (kept : ℕ → Kept) (pairs : List ℕ) (register : ℕ) (message : ℕ → ℕ) → register < 64
    → Whole kept pairs register message → Found pairs register message
unfolding least best tab
exact kept [] register message h whole = (refl, refl)
exact kept (pair ∷ pairs) register message h whole =
    let start = first_bit (message 0) in
    let b = start.0 in
    let rest =
    exact (λ n. kept (suc n)) pairs (next register b) (λ n. message (suc n)) (next_lt register b h)
    (whole_next kept pair pairs register message h b start.1 whole)
    in
    let shown = subst⁻¹ (λ (p : ℕ). Shows p register b)
    (whole_first kept pair pairs register message h b start.1 whole) (shows (kept 0) register b h) in
    let front = more pair pairs register b shown rest.0 in
    (front.0, ap (map bit) front.1 ∙ ap₂ ◌∷◌ (sym start.1) rest.1)
