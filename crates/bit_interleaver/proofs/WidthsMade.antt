-- The numbers of bits of a carrier, 2, 4 and 6, and what is made for them and for any other.
--     legal_two, legal_four, legal_six, legal_not     they are legal, and no other
--     legal_is, legal_rest, legal_last                the same, number by number
--     v_legal                                         the same of a layer's
--     history_legal, history_not, entries_legal,
--     entries_not, waits_legal, waits_not             the history and the entries, there and back
--     waiting_is                                      of a layer the entries going back are the rule's
use mathlib.Core.Path.{◌≡◌, refl, sym, ap, ◌∙◌, subst}
use mathlib.Core.Bool.{Bool, true, false, or-false}
use mathlib.Core.List.{List}
use Prim.Native.Nat.{ℕ}
use lib.Dec.{T, eqb, eqb→eq}
use lib.ListN.{replicate}
use borrow.Author.Tests.{ne_eqb}
use Rattle.lists.specs.Binary.{binary}
use Rattle.lists.specs.Tab.{tab}
use Rattle.rules.specs.Bits.{delay_of, wait_of, in_sizes, in_lines, entry_after, lines_waiting}
use Rattle.bit_interleaver.specs.Symbols.{legal, history_bit, history_of, entries_of, waiting_of}
use Rattle.settings.proofs.LegalSettings.{LegalBits, qpsk, qam16, qam64}

pub legal_not : (v : ℕ) → (v ≡ 6 → ⊥) → (v ≡ 4 → ⊥) → (v ≡ 2 → ⊥) → legal v ≡ false
legal_not v a b c = unfold legal in simp (ne_eqb v 6 a, ne_eqb v 4 b, ne_eqb v 2 c)

pub legal_two : legal 2 ≡ true
legal_two = unfold legal in refl

pub legal_four : legal 4 ≡ true
legal_four = unfold legal in refl

pub legal_six : legal 6 ≡ true
legal_six = unfold legal in refl

-- what each of them is
pub legal_is : (v w : ℕ) (b : Bool) → v ≡ w → legal w ≡ b → b ≡ legal v
legal_is v w b same e = sym (ap legal same ∙ e)

-- one that is neither 6 nor 4 is legal if it is 2
pub legal_rest : (v : ℕ) → (v ≡ 6 → ⊥) → (v ≡ 4 → ⊥) → eqb v 2 ≡ legal v
legal_rest v a b = unfold legal in simp (ne_eqb v 6 a, ne_eqb v 4 b, or-false)

pub legal_last : (v : ℕ) → legal v ≡ true → (v ≡ 6 → ⊥) → (v ≡ 4 → ⊥) → v ≡ 2
legal_last v e a b = eqb→eq v 2 (subst T (sym (legal_rest v a b ∙ e)) tt)

pub v_legal : {v : ℕ} → LegalBits v → legal v ≡ true
v_legal qpsk = legal_two
v_legal qam16 = legal_four
v_legal qam64 = legal_six

module _ (v : ℕ) (list : List ℕ) where
  pub history_legal : (w : ℕ) → v ≡ w → legal w ≡ true
      → tab 120 (λ i. binary w (history_bit w list i)) ≡ history_of v list
  history_legal w same good = unfold history_of in rw (same, good) refl

  pub history_not : legal v ≡ false → replicate 120 0 ≡ history_of v list
  history_not e = unfold history_of in rw e refl

  pub entries_legal : (w : ℕ) → v ≡ w → legal w ≡ true
      → in_sizes (delay_of w) w (entry_after (delay_of w) w list) ≡ entries_of v list
  entries_legal w same good = unfold entries_of in_lines entry_after in rw (same, good) refl

  pub entries_not : legal v ≡ false → replicate 360 0 ≡ entries_of v list
  entries_not e = unfold entries_of in rw e refl

  pub waits_legal : (w : ℕ) → v ≡ w → legal w ≡ true
      → in_sizes (wait_of w) w (entry_after (wait_of w) w list) ≡ waiting_of v list
  waits_legal w same good = unfold waiting_of lines_waiting in rw (same, good) refl

  pub waits_not : legal v ≡ false → replicate 360 0 ≡ waiting_of v list
  waits_not e = unfold waiting_of in rw e refl

pub waiting_is : {v : ℕ} → LegalBits v → (last : List ℕ) → waiting_of v last ≡ lines_waiting v last
waiting_is bits last = unfold waiting_of in rw (v_legal bits) refl
