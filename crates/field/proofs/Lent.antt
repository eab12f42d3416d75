-- The tables that `power_table` and `logarithm_table` give are what a function that is lent them asks for.
use mathlib.Core.Path.{◌≡◌, refl, sym, ap, ◌∙◌, subst}
use mathlib.Core.Bool.{cond}
use Prim.Native.Nat.{ℕ, ◌<◌}
use native.Mathlib.Omega.{arith}
use lib.Dec.{eqb, ltb}
use lib.ListN.{get_or}
use borrow.Author.Tests.{ne_eqb, lt-ltb}
use Rattle.lists.proofs.Tabs.{get_d_tab}
use Rattle.field.specs.Field.{power}
use Rattle.field.specs.Tables.{logarithm_of, power_table, logarithm_table, Powers, Logarithms}
use Rattle.field.proofs.Logarithms.{logarithm_lt, power_log}

entry_is : (a : ℕ) → 0 < a → a < 256 → get_or logarithm_table a 0 ≡ logarithm_of a
unfolding logarithm_table
entry_is a some h = get_d_tab 256 (λ a. cond (eqb a 0) 255 (logarithm_of a)) a h ∙ rw (ne_eqb a 0 (omega arith)) refl

pub powers_lent : Powers power_table
powers_lent =
    unfold power_table in record {
      at = λ i h. get_d_tab 256 (λ i. cond (ltb i 255) (power 2 i) 0) i (omega arith) ∙ rw (lt-ltb i 255 h) refl;
      zero = get_d_tab 256 (λ i. cond (ltb i 255) (power 2 i) 0) 255 (omega arith);
    }

pub logarithms_lent : Logarithms logarithm_table
logarithms_lent =
    unfold logarithm_table in record {
      small = λ a some h. subst (λ (n : ℕ). n < 255) (sym (entry_is a some h)) (logarithm_lt a);
      at = λ a some h. ap (power 2) (entry_is a some h) ∙ power_log a some h;
      zero = get_d_tab 256 (λ a. cond (eqb a 0) 255 (logarithm_of a)) 0 (omega arith);
    }
