-- A settings line that the programs take.
--     first_well, first_small           it is eight hexadecimal digits, and writes a layer that the programs take
--     first_legal                       the settings of such a layer are legal
--     small_packets, small_carriers     its P and C
--     first_started                     the fresh coding state of such a layer is one that a run starts with
use mathlib.Core.Path.{◌≡◌, refl}
use mathlib.Core.Bool.{Bool, true, false, cond}
use mathlib.Core.List.{List}
use Prim.Native.Nat.{ℕ}
use native.Mathlib.Omega.{arith}
use lib.Dec.{eqb}
use lib.ListN.{length-replicate}
use borrow.Author.Tests.{eq-eqb, eqb-false}
use Rattle.settings.specs.declared.Settings.{Settings}
use Rattle.settings.specs.Legal.{starting}
use Rattle.settings.specs.Sizes.{P, C, packets_of, carriers_of}
use Rattle.rules.specs.Bits.{lines_at_start}
use Rattle.coding_state.specs.State.{fresh_coding_state}
use Rattle.coding_state.proofs.Good.{fresh_good}
use Rattle.demands.specs.Frames.{Started}
use Rattle.text_lines.specs.First.{well_formed, settings_written, small, starting_number, beginning}
use Rattle.text_lines.proofs.Small.{small_legal}

module _ (line : List ℕ) (taken : beginning line ≡ 0) where
  abbrev settings : Settings
  settings = settings_written line

  both : (well_formed line ≡ true) × (starting_number settings ≡ 0)
  unfolding beginning
  both = go (well_formed line) taken
    where
      go : (b : Bool) → cond b (starting_number settings) 255 ≡ 0
          → (b ≡ true) × (starting_number settings ≡ 0)
      go true e = (refl, e)
      go false e = absurd (omega (arith, e))

  pub first_well : well_formed line ≡ true
  first_well = both.0

  pub first_small : small settings ≡ true
  unfolding starting_number
  first_small = legal (eqb (starting settings) 0) refl both.1
    where
      few : (b : Bool) → cond {A = ℕ} b 0 255 ≡ 0 → b ≡ true
      few true e = refl
      few false e = absurd (omega (arith, e))

      legal : (b : Bool) → eqb (starting settings) 0 ≡ b
          → cond b (cond (small settings) 0 255) (starting settings) ≡ 0 → small settings ≡ true
      legal true t e = few (small settings) e
      legal false t e = absurd (eqb-false (starting settings) 0 t e)

module _ (settings : Settings) (fine : small settings ≡ true) where
  pub first_legal : starting settings ≡ 0
  first_legal = (small_legal settings fine).0

  pub small_packets : packets_of settings ≡ P settings
  small_packets = unfold packets_of in rw (eq-eqb (starting settings) 0 first_legal) refl

  pub small_carriers : carriers_of settings ≡ C settings
  small_carriers = unfold carriers_of in rw (eq-eqb (starting settings) 0 first_legal) refl

  pub first_started : Started (fresh_coding_state settings)
  first_started =
      record {
        sending = record {
          good = fresh_good settings first_legal;
          lines_long = unfold fresh_coding_state lines_at_start in length-replicate {A = ℕ} 360 0;
        };
        register_zero = unfold fresh_coding_state in refl;
      }
