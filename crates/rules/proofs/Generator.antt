-- The coefficients of the code's generator, as ARIB STD-B31 and its sources print them, the highest first.
--     generator_is
use mathlib.Core.Path.{◌≡◌, refl}
use mathlib.Core.List.{[], ◌∷◌}
use Rattle.lists.specs.Tab.{tab}
use Rattle.field.specs.Field.{◌⊕◌, ◌⊗◌, double, times_bits, power}
use Rattle.rules.specs.Word.{times_root, with_roots, generator}

pub generator_is : generator
    ≡ 1 ∷ 59 ∷ 13 ∷ 104 ∷ 189 ∷ 68 ∷ 209 ∷ 30 ∷ 8 ∷ 163 ∷ 65 ∷ 41 ∷ 229 ∷ 98 ∷ 50 ∷ 36 ∷ 59 ∷ []
generator_is = unfold with_roots times_root tab power ◌⊗◌ ◌⊕◌ times_bits double in refl
