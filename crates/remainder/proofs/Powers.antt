-- The table of the powers of x modulo the generator, and its rule at the roots: each row by the next one, a test that
-- antt computes.
use mathlib.Core.Path.{◌≡◌, refl, sym, ap, ◌∙◌}
use mathlib.Core.Bool.{Bool}
use mathlib.Core.List.{List, [], ◌∷◌}
use Prim.Native.Nat.{ℕ, zero, suc, ◌+◌, ◌*◌, ◌-◌, ◌<◌}
use native.Mathlib.Omega.{arith}
use lib.Dec.{eqb, eqb→eq, ltb, ltb→lt}
use native.Mathlib.Decide.{dec_lt}
use lib.ListN.{length, get_or, take, drop, length-drop, get_or-eq_default}
use lib.Seq.{length-take-le, get_or-take, get_or-drop}
use Rattle.field.specs.Field.{◌⊕◌, double, times_bits, ◌⊗◌, power, value}
use Rattle.field.proofs.Sum.{⊕-zero}
use Rattle.field.proofs.Product.{zero-⊗, ⊗-comm}
use Rattle.lists.proofs.Tabs.{tab_ext, tab_cong}
use Rattle.lists.proofs.Every.{every, at}
use Rattle.remainder.specs.Steps.{row}
use Rattle.rules.specs.Word.{generator, division_step}
use Rattle.field.proofs.Values.{value_elements}
use Rattle.remainder.proofs.Division.{generator_coefficients, generator_tail, value_step}

-- `POWERS` of src/tables.rt
unfoldable pub powers : List ℕ
powers =
    152 ∷ 136 ∷ 104 ∷ 218 ∷ 239 ∷ 13 ∷ 36 ∷ 143 ∷ 122 ∷ 61 ∷ 178 ∷ 162 ∷ 26 ∷ 142 ∷ 162 ∷ 139 ∷
    237 ∷ 19 ∷ 205 ∷ 122 ∷ 146 ∷ 185 ∷ 196 ∷ 61 ∷ 180 ∷ 43 ∷ 21 ∷ 136 ∷ 98 ∷ 244 ∷ 211 ∷ 221 ∷
    107 ∷ 48 ∷ 182 ∷ 140 ∷ 99 ∷ 252 ∷ 80 ∷ 34 ∷ 66 ∷ 75 ∷ 159 ∷ 224 ∷ 207 ∷ 138 ∷ 61 ∷ 131 ∷
    204 ∷ 232 ∷ 197 ∷ 77 ∷ 71 ∷ 25 ∷ 219 ∷ 176 ∷ 12 ∷ 105 ∷ 234 ∷ 197 ∷ 52 ∷ 159 ∷ 235 ∷ 146 ∷
    39 ∷ 94 ∷ 118 ∷ 65 ∷ 103 ∷ 238 ∷ 43 ∷ 102 ∷ 149 ∷ 155 ∷ 123 ∷ 124 ∷ 181 ∷ 219 ∷ 15 ∷ 227 ∷
    93 ∷ 196 ∷ 184 ∷ 21 ∷ 208 ∷ 208 ∷ 117 ∷ 147 ∷ 180 ∷ 188 ∷ 24 ∷ 155 ∷ 88 ∷ 190 ∷ 183 ∷ 9 ∷
    136 ∷ 84 ∷ 98 ∷ 225 ∷ 108 ∷ 119 ∷ 234 ∷ 62 ∷ 167 ∷ 134 ∷ 137 ∷ 116 ∷ 3 ∷ 56 ∷ 11 ∷ 125 ∷
    197 ∷ 245 ∷ 196 ∷ 150 ∷ 22 ∷ 72 ∷ 71 ∷ 228 ∷ 88 ∷ 94 ∷ 84 ∷ 175 ∷ 62 ∷ 6 ∷ 230 ∷ 189 ∷
    250 ∷ 120 ∷ 67 ∷ 29 ∷ 213 ∷ 181 ∷ 29 ∷ 249 ∷ 103 ∷ 165 ∷ 200 ∷ 27 ∷ 24 ∷ 141 ∷ 194 ∷ 31 ∷
    27 ∷ 229 ∷ 215 ∷ 82 ∷ 89 ∷ 55 ∷ 140 ∷ 50 ∷ 33 ∷ 12 ∷ 48 ∷ 76 ∷ 164 ∷ 231 ∷ 81 ∷ 233 ∷
    51 ∷ 242 ∷ 159 ∷ 32 ∷ 169 ∷ 201 ∷ 247 ∷ 180 ∷ 183 ∷ 226 ∷ 99 ∷ 168 ∷ 121 ∷ 176 ∷ 184 ∷ 179 ∷
    10 ∷ 128 ∷ 128 ∷ 40 ∷ 198 ∷ 59 ∷ 176 ∷ 59 ∷ 228 ∷ 157 ∷ 82 ∷ 100 ∷ 4 ∷ 138 ∷ 89 ∷ 205 ∷
    41 ∷ 199 ∷ 88 ∷ 14 ∷ 42 ∷ 240 ∷ 19 ∷ 185 ∷ 110 ∷ 239 ∷ 38 ∷ 103 ∷ 11 ∷ 141 ∷ 59 ∷ 180 ∷
    114 ∷ 157 ∷ 215 ∷ 216 ∷ 52 ∷ 46 ∷ 159 ∷ 230 ∷ 14 ∷ 161 ∷ 76 ∷ 5 ∷ 72 ∷ 216 ∷ 252 ∷ 8 ∷
    33 ∷ 122 ∷ 45 ∷ 62 ∷ 91 ∷ 24 ∷ 192 ∷ 102 ∷ 243 ∷ 116 ∷ 40 ∷ 44 ∷ 17 ∷ 246 ∷ 228 ∷ 44 ∷
    59 ∷ 13 ∷ 104 ∷ 189 ∷ 68 ∷ 209 ∷ 30 ∷ 8 ∷ 163 ∷ 65 ∷ 41 ∷ 229 ∷ 98 ∷ 50 ∷ 36 ∷ 59 ∷ []

part : ℕ → List ℕ
part j = take 16 (drop (16 * j) powers)

pub length_powers : length powers ≡ 256
length_powers = unfold powers in refl

computed_lt : (k : ℕ) → k < 256 → get_or powers k 0 < 256
unfolding powers
computed_lt k h = ltb→lt (get_or powers k 0) 256 (at (λ (i : ℕ). ltb (get_or powers i 0) 256) 256 tt k h)

pub powers_lt : (k : ℕ) → get_or powers k 0 < 256
powers_lt k = elim (dec_lt k 256) [
  | yes p ↦ computed_lt k p
  | no p ↦ omega (arith, get_or-eq_default powers 0 {n = k} (omega (arith, length_powers)))
]

length_part : (j : ℕ) → j < 16 → length (part j) ≡ 16
unfolding part
length_part j h = length-take-le 16 (drop (16 * j) powers) (omega (arith, length-drop (16 * j) powers, length_powers))

part_at : (j k : ℕ) → k < 16 → get_or (part j) k 0 ≡ get_or powers (16 * j + k) 0
part_at j k h = unfold part in get_or-take 16 (drop (16 * j) powers) k 0 h ∙ get_or-drop (16 * j) powers k 0

-- each row is the next one times x, less a multiple of the generator: computed, with the generator's coefficients
coefficients : List ℕ
coefficients = 1 ∷ 59 ∷ 13 ∷ 104 ∷ 189 ∷ 68 ∷ 209 ∷ 30 ∷ 8 ∷ 163 ∷ 65 ∷ 41 ∷ 229 ∷ 98 ∷ 50 ∷ 36 ∷ 59 ∷ []

generator_is : coefficients ≡ generator
generator_is = unfold coefficients in sym generator_coefficients

test : ℕ → ℕ → Bool
test j k =
    eqb (get_or (part j) k 0)
    (get_or (part (suc j)) (suc k) 0 ⊕ (get_or (part (suc j)) 0 0 ⊕ 0) ⊗ get_or coefficients (suc k) 0)

tested : (j k : ℕ) → j < 15 → k < 16 → get_or (part j) k 0
    ≡ get_or (part (suc j)) (suc k) 0 ⊕ (get_or (part (suc j)) 0 0 ⊕ 0) ⊗ get_or coefficients (suc k) 0
unfolding test part powers coefficients ◌⊗◌ times_bits double ◌⊕◌
tested j k h l =
    eqb→eq (get_or (part j) k 0)
    (get_or (part (suc j)) (suc k) 0 ⊕ (get_or (part (suc j)) 0 0 ⊕ 0) ⊗ get_or coefficients (suc k) 0)
    (at (test j) 16 (at (λ (i : ℕ). every (test i) 16) 15 tt j h) k l)

part_step : (j m : ℕ) → j < 15 → m < 16
    → value (part j) (power 2 m) ≡ value (part (suc j)) (power 2 m) ⊗ power 2 m
part_step j m h k =
    unfold division_step in let x = power 2 m in
    let next = part (suc j) in
    sym (value_elements 16 (part j) x (length_part j (omega arith)))
    ∙ ap (λ (l : List ℕ). value l x) (tab_cong 16 (λ i. get_or (part j) i 0)
    (λ i. get_or next (suc i) 0 ⊕ (get_or next 0 0 ⊕ 0) ⊗ get_or generator (suc i) 0) (λ i lt. tested j i h lt
    ∙ ap (λ (g : List ℕ). get_or next (suc i) 0 ⊕ (get_or next 0 0 ⊕ 0) ⊗ get_or g (suc i) 0) generator_is))
    ∙ value_step next 0 m (length_part (suc j) (omega arith)) k
    ∙ ap (λ (v : ℕ). value next x ⊗ x ⊕ v) (zero-⊗ (power x 16)) ∙ ⊕-zero (value next x ⊗ x)

-- the last row is the generator without its highest coefficient
last_row : (k : ℕ) → k < 16 → get_or (part 15) k 0 ≡ get_or coefficients (suc k) 0
last_row k h =
    unfold part powers coefficients in eqb→eq (get_or (part 15) k 0) (get_or coefficients (suc k) 0)
    (at (λ (i : ℕ). eqb (get_or (part 15) i 0) (get_or coefficients (suc i) 0)) 16 tt k h)

part_last : (m : ℕ) → m < 16 → value (part 15) (power 2 m) ≡ power (power 2 m) 16
part_last m h =
    let x = power 2 m in
    sym (value_elements 16 (part 15) x (length_part 15 (omega arith)))
    ∙ ap (λ (l : List ℕ). value l x) (tab_cong 16 (λ i. get_or (part 15) i 0) (λ i. get_or generator (suc i) 0)
    (λ i lt. last_row i lt ∙ ap (λ (g : List ℕ). get_or g (suc i) 0) generator_is)) ∙ generator_tail m h

part_rule : (n j m : ℕ) → n + j ≡ 15 → m < 16 → value (part j) (power 2 m) ≡ power (power 2 m) (16 + n)
unfolding power
part_rule zero j m e h = let last : j ≡ 15 = omega arith in rw last (part_last m h)
part_rule (suc n) j m e h =
    part_step j m (omega arith) h ∙ ap (λ (v : ℕ). v ⊗ power 2 m) (part_rule n (suc j) m (omega arith) h)
    ∙ ⊗-comm (power (power 2 m) (16 + n)) (power 2 m)
    ∙ ap (power (power 2 m)) {x = suc (16 + n)} {y = 16 + suc n} (omega arith)

-- row j is x ^ (31 - j) at each root
pub powers_rule : (j m : ℕ) → j < 16 → m < 16 → value (row powers (16 * j)) (power 2 m) ≡ power (power 2 m) (31 - j)
powers_rule j m h k =
    unfold row in let x = power 2 m in
    ap (λ (c : List ℕ). value c x) (sym (tab_ext 16 (λ i. get_or powers (16 * j + i) 0) (part j) (length_part j h)
    (part_at j))) ∙ part_rule (15 - j) j m (omega arith) k
    ∙ ap (power x) {x = 16 + (15 - j)} {y = 31 - j} (omega arith)
