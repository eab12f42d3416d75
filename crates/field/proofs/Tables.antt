-- The tables of powers and logarithms, and their rules: each is one test that antt computes.
use mathlib.Core.Path.{◌≡◌, refl, sym, ap, ◌∙◌}
use mathlib.Core.Bool.{Bool}
use mathlib.Core.List.{List, [], ◌∷◌}
use Prim.Native.Nat.{ℕ, zero, suc, ◌-◌, ◌<◌}
use native.Mathlib.Omega.{arith}
use lib.Dec.{eqb, eqb→eq, ltb, ltb→lt}
use lib.ListN.{get_or}
use Rattle.field.specs.Field.{◌⊕◌, double, power}
use Rattle.field.proofs.Product.{power_lt, two-⊗}
use Rattle.lists.proofs.Every.{at, both, both_left, both_right}

-- `POWERS` of src/power_constants.rt
unfoldable pub powers_of_two : List ℕ
powers_of_two =
    1 ∷ 2 ∷ 4 ∷ 8 ∷ 16 ∷ 32 ∷ 64 ∷ 128 ∷ 29 ∷ 58 ∷ 116 ∷ 232 ∷ 205 ∷ 135 ∷ 19 ∷ 38 ∷
    76 ∷ 152 ∷ 45 ∷ 90 ∷ 180 ∷ 117 ∷ 234 ∷ 201 ∷ 143 ∷ 3 ∷ 6 ∷ 12 ∷ 24 ∷ 48 ∷ 96 ∷ 192 ∷
    157 ∷ 39 ∷ 78 ∷ 156 ∷ 37 ∷ 74 ∷ 148 ∷ 53 ∷ 106 ∷ 212 ∷ 181 ∷ 119 ∷ 238 ∷ 193 ∷ 159 ∷ 35 ∷
    70 ∷ 140 ∷ 5 ∷ 10 ∷ 20 ∷ 40 ∷ 80 ∷ 160 ∷ 93 ∷ 186 ∷ 105 ∷ 210 ∷ 185 ∷ 111 ∷ 222 ∷ 161 ∷
    95 ∷ 190 ∷ 97 ∷ 194 ∷ 153 ∷ 47 ∷ 94 ∷ 188 ∷ 101 ∷ 202 ∷ 137 ∷ 15 ∷ 30 ∷ 60 ∷ 120 ∷ 240 ∷
    253 ∷ 231 ∷ 211 ∷ 187 ∷ 107 ∷ 214 ∷ 177 ∷ 127 ∷ 254 ∷ 225 ∷ 223 ∷ 163 ∷ 91 ∷ 182 ∷ 113 ∷ 226 ∷
    217 ∷ 175 ∷ 67 ∷ 134 ∷ 17 ∷ 34 ∷ 68 ∷ 136 ∷ 13 ∷ 26 ∷ 52 ∷ 104 ∷ 208 ∷ 189 ∷ 103 ∷ 206 ∷
    129 ∷ 31 ∷ 62 ∷ 124 ∷ 248 ∷ 237 ∷ 199 ∷ 147 ∷ 59 ∷ 118 ∷ 236 ∷ 197 ∷ 151 ∷ 51 ∷ 102 ∷ 204 ∷
    133 ∷ 23 ∷ 46 ∷ 92 ∷ 184 ∷ 109 ∷ 218 ∷ 169 ∷ 79 ∷ 158 ∷ 33 ∷ 66 ∷ 132 ∷ 21 ∷ 42 ∷ 84 ∷
    168 ∷ 77 ∷ 154 ∷ 41 ∷ 82 ∷ 164 ∷ 85 ∷ 170 ∷ 73 ∷ 146 ∷ 57 ∷ 114 ∷ 228 ∷ 213 ∷ 183 ∷ 115 ∷
    230 ∷ 209 ∷ 191 ∷ 99 ∷ 198 ∷ 145 ∷ 63 ∷ 126 ∷ 252 ∷ 229 ∷ 215 ∷ 179 ∷ 123 ∷ 246 ∷ 241 ∷ 255 ∷
    227 ∷ 219 ∷ 171 ∷ 75 ∷ 150 ∷ 49 ∷ 98 ∷ 196 ∷ 149 ∷ 55 ∷ 110 ∷ 220 ∷ 165 ∷ 87 ∷ 174 ∷ 65 ∷
    130 ∷ 25 ∷ 50 ∷ 100 ∷ 200 ∷ 141 ∷ 7 ∷ 14 ∷ 28 ∷ 56 ∷ 112 ∷ 224 ∷ 221 ∷ 167 ∷ 83 ∷ 166 ∷
    81 ∷ 162 ∷ 89 ∷ 178 ∷ 121 ∷ 242 ∷ 249 ∷ 239 ∷ 195 ∷ 155 ∷ 43 ∷ 86 ∷ 172 ∷ 69 ∷ 138 ∷ 9 ∷
    18 ∷ 36 ∷ 72 ∷ 144 ∷ 61 ∷ 122 ∷ 244 ∷ 245 ∷ 247 ∷ 243 ∷ 251 ∷ 235 ∷ 203 ∷ 139 ∷ 11 ∷ 22 ∷
    44 ∷ 88 ∷ 176 ∷ 125 ∷ 250 ∷ 233 ∷ 207 ∷ 131 ∷ 27 ∷ 54 ∷ 108 ∷ 216 ∷ 173 ∷ 71 ∷ 142 ∷ []

-- `LOGARITHMS` of src/logarithm_constants.rt
unfoldable pub logarithms_of : List ℕ
logarithms_of =
    0 ∷ 1 ∷ 25 ∷ 2 ∷ 50 ∷ 26 ∷ 198 ∷ 3 ∷ 223 ∷ 51 ∷ 238 ∷ 27 ∷ 104 ∷ 199 ∷ 75 ∷ 4 ∷
    100 ∷ 224 ∷ 14 ∷ 52 ∷ 141 ∷ 239 ∷ 129 ∷ 28 ∷ 193 ∷ 105 ∷ 248 ∷ 200 ∷ 8 ∷ 76 ∷ 113 ∷ 5 ∷
    138 ∷ 101 ∷ 47 ∷ 225 ∷ 36 ∷ 15 ∷ 33 ∷ 53 ∷ 147 ∷ 142 ∷ 218 ∷ 240 ∷ 18 ∷ 130 ∷ 69 ∷ 29 ∷
    181 ∷ 194 ∷ 125 ∷ 106 ∷ 39 ∷ 249 ∷ 185 ∷ 201 ∷ 154 ∷ 9 ∷ 120 ∷ 77 ∷ 228 ∷ 114 ∷ 166 ∷ 6 ∷
    191 ∷ 139 ∷ 98 ∷ 102 ∷ 221 ∷ 48 ∷ 253 ∷ 226 ∷ 152 ∷ 37 ∷ 179 ∷ 16 ∷ 145 ∷ 34 ∷ 136 ∷ 54 ∷
    208 ∷ 148 ∷ 206 ∷ 143 ∷ 150 ∷ 219 ∷ 189 ∷ 241 ∷ 210 ∷ 19 ∷ 92 ∷ 131 ∷ 56 ∷ 70 ∷ 64 ∷ 30 ∷
    66 ∷ 182 ∷ 163 ∷ 195 ∷ 72 ∷ 126 ∷ 110 ∷ 107 ∷ 58 ∷ 40 ∷ 84 ∷ 250 ∷ 133 ∷ 186 ∷ 61 ∷ 202 ∷
    94 ∷ 155 ∷ 159 ∷ 10 ∷ 21 ∷ 121 ∷ 43 ∷ 78 ∷ 212 ∷ 229 ∷ 172 ∷ 115 ∷ 243 ∷ 167 ∷ 87 ∷ 7 ∷
    112 ∷ 192 ∷ 247 ∷ 140 ∷ 128 ∷ 99 ∷ 13 ∷ 103 ∷ 74 ∷ 222 ∷ 237 ∷ 49 ∷ 197 ∷ 254 ∷ 24 ∷ 227 ∷
    165 ∷ 153 ∷ 119 ∷ 38 ∷ 184 ∷ 180 ∷ 124 ∷ 17 ∷ 68 ∷ 146 ∷ 217 ∷ 35 ∷ 32 ∷ 137 ∷ 46 ∷ 55 ∷
    63 ∷ 209 ∷ 91 ∷ 149 ∷ 188 ∷ 207 ∷ 205 ∷ 144 ∷ 135 ∷ 151 ∷ 178 ∷ 220 ∷ 252 ∷ 190 ∷ 97 ∷ 242 ∷
    86 ∷ 211 ∷ 171 ∷ 20 ∷ 42 ∷ 93 ∷ 158 ∷ 132 ∷ 60 ∷ 57 ∷ 83 ∷ 71 ∷ 109 ∷ 65 ∷ 162 ∷ 31 ∷
    45 ∷ 67 ∷ 216 ∷ 183 ∷ 123 ∷ 164 ∷ 118 ∷ 196 ∷ 23 ∷ 73 ∷ 236 ∷ 127 ∷ 12 ∷ 111 ∷ 246 ∷ 108 ∷
    161 ∷ 59 ∷ 82 ∷ 41 ∷ 157 ∷ 85 ∷ 170 ∷ 251 ∷ 96 ∷ 134 ∷ 177 ∷ 187 ∷ 204 ∷ 62 ∷ 90 ∷ 203 ∷
    89 ∷ 95 ∷ 176 ∷ 156 ∷ 169 ∷ 160 ∷ 81 ∷ 11 ∷ 245 ∷ 22 ∷ 235 ∷ 122 ∷ 117 ∷ 44 ∷ 215 ∷ 79 ∷
    174 ∷ 213 ∷ 233 ∷ 230 ∷ 231 ∷ 173 ∷ 232 ∷ 116 ∷ 214 ∷ 244 ∷ 234 ∷ 168 ∷ 80 ∷ 88 ∷ 175 ∷ []

-- each entry is twice the one before it
power_of_two_next : (i : ℕ) → i < 254 → get_or powers_of_two (suc i) 0 ≡ double (get_or powers_of_two i 0)
power_of_two_next i h =
    unfold powers_of_two double ◌⊕◌ in eqb→eq (get_or powers_of_two (suc i) 0) (double (get_or powers_of_two i 0))
    (at (λ (k : ℕ). eqb (get_or powers_of_two (suc k) 0) (double (get_or powers_of_two k 0))) 254 tt i h)

power_of_two_first : get_or powers_of_two 0 0 ≡ 1
power_of_two_first = unfold powers_of_two in refl

pub power_of_two_rule : (i : ℕ) → i < 255 → get_or powers_of_two i 0 ≡ power 2 i
unfolding power
power_of_two_rule zero h = power_of_two_first
power_of_two_rule (suc i) h = power_of_two_next i (omega arith) ∙ ap double (power_of_two_rule i (omega arith))
    ∙ sym (two-⊗ (power 2 i) (power_lt 2 i))

logarithm_test : ℕ → Bool
logarithm_test k =
    both (ltb (get_or logarithms_of k 0) 255) (eqb (get_or powers_of_two (get_or logarithms_of k 0) 0) (suc k))

logarithm_back : (k : ℕ) → k < 255
    → (get_or logarithms_of k 0 < 255) × (get_or powers_of_two (get_or logarithms_of k 0) 0 ≡ suc k)
logarithm_back k h =
    unfold powers_of_two logarithms_of logarithm_test in let l = get_or logarithms_of k 0 in
    let t = at logarithm_test 255 tt k h in (
      ltb→lt l 255 (both_left (ltb l 255) (eqb (get_or powers_of_two l 0) (suc k)) t),
      eqb→eq (get_or powers_of_two l 0) (suc k) (both_right (ltb l 255) (eqb (get_or powers_of_two l 0) (suc k)) t),
    )

logarithm_suc : (k : ℕ) → k < 255 → (get_or logarithms_of k 0 < 255) × (power 2 (get_or logarithms_of k 0) ≡ suc k)
logarithm_suc k h =
    let r : (get_or logarithms_of k 0 < 255) × (get_or powers_of_two (get_or logarithms_of k 0) 0 ≡ suc k) =
    logarithm_back k h in
    (r.0, sym (power_of_two_rule (get_or logarithms_of k 0) r.0) ∙ r.1)

pub logarithm_rule : (a : ℕ) → 0 < a → a < 256
    → (get_or logarithms_of (a - 1) 0 < 255) × (power 2 (get_or logarithms_of (a - 1) 0) ≡ a)
logarithm_rule a p h =
    let r = logarithm_suc (a - 1) (omega arith) in
    (r.0, r.1 ∙ omega arith)

-- the powers of 2 below 255 are distinct
power_of_two_back : (i : ℕ) → i < 255 → get_or logarithms_of (get_or powers_of_two i 0 - 1) 0 ≡ i
power_of_two_back i h =
    unfold powers_of_two logarithms_of in eqb→eq (get_or logarithms_of (get_or powers_of_two i 0 - 1) 0) i
    (at (λ (k : ℕ). eqb (get_or logarithms_of (get_or powers_of_two k 0 - 1) 0) k) 255 tt i h)

pub power_distinct : (i j : ℕ) → i < 255 → j < 255 → power 2 i ≡ power 2 j → i ≡ j
power_distinct i j hi hj e =
    sym (power_of_two_back i hi) ∙ ap (λ (x : ℕ). get_or logarithms_of (x - 1) 0)
    (power_of_two_rule i hi ∙ e ∙ sym (power_of_two_rule j hj)) ∙ power_of_two_back j hj
