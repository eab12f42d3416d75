-- Fields laid end to end, each read back at its place.
--     sizes_of, total         how long the fields are, and all of them
--     parts_of                an area cut into parts of some sizes, from a place on
--     with_fields             an area into which fields of some sizes are put one behind the other, from a place on
--     parts_laid              laid fields cut into parts as long as they are: the fields again
--     laid_parts              an area as long as the sizes' sum is its parts laid end to end
--     length_laid             laid fields are as long as the sizes' sum
--     fields_put              fields put into an area as long as they are: the fields laid end to end
--     zeros_of, laid_zeros    fields of zeros laid end to end are zeros
use mathlib.Core.Path.{◌≡◌, refl, sym, ap, ap₂, ◌∙◌, subst}
use mathlib.Core.List.{List, [], ◌∷◌, ◌++◌, append_assoc}
use Prim.Native.Nat.{ℕ, ◌+◌, ◌<◌}
use native.Mathlib.Omega.{arith}
use lib.ListN.{length, get_or, replicate, length-append, replicate-append-replicate}
use lib.Seq.{get_or-append-add}
use Rattle.lists.specs.Tab.{tab, part_of, laid}
use Rattle.lists.proofs.Tabs.{tab_ext, tab_cong, tab_join}
use Rattle.lists.proofs.Join.{get_d_first}
use Rattle.lists.proofs.Fill.{Fill, fill_none, fill_all}
use Rattle.lists.proofs.Parts.{with_part}
use Rattle.lists.proofs.Puts.{part_put, put_fill}

abbrev pub sizes_of : List (List ℕ) → List ℕ
sizes_of [] = []
sizes_of (field ∷ fields) = length field ∷ sizes_of fields

abbrev pub total : List ℕ → ℕ
total [] = 0
total (size ∷ sizes) = size + total sizes

abbrev pub parts_of : List ℕ → ℕ → List ℕ → List (List ℕ)
parts_of area place [] = []
parts_of area place (size ∷ sizes) = part_of area place size ∷ parts_of area (place + size) sizes

abbrev pub with_fields : List (List ℕ) → List ℕ → ℕ → List ℕ → List ℕ
with_fields [] sizes place area = area
with_fields (field ∷ fields) [] place area = area
with_fields (field ∷ fields) (size ∷ sizes) place area =
    with_fields fields sizes (place + size) (with_part field place area)

-- ---- cut, and laid again

-- from a place on
laid_from : (sizes area : List ℕ) (place : ℕ) → laid (parts_of area place sizes) ≡ part_of area place (total sizes)
unfolding laid tab
laid_from [] area place = refl
laid_from (size ∷ sizes) area place =
    ap (λ (l : List ℕ). part_of area place size ++ l) (laid_from sizes area (place + size)
    ∙ tab_cong (total sizes) _ _ (λ k lt. ap (λ (n : ℕ). get_or area n 0) (omega arith)))
    ∙ sym (tab_join size (total sizes) (λ k. get_or area (place + k) 0))

-- An area as long as the sizes' sum is its parts laid end to end.
pub laid_parts : (sizes area : List ℕ) → length area ≡ total sizes → laid (parts_of area 0 sizes) ≡ area
laid_parts sizes area long =
    laid_from sizes area 0
    ∙ sym (tab_ext (total sizes) _ area long (λ k lt. ap (λ (n : ℕ). get_or area n 0) (omega arith)))

-- ---- laid, and cut again

-- entry k of a field behind others
entry_at : (front field back : List ℕ) (k : ℕ) → k < length field
    → get_or (front ++ (field ++ back)) (length front + k) 0 ≡ get_or field k 0
entry_at front field back k lt = get_or-append-add front (field ++ back) k 0 ∙ get_d_first field back k lt

-- behind others
parts_behind : (fields : List (List ℕ)) (front : List ℕ)
    → parts_of (front ++ laid fields) (length front) (sizes_of fields) ≡ fields
unfolding laid
parts_behind [] front = refl
parts_behind (field ∷ fields) front =
    ap₂ ◌∷◌
    (sym (tab_ext (length field) _ field refl (λ k lt. sym (entry_at front field (laid fields) k lt))))
    (subst (λ (area : List ℕ). parts_of area (length front + length field) (sizes_of fields) ≡ fields)
    (append_assoc front field (laid fields))
    (subst (λ (place : ℕ). parts_of ((front ++ field) ++ laid fields) place (sizes_of fields) ≡ fields)
    (length-append front field) (parts_behind fields (front ++ field))))

-- Laid fields are cut into the fields again.
pub parts_laid : (fields : List (List ℕ)) (sizes : List ℕ) → sizes_of fields ≡ sizes
    → parts_of (laid fields) 0 sizes ≡ fields
parts_laid fields sizes e = rw (sym e) (parts_behind fields [])

-- ---- put into an area

filled_behind : (fields : List (List ℕ)) (front area : List ℕ)
    → Fill (length (front ++ laid fields)) (λ k. get_or (front ++ laid fields) k 0) (length front) area
    → with_fields fields (sizes_of fields) (length front) area ≡ front ++ laid fields
unfolding laid
filled_behind [] front area b =
    fill_all _ _ b (omega (arith, length-append front [])) ∙ sym (tab_ext _ _ (front ++ []) refl (λ k lt. refl))
filled_behind (field ∷ fields) front area b =
    let all = length-append front (field ++ laid fields) in
    let rest = length-append field (laid fields) in
    let put = part_put field (length front) area (omega arith) _ refl _ refl in
    let more = put_fill _ _ (length front) (length field) field area _ b put (entry_at front field (laid fields)) in
    rw (sym (append_assoc front field (laid fields)), sym (length-append front field))
    (filled_behind fields (front ++ field) _
    (rw (append_assoc front field (laid fields), length-append front field) more))

pub length_laid : (fields : List (List ℕ)) → length (laid fields) ≡ total (sizes_of fields)
unfolding laid
length_laid [] = refl
length_laid (field ∷ fields) =
    length-append field (laid fields) ∙ ap (λ (n : ℕ). length field + n) (length_laid fields)

-- Fields put into an area as long as they are, one behind the other, are the fields laid end to end.
pub fields_put : (fields : List (List ℕ)) (sizes : List ℕ) → sizes_of fields ≡ sizes → (area : List ℕ)
    → length area ≡ total sizes → with_fields fields sizes 0 area ≡ laid fields
fields_put fields sizes e area long =
    rw (sym e) (filled_behind fields [] area (fill_none _ _ (long ∙ ap total (sym e) ∙ sym (length_laid fields))))

-- ---- zeros

abbrev pub zeros_of : List ℕ → List (List ℕ)
zeros_of [] = []
zeros_of (size ∷ sizes) = replicate size 0 ∷ zeros_of sizes

pub laid_zeros : (sizes : List ℕ) → laid (zeros_of sizes) ≡ replicate (total sizes) 0
unfolding laid
laid_zeros [] = refl
laid_zeros (size ∷ sizes) =
    ap (λ (l : List ℕ). replicate size 0 ++ l) (laid_zeros sizes) ∙ replicate-append-replicate size (total sizes) 0
