-- States at their places in a record's area: what the functions that read and write such areas go by.
--     part_of_part             a part of a part of an area is a part of the area
--     with_fields_is           fields put one behind the other, from a place on, are put as one part
--     read_record, other_in    the record that an area is, by its length
--     put_record, put_same     an area into which a record is put, layer by layer; another equal one
--     left_alone               an area of another length
use mathlib.Core.Path.{◌≡◌, refl, sym, ap, ◌∙◌}
use mathlib.Core.List.{List, [], ◌∷◌, ◌++◌}
use Prim.Native.Nat.{ℕ, ◌+◌, ◌-◌, ◌*◌, ◌<◌, ◌≤◌}
use native.Mathlib.Decide.{dec_lt}
use native.Mathlib.Omega.{arith}
use lib.ListN.{length, get_or, length-append}
use borrow.Author.Tests.{eq-eqb, ne_eqb}
use Rattle.lists.specs.Tab.{tab, part_of, laid}
use Rattle.lists.proofs.Tabs.{tab_ext, tab_cong, length_tab, get_d_tab}
use Rattle.lists.proofs.Join.{get_d_first, get_d_second}
use Rattle.lists.proofs.Parts.{with_part}
use Rattle.lists.proofs.Puts.{byte_with, with_before, with_inside, with_behind}
use Rattle.lists.proofs.Fields.{sizes_of, with_fields, fields_put}
use Rattle.layers.specs.Record.{Kind, Three, three_from, empty_record}
use Rattle.layers.specs.Areas.{record_size, record_of, record_bytes, record_in, area_with}

-- ---- parts

pub part_of_part : (area : List ℕ) (place count from few : ℕ) → from + few ≤ count
    → part_of area (place + from) few ≡ part_of (part_of area place count) from few
part_of_part area place count from few inside =
    tab_cong few _ _ (λ k less.
    ap (λ (n : ℕ). get_or area n 0) (omega arith) ∙ sym (get_d_tab count _ (from + k) (omega arith)))

module _ (one two : List ℕ) (place : ℕ) (area : List ℕ) where
  abbrev first : List ℕ
  first = with_part one place area

  -- byte k of the area with the two parts
  byte_same : (k : ℕ) → k < length area
      → byte_with two (place + length one) first k ≡ byte_with (one ++ two) place area k
  unfolding with_part
  byte_same k less =
      let long = length-append one two in
      let at : get_or first k 0 ≡ byte_with one place area k = get_d_tab (length area)
      (byte_with one place area) k less in
      elim (dec_lt k (place + length one)) [
        | yes early ↦ with_before two (place + length one) first k early ∙ at ∙ elim (dec_lt k place) [
          | yes before ↦ with_before one place area k before ∙ sym (with_before (one ++ two) place area k before)
          | no inside ↦
              let there : place + (k - place) ≡ k = omega arith in
              ap (byte_with one place area) (sym there) ∙ with_inside one place area (k - place) (omega arith)
              ∙ sym (get_d_first one two (k - place) (omega arith))
              ∙ sym (with_inside (one ++ two) place area (k - place) (omega arith))
              ∙ ap (byte_with (one ++ two) place area) there
        ]
        | no late ↦ elim (dec_lt k (place + length one + length two)) [
          | yes inside ↦
              let there : place + length one + (k - place - length one) ≡ k = omega arith in
              let whole : place + (k - place) ≡ k = omega arith in
              ap (byte_with two (place + length one) first) (sym there)
              ∙ with_inside two (place + length one) first (k - place - length one) (omega arith)
              ∙ sym (get_d_second one two (k - place) (omega arith))
              ∙ sym (with_inside (one ++ two) place area (k - place) (omega arith))
              ∙ ap (byte_with (one ++ two) place area) whole
          | no behind ↦
              with_behind two (place + length one) first k (omega arith) (omega arith) ∙ at
              ∙ with_behind one place area k (omega arith) (omega arith)
              ∙ sym (with_behind (one ++ two) place area k (omega arith) (omega arith))
        ]
      ]

  with_two : with_part two (place + length one) first ≡ with_part (one ++ two) place area
  unfolding with_part
  with_two =
      let long : length first ≡ length area = length_tab (length area) (byte_with one place area) in
      ap (λ (n : ℕ). tab n (byte_with two (place + length one) first)) long
      ∙ tab_cong (length area) _ _ byte_same

with_nothing : (place : ℕ) (area : List ℕ) → with_part [] place area ≡ area
unfolding with_part
with_nothing place area = sym (tab_ext (length area) _ area refl (λ k less. nothing k (dec_lt k place)))
  where
    nothing : (k : ℕ) → Dec (k < place) → get_or area k 0 ≡ byte_with [] place area k
    nothing k (yes before) = sym (with_before [] place area k before)
    nothing k (no behind) = sym (with_behind [] place area k (omega arith) (omega arith))

by_sizes : (fields : List (List ℕ)) (place : ℕ) (area : List ℕ)
    → with_fields fields (sizes_of fields) place area ≡ with_part (laid fields) place area
unfolding laid
by_sizes [] place area = sym (with_nothing place area)
by_sizes (field ∷ fields) place area =
    by_sizes fields (place + length field) (with_part field place area) ∙ with_two field (laid fields) place area

pub with_fields_is : (fields : List (List ℕ)) (sizes : List ℕ) → sizes_of fields ≡ sizes → (place : ℕ) (area : List ℕ)
    → with_fields fields sizes place area ≡ with_part (laid fields) place area
with_fields_is fields sizes e place area = rw (sym e) (by_sizes fields place area)

-- ---- the record that an area is

module _ (kind : Kind) (area : List ℕ) where
  pub read_record : length area ≡ record_size kind → (mode : ℕ) (a b c : kind.State) → mode ≡ get_or area 0 0
      → a ≡ kind.state_of (part_of area 1 kind.size)
      → b ≡ kind.state_of (part_of area (1 + kind.size) kind.size)
      → c ≡ kind.state_of (part_of area (1 + 2 * kind.size) kind.size) → three_from mode a b c ≡ record_in kind area
  unfolding record_in record_of
  read_record long mode a b c e f g h = rw (eq-eqb (length area) (record_size kind) long, e, f, g, h) refl

  pub other_in : (length area ≡ record_size kind → ⊥) → empty_record kind ≡ record_in kind area
  other_in other = unfold record_in in rw (ne_eqb (length area) (record_size kind) other) refl

-- ---- a record put into an area

module _ (kind : Kind) (three : Three kind.State) (area : List ℕ) where
  abbrev fields : List (List ℕ)
  fields = (three.mode ∷ []) ∷ kind.bytes three.a ∷ kind.bytes three.b ∷ kind.bytes three.c ∷ []

  pub put_record : length area ≡ record_size kind → length (kind.bytes three.a) ≡ kind.size
      → length (kind.bytes three.b) ≡ kind.size → length (kind.bytes three.c) ≡ kind.size
      → (one two three' four : List ℕ) → one ≡ with_part (three.mode ∷ []) 0 area
      → two ≡ with_part (kind.bytes three.a) 1 one
      → three' ≡ with_part (kind.bytes three.b) (1 + kind.size) two
      → four ≡ with_part (kind.bytes three.c) (1 + 2 * kind.size) three' → four ≡ area_with kind three area
  unfolding area_with record_bytes
  put_record long a b c one two three' four e f g h =
      let sizes : List ℕ = 1 ∷ kind.size ∷ kind.size ∷ kind.size ∷ [] in
      let same : sizes_of fields ≡ sizes = rw (a, b, c) refl in
      let last : 1 + 2 * kind.size ≡ 1 + kind.size + kind.size = omega arith in
      rw (eq-eqb (length area) (record_size kind) long, h, g, f, e, last)
      (fields_put fields sizes same area (long ∙ omega arith))

  pub left_alone : (length area ≡ record_size kind → ⊥) → area ≡ area_with kind three area
  left_alone other = unfold area_with in rw (ne_eqb (length area) (record_size kind) other) refl

  -- of a record that is another's equal
  pub put_same : (other : Three kind.State) → three ≡ other → (area' : List ℕ) → area' ≡ area_with kind three area
      → area' ≡ area_with kind other area
  put_same other same area' e = e ∙ ap (λ (t : Three kind.State). area_with kind t area) same
