-- A record's bytes, there and back.
--     SizedRecord, sized_named       a record as the code has it: its layers' arrays have their lengths
--     sized_with                     with another layer that has them
--     empty_sized, read_sized        a record of zeros has them, and so has the record of any area
--     length_record, record_back     a record has 1 + 3 × size bytes, and the record of them is the record
--     area_back                      the bytes of the record of an area that long are the area
--     layer_part                     the layer that is named stands from byte 1 + size × name on
--     outside_same                   bytes that aren't that layer's stay where it is exchanged
--     zero_record                    those of a record of zeros are zeros
use mathlib.Core.Path.{◌≡◌, refl, sym, ap, ◌∙◌}
use mathlib.Core.List.{List, [], ◌∷◌, ◌++◌, append_assoc}
use Prim.Native.Nat.{ℕ, zero, suc, ◌+◌, ◌-◌, ◌*◌, ◌<◌, ◌≤◌}
use native.Mathlib.Decide.{dec_lt}
use native.Mathlib.Omega.{arith}
use lib.ListN.{length, get_or, replicate, length-append}
use Rattle.lists.specs.Tab.{tab, part_of, laid}
use Rattle.lists.proofs.Tabs.{length_tab}
use Rattle.lists.proofs.Join.{get_d_first, get_d_second}
use Rattle.lists.proofs.Fields.{sizes_of, total, parts_laid, laid_parts, length_laid, laid_zeros}
use Rattle.layers.specs.Record.{Kind, Three, three_from, unused_layer, layer_named, with_layer, empty_record}
use Rattle.layers.specs.Areas.{record_size, record_of, record_bytes}
use Rattle.layers.proofs.Laws.{LawfulKind}

-- ---- records of sized layers

pub record SizedRecord {kind : Kind} (laws : LawfulKind kind) (three : Three kind.State) : Type 0 where
  pub a_sized : laws.Sized three.a
  pub b_sized : laws.Sized three.b
  pub c_sized : laws.Sized three.c

module _ {kind : Kind} (laws : LawfulKind kind) where
  pub empty_sized : SizedRecord laws (empty_record kind)
  unfolding empty_record unused_layer
  empty_sized = record {
    a_sized = laws.fresh_sized _;
    b_sized = laws.fresh_sized _;
    c_sized = laws.fresh_sized _;
  }

  pub read_sized : (area : List ℕ) → SizedRecord laws (record_of kind area)
  unfolding record_of
  read_sized area = record { a_sized = laws.of_sized _; b_sized = laws.of_sized _; c_sized = laws.of_sized _ }

  module _ (three : Three kind.State) (sized : SizedRecord laws three) where
    pub sized_named : (name : ℕ) → laws.Sized (layer_named kind three name)
    unfolding layer_named unused_layer
    sized_named zero = sized.a_sized
    sized_named (suc zero) = sized.b_sized
    sized_named (suc (suc zero)) = sized.c_sized
    sized_named (suc (suc (suc other))) = laws.fresh_sized _

    pub sized_with : (name : ℕ) (state : kind.State) → laws.Sized state
        → SizedRecord laws (with_layer three name state)
    unfolding with_layer
    sized_with zero state is = record { a_sized = is; b_sized = sized.b_sized; c_sized = sized.c_sized }
    sized_with (suc zero) state is = record { a_sized = sized.a_sized; b_sized = is; c_sized = sized.c_sized }
    sized_with (suc (suc zero)) state is = record { a_sized = sized.a_sized; b_sized = sized.b_sized; c_sized = is }
    sized_with (suc (suc (suc other))) state is = sized

-- ---- there and back

-- the record's fields, each as bytes, and how long they are
abbrev fields : (kind : Kind) → Three kind.State → List (List ℕ)
fields kind three = (three.mode ∷ []) ∷ kind.bytes three.a ∷ kind.bytes three.b ∷ kind.bytes three.c ∷ []

abbrev sizes : Kind → List ℕ
sizes kind = 1 ∷ kind.size ∷ kind.size ∷ kind.size ∷ []

same_three : {Each : Type 0} {m m' : ℕ} {a a' b b' c c' : Each} → m ≡ m' → a ≡ a' → b ≡ b' → c ≡ c'
    → three_from m a b c ≡ three_from m' a' b' c'
same_three e f g h = rw (e, f, g, h) refl

module _ {kind : Kind} (laws : LawfulKind kind) (three : Three kind.State) (sized : SizedRecord laws three) where
  sizes_are : sizes_of (fields kind three) ≡ sizes kind
  sizes_are =
      rw (
        laws.bytes_long three.a sized.a_sized,
        laws.bytes_long three.b sized.b_sized,
        laws.bytes_long three.c sized.c_sized,
      ) refl

  pub length_record : length (record_bytes kind three) ≡ record_size kind
  length_record =
      unfold record_bytes in length_laid (fields kind three) ∙ ap total sizes_are ∙ omega arith

  -- The record of a record's bytes is the record.
  pub record_back : record_of kind (record_bytes kind three) ≡ three
  record_back =
      unfold record_of record_bytes tab in let bytes = laid (fields kind three) in
      let parts = parts_laid (fields kind three) (sizes kind) sizes_are in
      let mode : get_or bytes 0 0 ≡ three.mode = cc in
      let a : part_of bytes 1 kind.size ≡ kind.bytes three.a = cc in
      let b : part_of bytes (1 + kind.size) kind.size ≡ kind.bytes three.b = cc in
      let c : part_of bytes (1 + kind.size + kind.size) kind.size ≡ kind.bytes three.c = cc in
      same_three mode
      (ap kind.state_of a ∙ laws.state_back three.a sized.a_sized)
      (ap kind.state_of b ∙ laws.state_back three.b sized.b_sized)
      (ap (λ (n : ℕ). kind.state_of (part_of bytes n kind.size)) (omega arith)
      ∙ ap kind.state_of c ∙ laws.state_back three.c sized.c_sized)

module _ {kind : Kind} (laws : LawfulKind kind) (area : List ℕ) where
  part_back : (place : ℕ)
      → kind.bytes (kind.state_of (part_of area place kind.size)) ≡ part_of area place kind.size
  part_back place = laws.bytes_back (part_of area place kind.size) (length_tab kind.size _)

  -- The bytes of the record of an area as long as a record are the area.
  pub area_back : length area ≡ record_size kind → record_bytes kind (record_of kind area) ≡ area
  area_back long =
      unfold record_bytes record_of tab in let last : 1 + 2 * kind.size ≡ 1 + kind.size + kind.size = omega arith in
      rw (part_back 1, part_back (1 + kind.size), part_back (1 + 2 * kind.size), last)
      (laid_parts (sizes kind) area (long ∙ omega arith))

  -- The layer that is named stands from byte 1 + size × name on.
  pub layer_part : (name : ℕ) → name < 3
      → layer_named kind (record_of kind area) name ≡ kind.state_of (part_of area (1 + kind.size * name) kind.size)
  unfolding record_of layer_named
  layer_part zero below = ap (λ (n : ℕ). kind.state_of (part_of area n kind.size)) (omega arith)
  layer_part (suc zero) below =
      ap (λ (n : ℕ). kind.state_of (part_of area n kind.size)) (omega arith)
  layer_part (suc (suc zero)) below =
      ap (λ (n : ℕ). kind.state_of (part_of area n kind.size)) (omega arith)
  layer_part (suc (suc (suc other))) below = absurd (omega arith)

-- The bytes of a record of zeros are zeros.
pub zero_record : {kind : Kind} → LawfulKind kind → record_bytes kind (empty_record kind)
    ≡ replicate (record_size kind) 0
unfolding record_bytes empty_record
zero_record {kind} laws =
    let all : total (sizes kind) ≡ record_size kind = omega arith in
    rw laws.zero_bytes (laid_zeros (sizes kind) ∙ ap (λ (n : ℕ). replicate n 0) all)

-- ---- a layer exchanged

same_around : (front one two back : List ℕ) → length one ≡ length two → (k : ℕ)
    → (length front ≤ k → k < length front + length one → ⊥)
    → get_or (front ++ (one ++ back)) k 0 ≡ get_or (front ++ (two ++ back)) k 0
same_around front one two back same k outside = elim (dec_lt k (length front)) [
  | yes early ↦ get_d_first front (one ++ back) k early ∙ sym (get_d_first front (two ++ back) k early)
  | no late ↦ elim (dec_lt k (length front + length one)) [
    | yes inside ↦ absurd (outside (omega arith) inside)
    | no behind ↦
        get_d_second front (one ++ back) k (omega arith)
        ∙ get_d_second one back (k - length front) (omega arith)
        ∙ ap (λ (n : ℕ). get_or back (k - length front - n) 0) same
        ∙ sym (get_d_second two back (k - length front) (omega arith))
        ∙ sym (get_d_second front (two ++ back) k (omega arith))
  ]
]

joined : (mode : ℕ) (a b rest : List ℕ) (k : ℕ)
    → get_or (mode ∷ (a ++ (b ++ rest))) k 0 ≡ get_or ((mode ∷ (a ++ b)) ++ rest) k 0
joined mode a b rest k = ap (λ (l : List ℕ). get_or (mode ∷ l) k 0) (sym (append_assoc a b rest))

-- Bytes that aren't the named layer's stay where it is exchanged.
pub outside_same : {kind : Kind} (laws : LawfulKind kind) (three : Three kind.State) → SizedRecord laws three
    → (name : ℕ) (state : kind.State) → laws.Sized state → (k : ℕ)
    → (1 + kind.size * name ≤ k → k < 1 + kind.size * name + kind.size → ⊥)
    → get_or (record_bytes kind (with_layer three name state)) k 0 ≡ get_or (record_bytes kind three) k 0
unfolding record_bytes laid with_layer
outside_same {kind} laws three sized zero state is k outside =
    let a = laws.bytes_long three.a sized.a_sized in
    let new = laws.bytes_long state is in
    same_around (three.mode ∷ []) (kind.bytes state) (kind.bytes three.a) _ (new ∙ sym a) k
    (λ from to. outside (omega arith) (omega arith))
outside_same {kind} laws three sized (suc zero) state is k outside =
    let a = laws.bytes_long three.a sized.a_sized in
    let b = laws.bytes_long three.b sized.b_sized in
    let new = laws.bytes_long state is in
    same_around (three.mode ∷ kind.bytes three.a) (kind.bytes state) (kind.bytes three.b) _ (new ∙ sym b) k
    (λ from to. outside (omega arith) (omega arith))
outside_same {kind} laws three sized (suc (suc zero)) state is k outside =
    let long-a = laws.bytes_long three.a sized.a_sized in
    let long-b = laws.bytes_long three.b sized.b_sized in
    let long-c = laws.bytes_long three.c sized.c_sized in
    let new = laws.bytes_long state is in
    let a = kind.bytes three.a in
    let b = kind.bytes three.b in
    let both = length-append a b in
    joined three.mode a b (kind.bytes state ++ []) k
    ∙ same_around (three.mode ∷ (a ++ b)) (kind.bytes state) (kind.bytes three.c) [] (new ∙ sym long-c) k
    (λ from to. outside (omega arith) (omega arith))
    ∙ sym (joined three.mode a b (kind.bytes three.c ++ []) k)
outside_same {kind} laws three sized (suc (suc (suc other))) state is k outside = refl
