-- "Numbers of refusal" of a record, in words: what is asked for, and the number that is given where it isn't so, beside
-- the tests by which a start and each call give it.
--     behind_first                           all of a list but the first
--     record_reasons                         of a call in a named layer, before the layer's own
--     AllZero                                a layer that is unused at a start
--     layer_reasons, start_record_reasons    of a start: of each layer, and of all three
--     start_into_reasons                     of a start into a lent area
-- proofs/Reasons.antt: `in_layer`, `starting_record` and `starting_into` answer so.
use Rattle.std.specs.Prelude.{◌≡◌, true, false, ◌⊎◌, List, [], ◌∷◌, ◌++◌, ℕ, ◌+◌, ◌≤◌, length}
use Rattle.settings.specs.Reasons.{Reason, ◌unless◌}
use Rattle.layers.specs.declared.Layer.{Layer}
use Rattle.layers.specs.Record.{Kind, Three, unused, layer_named, good_record}
use Rattle.layers.specs.Areas.{record_size}

-- the reasons behind the first: a layer's own 7 is asked of the whole record already
abbrev pub behind_first : List {1} Reason → List {1} Reason
behind_first [] = []
behind_first (first ∷ rest) = rest

-- "7 asks this of the whole record"; "13, the named layer is unused"; "13 after 7"
abbrev pub record_reasons : (kind : Kind) → ℕ → Three kind.State → List {1} Reason → List {1} Reason
record_reasons kind name three own =
    (7 unless (good_record kind three ≡ true))
    ∷ (13 unless (unused kind (layer_named kind three name) ≡ false))
    ∷ own

-- "all three zero is an unused layer"
abbrev pub AllZero : Layer → Type 0
AllZero layer = ((layer.v ≡ 0) × (layer.rate ≡ 0)) × (layer.segments ≡ 0)

-- "anything else is tested as a used one"
abbrev pub layer_reasons : Layer → List {1} Reason
layer_reasons layer =
    (2 unless (AllZero layer ⊎ (((layer.v ≡ 2) ⊎ (layer.v ≡ 4)) ⊎ (layer.v ≡ 6))))
    ∷ (3 unless (AllZero layer ⊎ ((1 ≤ layer.rate) × (layer.rate ≤ 5))))
    ∷ (4 unless (AllZero layer ⊎ ((1 ≤ layer.segments) × (layer.segments ≤ 13))))
    ∷ []

-- "A start tests the layers in the order A, B, C. A mode that isn't legal gives 1 even if no layer is used"; "12, more
-- than 13 segments in all", "12 after every 4"
abbrev pub start_record_reasons : Three Layer → List {1} Reason
start_record_reasons layers =
    (1 unless ((1 ≤ layers.mode) × (layers.mode ≤ 3)))
    ∷ (layer_reasons layers.a
    ++ (layer_reasons layers.b
    ++ (layer_reasons layers.c
    ++ ((12 unless (layers.a.segments + layers.b.segments + layers.c.segments ≤ 13)) ∷ []))))

-- "an area of another length is left alone and answered with 7, after 1 to 4 and 12"
abbrev pub start_into_reasons : Kind → Three Layer → List ℕ → List {1} Reason
start_into_reasons kind layers area = start_record_reasons layers ++ ((7 unless (length area ≡ record_size kind)) ∷ [])
