-- "A start tests the layers in the order A, B, C. A mode that isn't legal gives 1 even if no layer is used, and a
-- refused start gives zeros throughout."
--     no_layer, settings_in              an unused layer at a start; a layer's settings in the record's mode
--     layer_of                           the layer of a name
--     starting_layer, starting_record    the number that a start answers, of a layer and of all three
--     started_layer, started_record      the state, and the record, that a start gives
use Rattle.std.specs.Prelude.{Bool, cond, not, ◌&&◌, [], ◌∷◌, ℕ, zero, suc, ◌+◌, eqb, leb}
use Rattle.settings.specs.declared.Settings.{Settings}
use Rattle.settings.specs.Answers.{◌when◌, given, first_of}
use Rattle.settings.specs.Legal.{legal_mode, starting}
use Rattle.settings.specs.Areas.{settings_from}
use Rattle.layers.specs.declared.Layer.{Layer}
use Rattle.layers.specs.Record.{Kind, Three, three_from, unused_layer, empty_record}

-- "all three zero is an unused layer, anything else is tested as a used one"
unfoldable pub no_layer : Layer → Bool
no_layer layer = eqb layer.v 0 && eqb layer.rate 0 && eqb layer.segments 0

abbrev pub settings_in : ℕ → Layer → Settings
settings_in mode layer = settings_from mode layer.v layer.rate layer.segments

-- the layer that is named: "Any other name is a layer that isn't used"
abbrev pub layer_of : Three Layer → ℕ → Layer
layer_of layers zero = layers.a
layer_of layers (suc zero) = layers.b
layer_of layers (suc (suc zero)) = layers.c
layer_of layers (suc (suc (suc other))) = record { v = 0; rate = 0; segments = 0 }

-- 2, 3, 4 in a legal mode, as a start of that layer alone; of an unused one nothing is asked
unfoldable pub starting_layer : ℕ → Layer → ℕ
starting_layer mode layer = cond (no_layer layer) 0 (starting (settings_in mode layer))

-- "12, more than 13 segments in all", "12 after every 4"
unfoldable pub starting_record : Three Layer → ℕ
starting_record three =
    first_of
    ((1 when not (legal_mode three.mode))
    ∷ given (starting_layer three.mode three.a)
    ∷ given (starting_layer three.mode three.b)
    ∷ given (starting_layer three.mode three.c)
    ∷ (12 when not (leb (three.a.segments + three.b.segments + three.c.segments) 13))
    ∷ [])

-- "A layer repeats the record's mode; an unused one is all zero."
unfoldable pub started_layer : (kind : Kind) → ℕ → Layer → kind.State
started_layer kind mode layer = cond (no_layer layer) (unused_layer kind) (kind.fresh (settings_in mode layer))

unfoldable pub started_record : (kind : Kind) → Three Layer → Three kind.State
started_record kind three =
    cond (eqb (starting_record three) 0)
    (three_from three.mode
    (started_layer kind three.mode three.a)
    (started_layer kind three.mode three.b)
    (started_layer kind three.mode three.c))
    (empty_record kind)
