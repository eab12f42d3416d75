-- "A layer is started with four numbers": which are legal, and what a start answers.
--     legal_mode, legal_bits, legal_rate, legal_segments    of one number each
--     starting                                              the number that a start answers
use Rattle.std.specs.Prelude.{Bool, not, ◌||◌, [], ◌∷◌, ℕ, eqb}
use Rattle.lists.specs.Tests.{between}
use Rattle.settings.specs.declared.Settings.{Settings}
use Rattle.settings.specs.Answers.{◌when◌, first_of}

-- "mode 1 to 3"
abbrev pub legal_mode : ℕ → Bool
legal_mode mode = between 1 3 mode

-- "bits per carrier v, 2 (QPSK), 4 (16QAM) or 6 (64QAM)"
abbrev pub legal_bits : ℕ → Bool
legal_bits v = eqb v 2 || eqb v 4 || eqb v 6

-- "rate 1 to 5, meaning 1/2, 2/3, 3/4, 5/6, 7/8"
abbrev pub legal_rate : ℕ → Bool
legal_rate rate = between 1 5 rate

-- "segments N, 1 to 13"
abbrev pub legal_segments : ℕ → Bool
legal_segments segments = between 1 13 segments

-- "1, 2, 3, 4: mode, v, rate, segments not legal (starting a layer, in this order)"
unfoldable pub starting : Settings → ℕ
starting settings =
    first_of
    ((1 when not (legal_mode settings.mode))
    ∷ (2 when not (legal_bits settings.v))
    ∷ (3 when not (legal_rate settings.rate))
    ∷ (4 when not (legal_segments settings.segments))
    ∷ [])
