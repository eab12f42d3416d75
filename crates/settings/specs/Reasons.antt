-- "Numbers of refusal" in words: what a call asks for, and the number that is given where it isn't so, beside the tests
-- by which the entries give it.
--     Reason           a number of refusal, and what has to hold for it not to be given
--     GivenFirst       "The first that applies is given, and none without its reason."
--     start_reasons    of a start: "mode, v, rate, segments not legal (starting a layer, in this order)"
-- proofs/Reasons.antt: a start answers so; the other calls' reasons stand beside their answers.
use Rattle.std.specs.Prelude.{◌≡◌, ◌⊎◌, List, [], ◌∷◌, ℕ, ◌≤◌}
use Rattle.settings.specs.declared.Settings.{Settings}

infix 30 ◌unless◌
pub record Reason : Type 1 where
  pub number : ℕ
  pub asked : Type 0

abbrev pub ◌unless◌ : ℕ → Type 0 → Reason
n unless asked = record { number = n; asked = asked }

-- 0 where all that is asked for holds; else the number of the first that doesn't
pub data GivenFirst : List {1} Reason → ℕ → Type 1 where
  none_applies : GivenFirst [] 0
  applies : (n : ℕ) (asked : Type 0) (rest : List {1} Reason) → (asked → ⊥) → GivenFirst ((n unless asked) ∷ rest) n
  passes : (n : ℕ) (asked : Type 0) (rest : List {1} Reason) (m : ℕ) → asked → GivenFirst rest m
      → GivenFirst ((n unless asked) ∷ rest) m

abbrev pub start_reasons : Settings → List {1} Reason
start_reasons settings =
    -- "mode 1 to 3"
    (1 unless ((1 ≤ settings.mode) × (settings.mode ≤ 3)))
    -- "bits per carrier v, 2 (QPSK), 4 (16QAM) or 6 (64QAM)"
    ∷ (2 unless (((settings.v ≡ 2) ⊎ (settings.v ≡ 4)) ⊎ (settings.v ≡ 6)))
    -- "rate 1 to 5"
    ∷ (3 unless ((1 ≤ settings.rate) × (settings.rate ≤ 5)))
    -- "segments N, 1 to 13"
    ∷ (4 unless ((1 ≤ settings.segments) × (settings.segments ≤ 13)))
    ∷ []
