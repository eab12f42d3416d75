-- The unfinished word: "after any frame there are as many as the frame's last word has kept bits, less 120 × v".
--     held_of, held_from     how many of its bits are held, and the bits: 0, and zeros, where there is no such frame,
--                          and else `held_count` and `held_after` of `rules/specs/Back.antt`
use Rattle.std.specs.Prelude.{cond, ◌&&◌, List, ℕ, eqb, length, replicate}
use Rattle.settings.specs.declared.Settings.{Settings}
use Rattle.settings.specs.Legal.{starting}
use Rattle.settings.specs.Sizes.{C}
use Rattle.rules.specs.Back.{held_after, held_count}

unfoldable pub held_of : Settings → ℕ
held_of settings = cond (eqb (starting settings) 0) (held_count settings) 0

unfoldable pub held_from : Settings → List ℕ → List ℕ
held_from settings carriers =
    cond (eqb (starting settings) 0 && eqb (length carriers) (C settings)) (held_after settings carriers)
    (replicate 3072 0)
