-- What a program awaits: "a settings line and then one frame a line"; what ends the run leaves nothing to await.
--     by_awaits    one of three, by what is awaited
--     over         whether the run is over
use Rattle.std.specs.Prelude.{Bool, true, false}
use Rattle.text_lines.specs.declared.Awaits.{Awaits}
use Rattle.text_lines.specs.declared.Awaits.TheVariants.{FirstLine, Frames, Nothing}

abbrev pub by_awaits : {A : Type 0} → Awaits → A → A → A → A
by_awaits FirstLine first frame nothing = first
by_awaits Frames first frame nothing = frame
by_awaits Nothing first frame nothing = nothing

abbrev pub over : Awaits → Bool
over awaits = by_awaits awaits false false true
