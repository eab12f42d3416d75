-- What the inner functions say of each other: the first byte of a slot.
use Rattle.std.specs.Prelude.{ℕ, Result, Ok, Err, if◌then◌else◌, ◌==◌}
use Rattle.nearest.specs.declared.Uncorrected.{Uncorrected}

-- how many bytes were corrected, 254 where the codeword doesn't begin with 47, 255 where there is none
abbrev pub first_byte : Result ℕ Uncorrected → ℕ → ℕ
first_byte (Ok n) start = if start == 0x47 then n else 254
first_byte (Err e) start = 255
