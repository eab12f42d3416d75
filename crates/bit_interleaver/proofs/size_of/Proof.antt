-- `bit_interleaver::size_of` meets its contract.
use mathlib.Core.Path.{◌≡◌, ap}
use mathlib.Core.Bool.{Bool, true, false}
use Prim.Native.Nat.{ℕ, ◌-◌, ◌*◌, ◌<◌, ◌≤◌}
use native.Mathlib.Omega.{arith}
use Rattle.rules.specs.Bits.{line_delay, wait_of}
use Rattle.rules.proofs.Entries.{sizes_of}
use Rattle.rules.proofs.Widths.{delay_most}
use Rattle.bit_interleaver.proofs.size_of.Statement.{statement}
use Rattle.bit_interleaver.proofs.size_of.Tie as tie

few : (v l delay : ℕ) → delay ≡ line_delay v → l < v → l * delay ≤ 120
few v l delay e h = rw e (delay_most v l h)

waits : (back : Bool) (v l delay : ℕ) → delay ≡ line_delay v → back ≡ true → 120 - l * delay ≡ sizes_of back v l
waits back v l delay e taken = unfold wait_of in rw taken (ap (λ (d : ℕ). 120 - l * d) e)

delays : (back : Bool) (v l delay : ℕ) → delay ≡ line_delay v → back ≡ false → l * delay ≡ sizes_of back v l
delays back v l delay e left = rw left (ap (λ (d : ℕ). l * d) e)

pub size_of_spec : {M : Type 1} → statement M
size_of_spec =
    tie.close (tie.spec (λ c. let small = few _ _ _ c.requires.0 c.requires.1 in omega arith)
    (λ c. few _ _ _ c.requires.0 c.requires.1)
    (λ c. waits _ _ _ _ c.requires.0 c.if-back.true)
    (λ c. let small = few _ _ _ c.requires.0 c.requires.1 in omega arith)
    (λ c. delays _ _ _ _ c.requires.0 c.if-back.false))
