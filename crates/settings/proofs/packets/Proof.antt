-- `settings::packets` meets its contract.
use mathlib.Core.Path.{sym}
use Prim.Native.Nat.{ℕ, ◌*◌, ◌≤◌}
use native.Mathlib.Nat.{mul-le-mul}
use native.Mathlib.Omega.{arith}
use borrow.Author.Rules.{rules}
use Rattle.settings.specs.Sizes.{P}
use Rattle.settings.proofs.Sizes.{mode_few, packets_accepted, packets_refused}
use Rattle.settings.proofs.packets.Statement.{statement}
use Rattle.settings.proofs.packets.Tie as tie

halves_most : (rate half : ℕ) → rate ≤ 21 → half ≤ 127 → rate * half ≤ 2667
halves_most rate half r h = mul-le-mul r h

doubled_most : (rate half double : ℕ) → rate ≤ 21 → half ≤ 127 → double ≤ 4 → rate * half * double ≤ 10668
doubled_most rate half double r h d = mul-le-mul (halves_most rate half r h) d

packets_most : (rate half double segments : ℕ) → rate ≤ 21 → half ≤ 127 → double ≤ 4 → segments ≤ 255
    → rate * half * double * segments ≤ 2720340
packets_most rate half double segments r h d s = mul-le-mul (doubled_most rate half double r h d) s

packets_fit : tie.Need-overflow_mul-result-then-accepted
packets_fit c =
    let rate = c.packets_by_rate in
    let double = c.doublings in
    let m =
    packets_most rate.result c.from.result double.result c.from-then-accepted.result
    rate.ensures.1 (omega arith)
    double.ensures.1 (omega arith) in
    omega arith

pub packets_spec : {M : Type 1} → statement M
packets_spec =
    tie.close (tie.spec (λ c κs. search rules) (λ c κs. search rules) (λ c κs. search rules)
    (λ c. let rate = c.packets_by_rate in
    let m = halves_most rate.result c.from.result rate.ensures.1 (omega arith) in
    omega arith)
    (λ c κs. mode_few _ _ c.accepted.ensures
    c.if-accepted.true)
    (λ c. let rate = c.packets_by_rate in
    let m =
    doubled_most rate.result c.from.result c.doublings.result rate.ensures.1 (omega arith)
    c.doublings.ensures.1 in
    omega arith)
    (λ c κs. search rules) packets_fit
    (λ c. unfold P in
    let rate = c.packets_by_rate in
    rw (rate.ensures.0, c.from.ensures, c.doublings.ensures.0, c.from-then-accepted.ensures)
    (sym (packets_accepted _ _ c.accepted.ensures c.if-accepted.true)))
    (λ c. sym (packets_refused _ _ c.accepted.ensures c.if-accepted.false)))
