use Rattle.std.proofs.Common.{◌≡◌, ◌∙◌, ◌*◌, ◌%◌, ◌/◌, ℕ, length, true, false, arith, ap, sym}
use Rattle.lists.specs.Tab.{tab}
use Rattle.lists.proofs.Fill.{fill_all}
use Rattle.hexadecimal.specs.Bytes.{writes, byte_at, bytes_in}
use Rattle.hexadecimal.proofs.Bytes.{reads, long_not, digits_not, area_read, area_stays}
use Rattle.hexadecimal.proofs.read.Goals as goal
use Rattle.hexadecimal.proofs.read.Goals.{then-line-ne0-via-then-line-ne0, then-line-ne0-via-else-line-ne0+then-line-out, then-line-ne0-via-else-line-ne0+else-line-out+then-not-digits_alone}

refused : (c : goal.Joined-then-line-ne0) → writes (length c.args.out.now) c.args.line.now ≡ false
refused c =
    elim c.then-line-ne0.branch [
      | then-line-ne0-via-then-line-ne0 w ↦
          long_not c.args.line.now c.args.out.now (λ e. w.if-line-ne0.true (omega (arith, e)))
      | then-line-ne0-via-else-line-ne0+then-line-out w ↦
          long_not c.args.line.now c.args.out.now (λ e. w.if-line-out.true (omega (arith, e)))
      | then-line-ne0-via-else-line-ne0+else-line-out+then-not-digits_alone w ↦
          digits_not c.args.line.now c.args.out.now (sym w.digits_alone.ensures ∙ w.if-not-digits_alone.true)
    ]

pub returns-then-line-ne0-clause-value : goal.returns-then-line-ne0-clause-value
returns-then-line-ne0-clause-value c = sym (refused c)

pub returns-then-line-ne0-clause-out_after : goal.returns-then-line-ne0-clause-out_after
returns-then-line-ne0-clause-out_after c = area_stays c.args.line.now c.args.out.now (refused c)

-- the line has two digits for each byte of the area
long : (n m : ℕ) → n % 2 ≡ 0 → n / 2 ≡ m → n ≡ 2 * m
long n m even half = omega arith

read_all : (c : goal.After-loop-k) → writes (length c.args.out.now) c.args.line.now ≡ true
read_all c =
    reads c.args.line.now c.args.out.now (long _ _ c.if-line-ne0.false c.if-line-out.false)
    (sym c.digits_alone.ensures ∙ c.if-not-digits_alone.false)

pub returns-clause-value : goal.returns-clause-value
returns-clause-value c = sym (read_all c)

pub returns-clause-out_after : goal.returns-clause-out_after
unfolding bytes_in
returns-clause-out_after c =
    let line = c.args.line.now in
    fill_all _ _ c.loop-k.invariant (omega arith)
    ∙ ap (λ (n : ℕ). tab n (byte_at line)) (sym c.if-line-out.false) ∙ area_read line c.args.out.now (read_all c)
