use Rattle.std.proofs.Common.{◌≡◌, ◌+◌, ◌-◌, ◌<◌, ◌≤◌, ◌&&◌, Bool, ℕ, List, length, get_or, take, drop, ap, ◌∙◌, arith, ltb, refl, sym}
use borrow.Author.Tests.{lt-ltb, le-ltb}
use Rattle.std.proofs.Math.Bool.{and_comm}
use Rattle.std.proofs.lemmas.List.{places, get_or-take, get_or-drop}
use Rattle.lists.specs.Tests.{all_below, bit_or_zero, bits_then_zeros}
use Rattle.lists.proofs.AllBelows.{all_none, all_more}
use Rattle.lent_areas.proofs.bits_then_zeros.Goals as goal

next : (n m : ℕ) (test : ℕ → Bool) {one all : Bool} → m ≡ n + 1 → all ≡ all_below n test → one ≡ test n
    → (all && one) ≡ all_below m test
next n m test {one} {all} k e f =
    and_comm all one ∙ all_more n test f e ∙ ap (λ (i : ℕ). all_below i test) (sym k)

used_entry : (used bits i : ℕ) (entries : List ℕ) → i < bits → bits ≤ used
    → ltb (get_or (take bits entries) i 0) 2 ≡ bit_or_zero used entries i
unfolding bit_or_zero
used_entry used bits i entries h few = rw (get_or-take bits entries i 0 h, lt-ltb i used (omega arith)) refl

other_entry : (used bits n i : ℕ) (entries : List ℕ) → i < n → used ≤ bits + i
    → ltb (get_or (take n (drop bits entries)) i 0) 1 ≡ bit_or_zero used entries (bits + i)
unfolding bit_or_zero
other_entry used bits n i entries h beyond =
    rw (get_or-take n (drop bits entries) i 0 h, get_or-drop bits entries i 0, le-ltb (bits + i) used beyond) refl

pub loop-entry-init : goal.loop-entry-init
loop-entry-init c = all_none _

pub loop-entry-preserved : goal.loop-entry-preserved
loop-entry-preserved c =
    next _ _ _ refl c.loop-entry.invariant
    (used_entry c.args.used c.min-bits.result c.loop-entry.entry-index c.args.entries.now (grind (arith, places))
    (omega arith))

pub loop-entry-2-preserved : goal.loop-entry-2-preserved
loop-entry-2-preserved c =
    next _ _ _ (omega arith) c.loop-entry-2.invariant
    (other_entry c.args.used c.min-bits.result (length c.args.entries.now - c.min-bits.result)
    c.loop-entry-2.entry-index c.args.entries.now (grind (arith, places)) (grind (arith, places)))

pub returns : goal.returns
unfolding bits_then_zeros
returns c =
    let all : c.min-bits.result + c.loop-entry-2.entry-index ≡ length c.args.entries.now = grind (arith, places) in
    rw all at c.loop-entry-2.invariant
