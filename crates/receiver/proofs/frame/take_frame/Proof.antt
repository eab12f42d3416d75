-- `receiver::frame::take_frame` meets its contract. The invariant: what holds before the n-th word.
use mathlib.Core.Path.{◌≡◌, refl, sym, ap, ◌∙◌}
use mathlib.Core.Bool.{true}
use Prim.Native.Nat.{ℕ, ◌*◌, ◌-◌, ◌≤◌}
use native.Mathlib.Omega.{arith}
use lib.ListN.{length}
use borrow.Author.Rules.{rules}
use Rattle.settings.specs.Sizes.{P}
use Rattle.receiving_state.specs.declared.State.{State}
use Rattle.receiving_state.specs.State.{good_receiving_state}
use Rattle.receiving_answers.specs.Receiving.{words_of}
use Rattle.receiver.proofs.Runs.{Good, good_of, passed_is, call_finished, At, at_opened, at_more, closed_is}
use Rattle.receiver.proofs.Runs.{slots_are}
use Rattle.receiver.proofs.Turns.{Sizes, sizes_of, words_are, Turn, turn_of}
use Rattle.receiver.proofs.frame.take_frame.Statement.{statement}
use Rattle.receiver.proofs.frame.take_frame.Tie as tie

abbrev invariant_loop : tie.invariant-loop-n
invariant_loop state packets carriers slots₀ settings held lines taken passed words table₀ run₀ n₀ slots table run n =
    (n ≤ words) × (length slots ≡ length slots₀) × Good state × At state carriers slots₀ n run slots

abbrev decreases_loop : tie.decreases-loop-n
decreases_loop state packets carriers slots₀ settings held lines taken passed words table₀ run₀ n₀ slots table run n =
    words - n

sizes : (state : State) → good_receiving_state state ≡ true → (packets : ℕ) → packets ≡ P state.settings
    → Sizes packets state.taken
sizes state good packets e = sizes_of _ (good_of _ good) _ e

turn : (state : State) → good_receiving_state state ≡ true → (packets : ℕ) → packets ≡ P state.settings → (n : ℕ)
    → Turn state packets n
turn state good packets e n = turn_of _ (good_of _ good) _ e n

-- ---- before the loop

loop_holds : tie.Need-loop-n-init invariant_loop decreases_loop
loop_holds c =
    let good = good_of _ c.requires.0 in (
      omega arith,
      refl,
      good,
      at_opened _ _ _ _ c.opened-run.ensures.0 c.opened-run.ensures.1 (search rules) good.register,
    )

-- ---- a word

give_from_requires : tie.Need-give_from-requires invariant_loop decreases_loop
give_from_requires c κs =
    let all = sizes _ c.requires.0 _ c.requires.1 in
    let least = all.least in
    let most = all.most in
    let few = all.taken_few in
    let long = c.loop-n.invariant.1 ∙ c.requires.3 ∙ ap (λ (n : ℕ). 189 * n) (sym c.requires.1) in
    (omega (arith, most, few), omega (arith, long, least, few))

loop_again : tie.Need-loop-n-preserved invariant_loop decreases_loop
loop_again c =
    let at = c.loop-n in
    let here = turn _ c.requires.0 _ c.requires.1 at.n in
    let good = at.invariant.2 in
    let next =
    at_more _ _ _ at.n _ _ at.invariant.3 c.word_of-finished.result _ _ _
    (call_finished _ _ at.n at.run _ _ _ refl here.is c.word_of-finished.ensures.0)
    c.word_of-finished.ensures.1 (passed_is _ good.taken) here.place c.give_from.ensures in
    (omega arith, next.long, good, next)

-- ---- behind it

returns : tie.Need-returns invariant_loop decreases_loop
returns c =
    let at = c.loop-n in
    let words = words_are _ at.invariant.2 _ c.requires.1 in
    let all : at.n ≡ words_of c.args.state = omega (arith, words) in (
      c.closed.ensures ∙ closed_is _ _ _ at.n _ _ all at.invariant.3,
      slots_are _ _ _ at.n _ _ all at.invariant.3,
    )

pub take_frame_spec : {M : Type 1} → statement M
take_frame_spec =
    tie.close (tie.spec invariant_loop decreases_loop (λ c. search rules)
    (λ c. let few = (sizes _ c.requires.0 _ c.requires.1).taken_few in omega (arith, few))
    (λ c. let few = (sizes _ c.requires.0 _ c.requires.1).taken_few in omega (arith, few))
    (λ c. let some = (sizes _ c.requires.0 _ c.requires.1).least in omega (arith, some))
    (λ c. let all = sizes _ c.requires.0 _ c.requires.1 in
    omega (arith, all.most, all.taken_few))
    (λ c κs. tt) loop_holds
    (λ c. let all = sizes _ c.requires.0 _ c.requires.1 in
    omega (arith, all.most, all.taken_few))
    (λ c. let all = sizes _ c.requires.0 _ c.requires.1 in
    omega (arith, all.least, all.taken_few))
    (λ c. let some = (sizes _ c.requires.0 _ c.requires.1).least in
    omega (arith, some))
    (λ c κs. let at = c.loop-n in
    let here = turn _ c.requires.0 _ c.requires.1 at.n in
    (at.invariant.2.start, here.inside, here.last, at.invariant.3.few))
    (λ c. let less = (turn _ c.requires.0 _ c.requires.1 c.loop-n.n).less in
    let most = (sizes _ c.requires.0 _ c.requires.1).most in
    omega (arith, less, most))
    (λ c. let some = (sizes _ c.requires.0 _ c.requires.1).least in
    omega (arith, some))
    (λ c. let some = (sizes _ c.requires.0 _ c.requires.1).least in
    omega (arith, some))
    give_from_requires
    (λ c. let all = sizes _ c.requires.0 _ c.requires.1 in
    omega (arith, all.most, all.taken_few))
    (λ c. let test =
    c.loop-n-test in
    omega arith)
    loop_again
    (λ c κs. (c.loop-n.invariant.2.start, c.requires.2))
    (λ c. c.loop-n.invariant.1) returns)
