-- `replacement::adding::add_difference` meets its contract. The invariant: what holds before word p.
use mathlib.Core.Path.{◌≡◌, ◌∙◌, subst}
use Prim.Native.Nat.{ℕ, ◌-◌, ◌≤◌}
use native.Mathlib.Omega.{arith}
use lib.ListN.{length}
use borrow.Author.Rules.{rules}
use Rattle.settings.specs.Sizes.{P, C}
use Rattle.settings.proofs.LegalSettings.{Legal, legal_settings}
use Rattle.coding_state.proofs.Good.{good_legal, packets_are}
use Rattle.numbers.proofs.Smaller.{least_is}
use Rattle.replacement.proofs.Frames.{At, Ended, at_opened, inside, at_more, closed_carriers}
use Rattle.replacement.proofs.Walks.{Walked, walked_opened, walked_word, walked_more}
use Rattle.replacement.proofs.States.{packets_few, carriers_few, ended_of, ended_behind, closed_state}
use Rattle.replacement.proofs.adding.add_difference.Statement.{statement}
use Rattle.replacement.proofs.adding.add_difference.Tie as tie

abbrev invariant_loop : tie.invariant-loop-p
invariant_loop state carriers₀ number old new rate v table last run₀ memory₀ stream₀ silent place₀ word₀ p₀ carriers run
    memory stream place word p =
    (number ≤ p) × (p ≤ last) × (last ≤ P state.settings) × (length carriers₀ ≡ C state.settings)
    × Ended state.settings number last × Legal state.settings
    × Walked state.settings number old new p memory stream word
    × At state.settings number old new carriers₀ p place run carriers

abbrev decreases_loop : tie.decreases-loop-p
decreases_loop state carriers₀ number old new rate v table last run₀ memory₀ stream₀ silent place₀ word₀ p₀ carriers
    run memory
    stream place word p =
    last - p

quiet_requires : tie.Need-quiet-run-requires invariant_loop decreases_loop
quiet_requires c κs =
    ((legal_settings _ (good_legal _ c.requires.0)).rate, omega (arith, packets_few _ c.requires.0, c.requires.4))

loop_holds : tie.Need-loop-p-init invariant_loop decreases_loop
loop_holds c =
    let legal = legal_settings _ (good_legal _ c.requires.0) in
    let all = c.packets.ensures ∙ packets_are _ c.requires.0 in
    let ended = ended_of c.args.state c.args.number _ _ all (least_is c.min-last.ensures).2 in (
      omega arith,
      ended_behind c.args.state _ _ c.requires.4 ended,
      omega (arith, all, (least_is c.min-last.ensures).0),
      c.requires.1,
      ended,
      legal,
      walked_opened _ legal _ _ _ _ c.difference_word-word.ensures,
      at_opened _ legal _ _ _ _ _ c.quiet-run.ensures _ c.first_carrier-place.ensures,
    )

place_fits : tie.Need-overflow_add-place invariant_loop decreases_loop
place_fits c =
    let at = c.loop-p in
    let few = carriers_few _ c.requires.0 in
    let message = walked_word _ at.invariant.5 _ _ _ at.p _ _ _ at.invariant.6 _ c.walk.ensures.1 in
    let room =
    inside _ at.invariant.5 _ _ _ _ at.p at.place (omega arith) at.invariant.3 _ _ at.invariant.7 _ message _
    c.block_table-table.ensures _ c.step-coded.ensures in
    omega (arith, few, room)

add_turn : tie.Need-overflow_step-p invariant_loop decreases_loop
add_turn c =
    omega arith

loop_again : tie.Need-loop-p-preserved invariant_loop decreases_loop
loop_again c =
    let at = c.loop-p in
    let message = walked_word _ at.invariant.5 _ _ _ at.p _ _ _ at.invariant.6 _ c.walk.ensures.1 in (
      omega arith,
      omega arith,
      at.invariant.2,
      at.invariant.3,
      at.invariant.4,
      at.invariant.5,
      walked_more _ at.invariant.5 _ _ _ at.p _ _ _ at.invariant.6 _ c.walk.ensures.1 at.invariant.0 _
          c.walk.ensures.0,
      at_more _ at.invariant.5 _ _ _ _ at.p at.place (omega arith) at.invariant.3 _ _ at.invariant.7 _ message _
          c.block_table-table.ensures _ c.step-coded.ensures _ c.add_placed.ensures,
    )

returns : tie.Need-returns invariant_loop decreases_loop
returns c =
    let at = c.loop-p in
    let last = c.min-last.result in
    let all : at.p ≡ last = omega arith in
    let walked =
    subst (λ (n : ℕ). Walked c.args.state.settings c.args.number c.args.old.now
    c.args.new.now n at.memory at.stream at.word) all at.invariant.6 in
    let behind =
    subst (λ (n : ℕ). At c.args.state.settings c.args.number c.args.old.now
    c.args.new.now c.args.carriers.now n at.place at.run at.carriers) all at.invariant.7 in (
      c.added.ensures
          ∙ closed_state c.args.state at.invariant.5 _ _ _ _ last _ at.invariant.2 at.invariant.3 _ _ behind _ _ _
          walked at.invariant.4,
      closed_carriers _ at.invariant.5 _ _ _ _ last _ at.invariant.2 at.invariant.3 _ _ behind at.invariant.4,
    )

pub add_difference_spec : {M : Type 1} → statement M
add_difference_spec =
    tie.close (tie.spec invariant_loop decreases_loop (λ c κs. search rules) (λ c κs. search rules)
    (λ c. omega (arith, packets_few _ c.requires.0, c.requires.4))
    (λ c κs. search rules) quiet_requires
    (λ c κs. let legal = legal_settings _ (good_legal _ c.requires.0) in
    (legal.rate, legal.bits, omega (arith, packets_few _ c.requires.0, c.requires.4)))
    (λ c κs. (c.requires.2, c.requires.3))
    loop_holds (λ c κs. search rules) (λ c κs. search rules) (λ c κs. search rules) place_fits add_turn
    (λ c. omega (arith, add_turn c)) loop_again (λ c. omega arith) (λ c κs. search rules)
    (λ c. c.loop-p.invariant.7.carriers_at.len) returns)
