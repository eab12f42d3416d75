-- `coder::frame::code_frame` meets its contract. The invariant: what holds before word p.
use mathlib.Core.Path.{◌≡◌, refl, sym, ◌∙◌, subst}
use Prim.Native.Nat.{ℕ, ◌+◌, ◌*◌, ◌-◌, ◌%◌, ◌≤◌}
use native.Mathlib.Omega.{arith}
use lib.ListN.{length}
use borrow.Author.Rules.{rules}
use Rattle.settings.specs.Sizes.{P}
use Rattle.coder.specs.Steps.{Rows}
use Rattle.coding_state.proofs.Good.{Given, given_of_is}
use Rattle.coder.proofs.Frames.{Walked, At, walked_opened, at_opened, walked_word, walked_more, at_more}
use Rattle.coder.proofs.Frames.{written_most, closed_state, closed_carriers}
use Rattle.coder.proofs.Words.{rows_more, sent_part}
use Rattle.coder.proofs.frame.code_frame.Statement.{statement}
use Rattle.coder.proofs.frame.code_frame.Tie as tie

abbrev invariant_loop : tie.invariant-loop-p
invariant_loop state packets carriers₀ rate v table progress₀ rows₀ memory₀ stream₀ register₀ count p₀ carriers
    progress rows
    memory stream register p =
    (p ≤ count) × (count ≡ P state.settings) × (length carriers ≡ length carriers₀) × Given state
    × ((p % 32 ≡ 0 → ⊥) → Rows packets p rows) × Walked state packets p register memory stream
    × At state packets p progress carriers × (length rows ≡ 512)

abbrev decreases_loop : tie.decreases-loop-p
decreases_loop state packets carriers₀ rate v table progress₀ rows₀ memory₀ stream₀ register₀ count p₀ carriers
    progress rows
    memory stream register p = count - p

loop_holds : tie.Need-loop-p-init invariant_loop decreases_loop
loop_holds c =
    let given = given_of_is c.args.state c.requires.0 in (
      omega arith,
      (let long = c.requires.1 in omega (arith, long)),
      refl,
      given,
      λ other. absurd (other refl),
      walked_opened _ _ (search rules) _ c.register_at-register.ensures _ c.opened_stream-stream.ensures,
      at_opened _ _ given _ c.opened-progress.ensures _ c.requires.2,
      search rules,
    )

code_word_requires : tie.Need-code_word-progress-requires invariant_loop decreases_loop
code_word_requires c κs =
    let at = c.loop-p in
    let given = at.invariant.3 in (
      given.legal.rate,
      given.legal.bits,
      written_most _ _ given at.p (omega (arith, at.invariant.1)) _ _ at.invariant.6,
    )

-- one turn more is a number yet
add_turn : tie.Need-overflow_step-p invariant_loop decreases_loop
add_turn c =
    omega (arith, c.loop-p-test.true, c.well_formed.1)

loop_again : tie.Need-loop-p-preserved invariant_loop decreases_loop
loop_again c =
    let at = c.loop-p in
    let inside : 188 * at.p + 188 ≤ length c.args.packets.now = omega (arith, c.requires.1, at.invariant.1) in
    let word =
    sent_part _ _ at.p c.renew_rows.ensures.0 c.renew_rows.ensures.1 inside _
    c.sent_word-word.ensures in
    let message =
    walked_word _ _ at.p _ _ _ at.invariant.5 _ word _ c.sequence-sequence.ensures _ c.walk.ensures.1 in
    let next =
    at_more _ _ at.invariant.3 at.p (omega (arith, at.invariant.1)) _ _ at.invariant.6 _ message _
    c.block_table-table.ensures _ _ c.code_word-progress.ensures in (
      omega arith,
      at.invariant.1,
      next.carriers_at.long ∙ sym c.requires.2,
      at.invariant.3,
      rows_more _ _ at.p c.renew_rows.ensures.0,
      walked_more _ _ at.p _ _ _ at.invariant.5 _ word _ c.sequence-sequence.ensures _ c.walk.ensures.1 _
          c.register_after-register.ensures _ c.walk.ensures.0,
      next,
      c.renew_rows.ensures.1,
    )

returns : tie.Need-returns invariant_loop decreases_loop
returns c =
    let at = c.loop-p in
    let given = at.invariant.3 in
    let state = c.args.state in
    let packets = c.args.packets.now in
    let all : at.p ≡ P state.settings = omega (arith, at.invariant.1) in
    let walked = subst (λ (n : ℕ). Walked state packets n at.register at.memory at.stream) all at.invariant.5 in
    let last = subst (λ (n : ℕ). At state packets n at.progress at.carriers) all at.invariant.6 in
    (c.closed.ensures ∙ closed_state _ _ given _ _ last _ _ _ walked, closed_carriers _ _ given _ _ last)

pub code_frame_spec : {M : Type 1} → statement M
code_frame_spec =
    tie.close (tie.spec invariant_loop decreases_loop (λ c κs. search rules) (λ c κs. search rules)
    (λ c κs. search rules)
    (λ c κs. search rules) loop_holds (λ c. search rules)
    (λ c κs. let at = c.loop-p in
    let long = c.requires.1 in
    (omega (arith, long, at.invariant.1), at.invariant.7, at.invariant.4))
    (λ c. omega arith) (λ c. omega arith) (λ c. omega arith) (λ c. omega arith) (λ c. omega arith)
    (λ c. omega arith) (λ c. omega arith) (λ c. omega arith) (λ c. omega arith) (λ c. omega arith)
    (λ c κs. search rules) (λ c κs. search rules) (λ c κs. search rules) (λ c κs. search rules) code_word_requires
    add_turn (λ c. omega (arith, add_turn c)) loop_again (λ c. omega arith) (λ c κs. search rules)
    (λ c. c.loop-p.invariant.2) returns)
