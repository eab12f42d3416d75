-- A place more, listed where v is 0; there is room for it, since fewer than nine are.
use Rattle.std.proofs.Common.{◌≡◌, ℕ, List, [], ◌∷◌, ◌+◌, ◌≤◌, ◌∙◌, sym, ap, subst, length, length-append, get_or, arith}
use Rattle.reed_solomon.specs.Decode.{ListedZeros}
use Rattle.reed_solomon.proofs.Searching.{listed_skip, listed_pushed, listed_few}
use Rattle.reed_solomon.proofs.roots.zeros.Goals.{then-v-from-eq0, else-v-from-eq0}
use Rattle.reed_solomon.proofs.roots.zeros.Goals as goal

pub push-requires : goal.push-requires
push-requires c =
    let at = c.loop-q in
    listed_few _ _ _ _ at.invariant.1 at.invariant.0 c.requires (omega arith)
    (ap (λ (n : ℕ). get_or c.args.v.now n 0) (sym c.from.ensures) ∙ c.if-v-from-eq0.true)

pub loop-q-preserved : goal.loop-q-preserved
loop-q-preserved c =
    let at = c.loop-q in
    let v = c.args.v.now in
    let here : get_or v at.q 0 ≡ get_or v c.from.result 0 = ap (λ (n : ℕ). get_or v n 0) (sym c.from.ensures) in
    elim c.if-v-from-eq0.branch [
      | then-v-from-eq0 w ↦
          let zero : get_or v at.q 0 ≡ 0 = here ∙ w.if-v-from-eq0.true in
          let room = listed_few _ _ _ _ at.invariant.1 at.invariant.0 c.requires (omega arith) zero in
          let pushed = w.at-is ∙ w.push.ensures in (
            omega (arith, ap length pushed, length-append at.at (at.q ∷ [])),
            listed_pushed v at.at _ at.q at.invariant.1 zero pushed,
          )
      | else-v-from-eq0 w ↦
          subst (λ (l : List ℕ). (length l ≤ 8) × ListedZeros v l (length l) (at.q + 1)) (sym w.at-is)
          (at.invariant.0, listed_skip v at.at _ at.q at.invariant.1 (λ z. w.if-v-from-eq0.false (sym here ∙ z)))
    ]
