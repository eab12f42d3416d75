-- The mended word is a codeword, or there is none so near.
use Rattle.std.proofs.Common.{ℕ, List, ◌∙◌, ◌<◌, length, get_or, sym, subst, rules}
use Rattle.reed_solomon.proofs.Ending.{ends}
use Rattle.reed_solomon.proofs.repair.Goals as goal

pub returns-then-is_zero : goal.returns-then-is_zero
returns-then-is_zero c =
    let w = c.args.word.now in
    let at = c.roots-at.result in
    let bytes : (p : ℕ) → get_or w p 0 < 256 = λ p. search rules in
    let mended = rw c.as_slice.ensures at c.mend-count.ensures.0 in
    let both = ends w c.args.rest.now c.syndromes-s.result c.locator-l.result at (length at) c.copy_from_slice.new.self
    c.mend-count.new.word c.mend-count.result.1 c.mend-count.result.0 c.requires.0 bytes (search rules) c.requires.1
    c.syndromes-s.ensures c.locator-l.ensures c.roots-at.ensures c.mend-count.array_long (search rules)
    c.copy_from_slice.ensures.after mended c.mend-count.ensures.1 in
    let after = c.copy_from_slice-then-is_zero.ensures.after in
    rw after (both.0 (sym c.is_zero.ensures ∙ c.if-is_zero.true)
    (λ p. subst (λ (x : List ℕ). get_or x p 0 < 256) after (c.type_inv.word p).fits))

pub returns : goal.returns
returns c =
    let w = c.args.word.now in
    let at = c.roots-at.result in
    let bytes : (p : ℕ) → get_or w p 0 < 256 = λ p. search rules in
    let mended = rw c.as_slice.ensures at c.mend-count.ensures.0 in
    let both = ends w c.args.rest.now c.syndromes-s.result c.locator-l.result at (length at) c.copy_from_slice.new.self
    c.mend-count.new.word c.mend-count.result.1 c.mend-count.result.0 c.requires.0 bytes (search rules) c.requires.1
    c.syndromes-s.ensures c.locator-l.ensures c.roots-at.ensures c.mend-count.array_long (search rules)
    c.copy_from_slice.ensures.after mended c.mend-count.ensures.1 in
    both.1 (sym c.is_zero.ensures ∙ c.if-is_zero.false)
