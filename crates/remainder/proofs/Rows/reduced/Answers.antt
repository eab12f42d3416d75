use Rattle.std.proofs.Common.{◌≡◌, ◌+◌, ◌%◌, ◌++◌, ◌≤◌, ℕ, List, length, get_or, Fits, w8, sym, ap, ◌∙◌, arith, rules}
use Rattle.std.specs.Slice.Iter.{chunks_exact_rest, chunks_exact_size}
use Rattle.std.proofs.lemmas.List.{append_assoc, length-append, take-append-drop}
use Rattle.remainder.proofs.Padding.{first_remainder}
use Rattle.remainder.proofs.Shifting.{block_more}
use Rattle.remainder.proofs.Rows.reduced.Goals as goal

pub loop-block-init : goal.loop-block-init
loop-block-init c =
    let word = c.args.word.now in
    let cut = c.split_at.ensures in
    let same = c.into_iter-block-iterator.ensures.into_iter_gives in
    let rest = ap chunks_exact_rest same ∙ c.chunks_exact-block-items.ensures.rest in
    let whole : word ≡ c.split_at.result.0.now ++ c.split_at.result.1.now =
    rw (cut.front, cut.back) (sym (take-append-drop (length word % 16) word)) in
    let few : length c.split_at.result.0.now ≤ 16 = omega (arith, cut.front_len) in
    let long : length c.split_at.result.1.now % 16 ≡ 0 = omega (arith, cut.back_len) in (
      ap chunks_exact_size same ∙ c.chunks_exact-block-items.ensures.size,
      rw rest long,
      (
        c.split_at.result.0.now,
        rw rest whole,
        first_remainder c.split_at.result.0.now c.first_block-result.result few
            (λ k. let byte : Fits w8 (get_or c.first_block-result.result k 0) = search rules in byte.fits)
            c.first_block-result.ensures,
      ),
    )

pub loop-block-preserved : goal.loop-block-preserved
loop-block-preserved c =
    let steps = c.in-Some.ensures.steps in
    let inv = c.loop-block.invariant in
    let done = inv.2.0 in
    let block = c.in-Some.block.now in
    let left = chunks_exact_rest c.next.new.self in
    let size : length block ≡ 16 = steps.1.1 ∙ inv.0 in
    let long : length (chunks_exact_rest c.loop-block.block-iterator) ≡ length block + length left =
    ap length steps.1.0 ∙ length-append block left in (
      steps.0 ∙ inv.0,
      omega (arith, inv.1),
      (
        done ++ block,
        inv.2.1 ∙ ap (λ (l : List ℕ). done ++ l) steps.1.0 ∙ sym (append_assoc done block left),
        block_more done block c.loop-block.result c.shifted.result c.plus-result.result size inv.2.2 c.shifted.ensures
            (λ k. let byte : Fits w8 (get_or c.plus-result.result k 0) = search rules in byte.fits)
            c.plus-result.ensures,
      ),
    )
