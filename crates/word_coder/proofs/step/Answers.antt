use Rattle.std.proofs.Common.{arith}
use Rattle.word_coder.proofs.Stepping.{sizes_of, count_fits, step_idle, step_done}
use Rattle.word_coder.proofs.step.Goals as goal

pub returns-then-size-eq0 : goal.returns-then-size-eq0
returns-then-size-eq0 c =
    step_idle _ _ _ _ _ _ _ c.block_length-size.ensures c.if-size-eq0.true c.with_history.ensures

pub invariant_of-blocks : goal.invariant_of-blocks
invariant_of-blocks c =
    let sizes = sizes_of _ _ c.args.run.left c.block_length-size.ensures c.if-size-eq0.false in
    record { least = sizes.least; most = sizes.most; fewer = sizes.less }

pub overflow_mul-count : goal.overflow_mul-count
overflow_mul-count c =
    let sizes = sizes_of _ _ c.args.run.left c.block_length-size.ensures c.if-size-eq0.false in
    rw c.count.ensures.told (let fits = count_fits sizes _ _ c.per_block.ensures in omega arith)

pub last_symbols-requires : goal.last_symbols-requires
last_symbols-requires c =
    let sizes = sizes_of _ _ c.args.run.left c.block_length-size.ensures c.if-size-eq0.false in
    rw c.count.ensures.told (let fits = count_fits sizes _ _ c.per_block.ensures in omega arith)

pub returns : goal.returns
returns c =
    step_done _ _ _ _ _ _ _ _ _ _ c.block_length-size.ensures c.if-size-eq0.false c.per_block.ensures
    c.count.ensures.told c.symbols-symbols.ensures c.last_symbols.ensures
