-- What the two copies put into the table.
use Rattle.reed_solomon.proofs.Searching.{table_is}
use Rattle.reed_solomon.proofs.roots.term_table.Goals as goal

pub returns : goal.returns
returns c =
    let one = c.copy_from_slice in
    let two = c.copy_from_slice-2 in
    let tables = c.args.tables.now in
    table_is tables.powers one.new.self two.new.self _ tables.are_powers one.ensures.len one.ensures.after
    two.ensures.after
