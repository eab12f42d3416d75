use Rattle.std.proofs.Common.{refl, arith}
use Rattle.lists.proofs.FillOver.{over_at}
use Rattle.puncturing.proofs.Tables.{legal_of}
use Rattle.received_bits.proofs.PairFilling.{pairs_none, pairs_more, pairs_all, turn, pair_read, some_size}
use Rattle.received_bits.proofs.pairs_by.Goals as goal

pub nonzero_div-blocks : goal.nonzero_div-blocks
nonzero_div-blocks c = some_size (legal_of _ c.args.rate.legal) _ c.block_length-size.ensures

pub loop-s-init : goal.loop-s-init
loop-s-init c = pairs_none _ _ _ _ (omega arith)

pub loop-i-init : goal.loop-i-init
loop-i-init c = over_at 1680 _ _ c.loop-s.invariant _ (omega arith)

pub bounds-places-i : goal.bounds-places-i
bounds-places-i c =
    let t = turn c.requires.0 (legal_of _ c.args.rate.legal) _ c.loop-s.s c.loop-i.i _ c.block_length-size.ensures
    c.places_of-places.ensures (omega arith) (omega arith) in
    omega arith

pub overflow_add-places : goal.overflow_add-places
overflow_add-places c =
    let t = turn c.requires.0 (legal_of _ c.args.rate.legal) _ c.loop-s.s c.loop-i.i _ c.block_length-size.ensures
    c.places_of-places.ensures (omega arith) (omega arith) in
    omega arith

pub bounds-places-i-in-loop-i : goal.bounds-places-i-in-loop-i
bounds-places-i-in-loop-i c =
    let t = turn c.requires.0 (legal_of _ c.args.rate.legal) _ c.loop-s.s c.loop-i.i _ c.block_length-size.ensures
    c.places_of-places.ensures (omega arith) (omega arith) in
    omega arith

pub overflow_add-places-in-loop-i : goal.overflow_add-places-in-loop-i
overflow_add-places-in-loop-i c =
    let t = turn c.requires.0 (legal_of _ c.args.rate.legal) _ c.loop-s.s c.loop-i.i _ c.block_length-size.ensures
    c.places_of-places.ensures (omega arith) (omega arith) in
    omega arith

pub pair-requires : goal.pair-requires
pair-requires c =
    let t = turn c.requires.0 (legal_of _ c.args.rate.legal) _ c.loop-s.s c.loop-i.i _ c.block_length-size.ensures
    c.places_of-places.ensures (omega arith) (omega arith) in
    (t.x, t.y, c.requires.1)

pub loop-i-preserved : goal.loop-i-preserved
loop-i-preserved c =
    let t = turn c.requires.0 (legal_of _ c.args.rate.legal) _ c.loop-s.s c.loop-i.i _ c.block_length-size.ensures
    c.places_of-places.ensures (omega arith) (omega arith) in
    pairs_more _ _ _ _ _ _ _ c.block_length-size.ensures t.at refl
    (pair_read _ _ _ _ _ _ _ c.places_of-places.ensures t.few c.pair.ensures) c.loop-i.invariant

pub loop-s-preserved : goal.loop-s-preserved
loop-s-preserved c = over_at 1680 _ _ c.loop-i.invariant _ (omega arith)

pub returns : goal.returns
returns c =
    pairs_all _ _ (legal_of _ c.args.rate.legal) _ _ c.block_length-size.ensures (omega arith) c.loop-s.invariant
