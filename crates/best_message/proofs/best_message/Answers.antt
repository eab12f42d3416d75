use Rattle.std.proofs.Common.{ℕ, sym, ap, ◌∙◌, arith, List, map}
use Rattle.fewest.specs.Best.{bit, best}
use Rattle.best_message.proofs.Accepting.{accepted_true, refused_after, accepted_after}
use Rattle.best_message.proofs.Filling.{table_of_is}
use Rattle.best_message.proofs.best_message.Goals as goal

pub returns-then-not-is_accepted : goal.returns-then-not-is_accepted
returns-then-not-is_accepted c =
    let no = sym c.is_accepted.ensures ∙ c.if-not-is_accepted.true in
    let left = refused_after c.args.pairs.now c.args.register c.args.table.now c.args.message.now no in
    record { told = sym no; table_left = left.0; message_left = left.1 }

pub fill-requires : goal.fill-requires
fill-requires c =
    let f = accepted_true _ _ _ _ (sym c.is_accepted.ensures ∙ c.if-not-is_accepted.false) in
    record { right = f.right; room = f.room_for_is }

pub walk-requires : goal.walk-requires
walk-requires c =
    let f = accepted_true _ _ _ _ (sym c.is_accepted.ensures ∙ c.if-not-is_accepted.false) in
    let filled = c.fill.ensures in
    record {
      few = f.right.few;
      room = let long = filled.long in let room = f.room_for_is in omega arith;
      row = filled.row;
      register = let e = c.from.ensures in let small = f.register_lt in omega arith;
      fits = f.fits;
    }

pub returns : goal.returns
returns c =
    let yes = sym c.is_accepted.ensures ∙ c.if-not-is_accepted.false in
    let pairs : List ℕ = c.args.pairs.now in
    let left = accepted_after pairs c.args.register c.args.table.now c.args.message.now yes in
    let filled = c.fill.ensures in
    record {
      told = sym yes;
      table_left = table_of_is pairs _ _ filled ∙ left.0;
      message_left = c.walk.ensures ∙ ap (λ (n : ℕ). map bit (best pairs n)) c.from.ensures ∙ left.1;
    }
