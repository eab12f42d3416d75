use Rattle.std.proofs.Common.{◌≡◌, rules}
use Rattle.layers.specs.States.{kind_of}
use Rattle.layers.proofs.Places.{put_record, left_alone}
use Rattle.layer_records.specs.Record.{three_of}
use Rattle.layer_records.proofs.Record.put.Goals as goal

pub returns-then-area-record_length : goal.returns-then-area-record_length
returns-then-area-record_length g c =
    left_alone (kind_of g.S.LayerState.meaning) _ c.args.area.now (λ long. search rules)

pub returns : goal.returns
returns g c =
    let size : c.from-size.result ≡ g.S.LayerState.meaning.size = search (rules, g.met.S.LayerState.size_is) in
    put_record (kind_of g.S.LayerState.meaning) (three_of c.args.self.now) c.args.area.now (search rules)
    c.put.ensures.long c.put-2.ensures.long c.put-3.ensures.long c.put_in.new.area c.put.new.area c.put-2.new.area _
    c.put_in.ensures c.put.ensures.placed (rw size at c.put-2.ensures.placed) (rw size at c.put-3.ensures.placed)
