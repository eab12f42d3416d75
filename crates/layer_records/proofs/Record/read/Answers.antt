use Rattle.std.proofs.Common.{◌≡◌, ◌∙◌, refl, rules}
use Rattle.layers.specs.States.{kind_of}
use Rattle.layers.proofs.Places.{read_record, other_in}
use Rattle.layer_records.proofs.Record.read.Goals as goal

pub returns-then-area-record_length : goal.returns-then-area-record_length
returns-then-area-record_length g c =
    c.nothing.ensures ∙ other_in (kind_of g.S.LayerState.meaning) c.args.area.now (λ long. search rules)

pub returns : goal.returns
returns g c =
    let size : c.from-size.result ≡ g.S.LayerState.meaning.size = search (rules, g.met.S.LayerState.size_is) in
    read_record (kind_of g.S.LayerState.meaning) c.args.area.now (search rules) _ _ _ _ refl c.read.ensures
    (rw size at c.read-2.ensures) (rw size at c.read-3.ensures)
