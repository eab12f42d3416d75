-- What a start of a record is given, as the definitions have it.
--     layers_of     the mode, and the three numbers of A, B and C
use Rattle.layers.specs.declared.Layer.{Layer}
use Rattle.layers.specs.Record.{Three, three_from}
use Rattle.layer_start.specs.declared.Start.{Start}

abbrev pub layers_of : Start → Three Layer
layers_of start = three_from start.mode start.a start.b start.c
