use Rattle.std.proofs.Common.{map, ap, ◌∙◌, arith}
use Rattle.std.proofs.lemmas.List.{take_all}
use Rattle.serde_json.specs.Data.{string}
use Rattle.serde_json.specs.View.{items_of}
use Rattle.avro_schema.proofs.WriteLists.{strings-map}
use Rattle.avro_schema.proofs.writing.symbol_trees.Goals as goal

pub returns : goal.returns
returns c = ap items_of (c.loop-symbol.invariant ∙ ap (map string) (take_all c.loop-symbol.symbol-index c.args.symbols.now (omega arith))) ∙ strings-map c.args.symbols.now
