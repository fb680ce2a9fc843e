use Rattle.std.proofs.Common.{◌≡◌, drop}
use Rattle.serde_json.specs.View.{items_view}
use Rattle.avro_schema.specs.Reading.{symbols_at}
use Rattle.avro_schema.proofs.Lists.{with_texts}
use Rattle.avro_schema.proofs.reading.read_symbols.Given as goal

abbrev pub invariant-loop-index : goal.invariant-loop-index
invariant-loop-index l = with_texts l.symbols.items (symbols_at l.path l.index (items_view (drop l.index l.trees))) ≡ symbols_at l.path 0 (items_view l.trees)
