use Rattle.std.proofs.Common.{◌≡◌, ◌+◌, drop, ap, ◌∙◌, sym, arith}
use Rattle.std.proofs.lemmas.Result.{err_from_is_err_and}
use Rattle.serde_json.specs.View.{items_view}
use Rattle.avro_schema.specs.Reading.{symbols_at}
use Rattle.avro_schema.proofs.Lists.{with_texts, symbols-goes_on, symbols-fails, symbols-done}
use Rattle.avro_schema.proofs.reading.read_symbols.Goals as goal

pub returns-in_err-read_symbol : goal.returns-in_err-read_symbol
returns-in_err-read_symbol c =
    let p = err_from_is_err_and c.from_residual-in_err-read_symbol.result c.from_residual-in_err-read_symbol.ensures.1 in
    rw (p.1, p.2) (symbols-fails c.args.path.now c.args.trees.now c.loop-index.index c.index-trees-index.result c.as_str.result.now c.loop-index.symbols.items c.in_err-read_symbol.field-0.0 _ (omega arith) c.index-trees-index.is (c.as_str.ensures.value ∙ c.in_ok-place.ensures) c.loop-index.invariant c.in_err-read_symbol.ensures)

pub loop-index-preserved : goal.loop-index-preserved
loop-index-preserved c =
    ap (λ ts. with_texts ts (symbols_at c.args.path.now (c.loop-index.index + 1) (items_view (drop (c.loop-index.index + 1) c.args.trees.now)))) c.in_ok-push.ensures.items
    ∙ symbols-goes_on c.args.path.now c.args.trees.now c.loop-index.index c.index-trees-index.result c.as_str.result.now c.loop-index.symbols.items c.in_ok-read_symbol.field-0 _ (omega arith) c.index-trees-index.is (c.as_str.ensures.value ∙ c.in_ok-place.ensures) c.loop-index.invariant c.in_ok-read_symbol.ensures

pub returns : goal.returns
returns c = symbols-done c.args.path.now c.args.trees.now c.loop-index.index c.loop-index.symbols.items _ (omega arith) c.loop-index.invariant ∙ ap Rattle.std.proofs.Common.Ok (sym c.new.ensures)
