use Rattle.std.proofs.Common.{sym, ap, ◌∙◌, drop, ◌++◌, ◌-◌, length, ◌≡◌, Err, arith}
use Rattle.std.proofs.lemmas.Result.{err_from_is_err_and}
use Rattle.avro_container.specs.declared.fault.ContainerCause.TheVariants.{Short}
use Rattle.avro_container.proofs.BlockLaws.{block_found, no_block, block_past}
use Rattle.avro_container.proofs.blocks.next_block.Goals as goal

pub returns-then-at-bytes-2-clause-none : goal.returns-then-at-bytes-2-clause-none
returns-then-at-bytes-2-clause-none c = (no_block _ c.args.bytes.now c.args.at _ (block_past _ _ _ c.if-at-bytes-2.true), c.if-at-bytes.false)

pub returns-then-at-bytes-2-clause-exact : goal.returns-then-at-bytes-2-clause-exact
returns-then-at-bytes-2-clause-exact c = (
  block_past _ _ _ c.if-at-bytes-2.true ∙ ap (λ n. Err (Short, n)) (let none : 0 ≡ length c.args.bytes.now - length c.args.bytes.now = omega arith in none),
  omega arith,
)

pub returns-in_err-found-clause-none : goal.returns-in_err-found-clause-none
returns-in_err-found-clause-none c =
    let p = err_from_is_err_and c.from_residual.result c.from_residual.ensures.1 in
    rw p.1 (no_block _ c.args.bytes.now c.args.at _ c.in_err-found.ensures.value.0, c.if-at-bytes.false)

pub returns-clause-found : goal.returns-clause-found
returns-clause-found c =
    let x = block_found c.args.header.now.sync (drop c.args.at c.args.bytes.now) _ _ _ c.in_ok-found.ensures.value.0 in
    (x.0, x.1, x.2 ∙ ap (λ n. x.0 ++ drop n c.args.bytes.now) (sym c.in_ok-found.ensures.next), omega (arith, c.in_ok-found.ensures.next, c.in_ok-found.ensures.value.1))
