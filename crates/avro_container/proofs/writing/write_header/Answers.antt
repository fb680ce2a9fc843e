use Rattle.std.proofs.Common.{◌++◌, map, ap, ◌∙◌, arith}
use Rattle.avro_container.specs.Lent.{pair_seen}
use Rattle.avro_container.specs.ContainerWriting.{written_header}
use Rattle.avro_container.proofs.HeaderWritten.{header_spells, shorter}
use Rattle.avro_container.proofs.writing.write_header.Goals as goal

pub returns-in-Ok-clause-written : goal.returns-in-Ok-clause-written
returns-in-Ok-clause-written c =
    let pairs = map pair_seen c.in_ok-pairs.pairs.items in
    let is = c.in-Ok.ensures.ok ∙ ap (λ ps. c.args.to.now.items ++ written_header (map pair_seen ps) c.args.sync.now) c.deref.ensures.value in record {
      pairs = pairs;
      in_order = c.in_ok-pairs.ensures.order;
      is = is;
      spells = header_spells c.args.meta.now pairs c.args.sync.now c.requires.keys c.requires.schema c.requires.codec c.requires.few c.in_ok-pairs.ensures.order
          c.told-sync (shorter c.args.to.now.items c.put_header.new.to.items (written_header pairs c.args.sync.now) is (omega (arith, c.put_header.new.to.small, c.put_header.new.to.ok)))
          c.requires.utf8;
    }
