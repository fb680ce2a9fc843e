-- A lent pair of the metadata, seen as a pair.
use Rattle.avro_container.specs.declared.writing.LentPair.{LentPair}
use Rattle.avro_container.specs.Container.{Pair}

-- A pair that is lent.
abbrev pub pair_seen : LentPair → Pair
pair_seen p = (p.key.now, p.value.now)
