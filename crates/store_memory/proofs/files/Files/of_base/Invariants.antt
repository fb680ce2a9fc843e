use Rattle.std.proofs.Common.{◌≡◌, [], drop}
use Rattle.ice_store.specs.History.{base_from}
use Rattle.store_memory.proofs.files.Files.of_base.Given as goal

abbrev pub invariant-loop-file : goal.invariant-loop-file
invariant-loop-file l = base_from l.files (drop l.file-index l.base) ≡ base_from [] l.base
