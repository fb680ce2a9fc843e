use Rattle.std.proofs.Common.{◌≡◌, take}
use Rattle.manifest_files.specs.Files.{CountsFit, file_cells, held_file_cells}
use Rattle.manifest_files.proofs.reading.file_of.Given as goal

abbrev pub invariant-loop-place : goal.invariant-loop-place
invariant-loop-place l = (take l.place (file_cells l.file) ≡ take l.place (held_file_cells l.slots l.parts l.items)) × CountsFit l.file
