use Rattle.std.proofs.Common.{◌≡◌, take}
use Rattle.manifest_files.specs.Written.{file_fields}
use Rattle.manifest_files.proofs.writing.file_fields.Given as goal

abbrev pub invariant-loop-place : goal.invariant-loop-place
invariant-loop-place l = l.items ≡ take l.place (file_fields l.file)
