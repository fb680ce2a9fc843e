use Rattle.std.proofs.Common.{◌≡◌, map, take}
use Rattle.manifest_rows.specs.Written.{summary_record}
use Rattle.manifest_rows.proofs.summaries.summary_records.Given as goal

abbrev pub invariant-loop-summary : goal.invariant-loop-summary
invariant-loop-summary l = l.items ≡ map summary_record (take l.summary-index l.summaries)
