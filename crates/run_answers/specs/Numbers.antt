-- The exit status of each status.
use Rattle.std.specs.Prelude.{ℕ}
use Rattle.run_answers.specs.declared.status.Status.{Status}
use Rattle.run_answers.specs.declared.status.Status.TheVariants.{Done, BadStatement, BadArgument, UnknownSnapshot, UnknownRef, NotAncestor, StillReferenced, GcDisabled, TooRecent, NoTable, LocationDiffers, Missing, Damaged, Unsupported, OutsidePrefix, UnreadableDelete, SamePrefix, UnknownVersion, Conflict, Contended, StoreFault, CommitUnknown, OutFault, OutOfMemory, NameTaken}

-- 0 done, 1 refused for what was asked, 2 for what the table is, 3 conflict, 4 contended, 5 store fault, 6 unknown, 7 output, 8 memory, 9 name taken
abbrev pub number_of : Status → ℕ
number_of Done = 0
number_of (BadStatement word at) = 1
number_of (BadArgument word name) = 1
number_of (UnknownSnapshot id) = 1
number_of (UnknownRef name) = 1
number_of (NotAncestor id of) = 1
number_of (StillReferenced id name) = 1
number_of GcDisabled = 1
number_of (TooRecent older_than limit) = 1
number_of (NoTable place) = 2
number_of (LocationDiffers table location) = 2
number_of (Missing place) = 2
number_of (Damaged place at) = 2
number_of (Unsupported place what) = 2
number_of (OutsidePrefix path) = 2
number_of (UnreadableDelete place) = 2
number_of SamePrefix = 2
number_of (UnknownVersion name) = 2
number_of (Conflict place other) = 3
number_of (Contended version) = 4
number_of (StoreFault place) = 5
number_of (CommitUnknown version) = 6
number_of OutFault = 7
number_of OutOfMemory = 8
number_of (NameTaken place) = 9
