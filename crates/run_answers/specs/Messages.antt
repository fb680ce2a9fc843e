-- What the message of a status says.
use Rattle.std.specs.Prelude.{ℕ, ℤ, ◌+◌, Bool, true, false, if◌then◌else◌, List, [], ◌∷◌, ◌++◌, codes, Option, Some, None}
use Rattle.std.specs.List.{concat}
use Rattle.std.specs.Fmt.{decimal, signed_decimal}
use Rattle.ice_store.specs.Places.{Parts, text_of}
use Rattle.ice_store.specs.declared.faults.Where.TheVariants.{Byte, Path}
use Rattle.ice_store.specs.declared.faults.What.{What}
use Rattle.ice_store.specs.declared.faults.What.TheVariants.{Codec, FormatVersion, Transform, SchemaSize, BlockBytes, ItemCount, FileBytes, GroupBytes, NoManifestList, VersionNumber, Sequence}
use Rattle.commit_protocol.specs.declared.errors.Other.TheVariants.{Gone, Schema, Manifest, Delete}
use Rattle.run_answers.specs.Escapes.{escaped}
use Rattle.run_answers.specs.declared.status.Status.{Status}
use Rattle.run_answers.specs.declared.status.Status.TheVariants.{Done, BadStatement, BadArgument, UnknownSnapshot, UnknownRef, NotAncestor, StillReferenced, GcDisabled, TooRecent, NoTable, LocationDiffers, Missing, Damaged, Unsupported, OutsidePrefix, UnreadableDelete, SamePrefix, UnknownVersion, Conflict, Contended, StoreFault, CommitUnknown, OutFault, OutOfMemory, NameTaken}

-- a place is shown by its text
abbrev pub shown : Parts → List ℕ
shown place = escaped (text_of place)

-- a snapshot, or none
abbrev pub or_none : Option ℤ → List ℕ
or_none None = codes "none"
or_none (Some id) = signed_decimal id

-- what isn't supported, by its variant's name
abbrev pub name_of : What → List ℕ
name_of Codec = codes "Codec"
name_of FormatVersion = codes "FormatVersion"
name_of Transform = codes "Transform"
name_of SchemaSize = codes "SchemaSize"
name_of BlockBytes = codes "BlockBytes"
name_of ItemCount = codes "ItemCount"
name_of FileBytes = codes "FileBytes"
name_of GroupBytes = codes "GroupBytes"
name_of NoManifestList = codes "NoManifestList"
name_of VersionNumber = codes "VersionNumber"
name_of Sequence = codes "Sequence"

-- the pieces of each message, in order; words are counted from 1
abbrev pub pieces_of : Status → List (List ℕ)
pieces_of Done = []
pieces_of (BadStatement word at) = codes "statement " ∷ decimal (word + 1) ∷ codes ": syntax at byte " ∷ decimal at ∷ []
pieces_of (BadArgument word name) = codes "statement " ∷ decimal (word + 1) ∷ codes ": bad argument " ∷ escaped name ∷ []
pieces_of (UnknownSnapshot id) = codes "unknown snapshot " ∷ signed_decimal id ∷ []
pieces_of (UnknownRef name) = codes "unknown ref " ∷ escaped name ∷ []
pieces_of (NotAncestor id of) = codes "snapshot " ∷ signed_decimal id ∷ codes " is not an ancestor of " ∷ or_none of ∷ []
pieces_of (StillReferenced id name) = codes "snapshot " ∷ signed_decimal id ∷ codes " is still referenced by " ∷ escaped name ∷ []
pieces_of GcDisabled = codes "gc.enabled is false" ∷ []
pieces_of (TooRecent older_than limit) = codes "older_than " ∷ decimal older_than ∷ codes " is after " ∷ decimal limit ∷ []
pieces_of (NoTable place) = codes "no table at " ∷ shown place ∷ []
pieces_of (LocationDiffers table location) = codes "table at " ∷ shown table ∷ codes " says location " ∷ escaped location ∷ []
pieces_of (Missing place) = codes "missing " ∷ shown place ∷ []
pieces_of (Damaged place (Byte at)) = codes "damaged " ∷ shown place ∷ codes " at byte " ∷ decimal at ∷ []
pieces_of (Damaged place (Path path)) = codes "damaged " ∷ shown place ∷ codes " at field " ∷ escaped path ∷ []
pieces_of (Unsupported place what) = codes "unsupported " ∷ name_of what ∷ codes " in " ∷ shown place ∷ []
pieces_of (OutsidePrefix path) = codes "outside the source prefix: " ∷ escaped path ∷ []
pieces_of (UnreadableDelete place) = codes "unreadable delete file " ∷ shown place ∷ []
pieces_of SamePrefix = codes "source and target prefix are the same" ∷ []
pieces_of (UnknownVersion name) = codes "unknown version " ∷ escaped name ∷ []
pieces_of (Conflict place Gone) = codes "conflict on " ∷ shown place ∷ codes ": gone" ∷ []
pieces_of (Conflict place Schema) = codes "conflict on " ∷ shown place ∷ codes ": schema" ∷ []
pieces_of (Conflict place Manifest) = codes "conflict on " ∷ shown place ∷ codes ": manifest gone" ∷ []
pieces_of (Conflict place (Delete by)) = codes "conflict on " ∷ shown place ∷ codes ": delete " ∷ shown by ∷ []
pieces_of (Contended version) = codes "lost the race up to version " ∷ decimal version ∷ []
pieces_of (StoreFault place) = codes "store failed at " ∷ shown place ∷ []
pieces_of (CommitUnknown version) = codes "commit of version " ∷ decimal version ∷ codes " is unknown" ∷ []
pieces_of OutFault = codes "output failed" ∷ []
pieces_of OutOfMemory = codes "out of memory" ∷ []
pieces_of (NameTaken place) = codes "name taken " ∷ shown place ∷ []

-- the message of a status; none where the statements ran to their end
abbrev pub message_of : Status → List ℕ
message_of status = concat (pieces_of status)

-- the statements ran to their end
abbrev pub is_done : Status → Bool
is_done Done = true
is_done status = false

-- the line on the standard error: none where the statements ran to their end
unfoldable pub message_line : Status → List ℕ
message_line status = if is_done status then [] else codes "upkeep: " ++ message_of status ++ codes "\n"
