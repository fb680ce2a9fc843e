-- The record that is written for an entry.
use Rattle.std.specs.Prelude.{List, [], ◌∷◌, map}
use Rattle.std.specs.Option.{option_map}
use Rattle.avro_datum.specs.declared.datum.Datum.{Datum}
use Rattle.avro_datum.specs.declared.datum.Datum.TheVariants.{Int, Long, Fields}
use Rattle.manifest_columns.specs.Tables.{written_entry_columns, written_data_file_columns}
use Rattle.manifest_columns.specs.Written.{written_field}
use Rattle.manifest_cells.specs.Written.{optional}
use Rattle.manifest_files.specs.declared.partition.PartSlot.{PartSlot}
use Rattle.manifest_files.specs.Partitions.{written_parts}
use Rattle.manifest_files.specs.Written.{file_fields}
use Rattle.manifest_entries.specs.declared.entry.Entry.{Entry}
use Rattle.manifest_entries.specs.declared.entry.EntrySlots.{EntrySlots}
use Rattle.manifest_entries.specs.Entries.{IsEntry, entry_slots, status_number}

-- The fields of an entry's record, in the order in which they are written.
abbrev pub entry_fields : Entry → List Datum
entry_fields entry =
    Int (status_number entry.status)
    ∷ optional (option_map Long entry.snapshot_id)
    ∷ optional (option_map Long entry.sequence_number)
    ∷ optional (option_map Long entry.file_sequence_number)
    ∷ Fields (file_fields entry.data_file)
    ∷ []

-- Where the written schema has the fields of an entry, for a partition type with these fields.
abbrev pub written_entry_slots : List PartSlot → EntrySlots
written_entry_slots parts = entry_slots (map written_field written_entry_columns) (map written_field written_data_file_columns) (written_parts 0 parts)

-- The record of an entry that was read, under the written schema, stands for that entry.
abbrev pub EntriesAreReadBack : Type 0
EntriesAreReadBack = (slots : EntrySlots) (ds : List Datum) (entry : Entry) → IsEntry slots ds entry → IsEntry (written_entry_slots slots.parts) (entry_fields entry) entry
