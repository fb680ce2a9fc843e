-- Written entries are read as themselves.
use Rattle.std.proofs.Common.{◌≡◌, List, [], ◌∷◌, Some, ap, sym, ◌∙◌}
use Rattle.avro_datum.specs.declared.datum.Datum.{Datum}
use Rattle.avro_datum.specs.declared.datum.Datum.TheOpen.{Datum-F}
use Rattle.avro_datum.specs.declared.datum.Datum.TheVariants.{Long, Fields, outs-Fields}
use Rattle.manifest_cells.specs.Cells.{Cell, plain, inside, fields_in, held}
use Rattle.manifest_cells.proofs.Back.{conses, needed, maybe, plain_int, plain_long}
use Rattle.manifest_files.specs.Files.{held_file_cells, IsFile}
use Rattle.manifest_files.specs.Partitions.{written_parts}
use Rattle.manifest_files.specs.Written.{file_fields, written_file_slots}
use Rattle.manifest_files.proofs.Back.{read_back as file_read_back}
use Rattle.manifest_entries.specs.declared.entry.Entry.{Entry}
use Rattle.manifest_entries.specs.declared.entry.EntrySlots.{EntrySlots}
use Rattle.manifest_entries.specs.Entries.{IsEntry, found_fields}
use Rattle.manifest_entries.specs.Written.{EntriesAreReadBack}

behind_four : List Cell → List Cell
behind_four (a ∷ b ∷ c ∷ d ∷ cs) = cs
behind_four _ = []

-- the data file of an entry that was read was read
file_read : (slots : EntrySlots) (ds : List Datum) (entry : Entry) → IsEntry slots ds entry → IsFile slots.file slots.parts (found_fields (held ds slots.data_file)) entry.data_file
unfolding behind_four
file_read slots ds entry h = ap behind_four h

-- the fields of a record that may not lack
found_record : (ds : List Datum) → ds ≡ found_fields (plain (Some (Fields ds)))
unfolding plain
found_record ds = sym (ap (λ (t : Datum-F Datum). found_fields (inside (Fields ds) t)) (outs-Fields ds) ∙ ap fields_in (outs-Fields ds))

pub read_back : EntriesAreReadBack
read_back slots ds entry h =
    conses (needed _ (plain_int _))
    (conses (maybe Long plain_long entry.snapshot_id)
    (conses (maybe Long plain_long entry.sequence_number)
    (conses (maybe Long plain_long entry.file_sequence_number)
    (file_read_back _ _ _ entry.data_file (file_read slots ds entry h) ∙ ap (held_file_cells written_file_slots (written_parts 0 slots.parts)) (found_record (file_fields entry.data_file))))))
