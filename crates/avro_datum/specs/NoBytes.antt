-- Values that are spelled by no bytes.
use Rattle.std.specs.Prelude.{[], Bool, is_ok}
use Rattle.avro_schema.specs.Form.{Form, Forms}
use Rattle.avro_datum.specs.Reading.{read, read_all}

-- Whether values under a form are spelled by no bytes: one is read where no bytes are left.
abbrev pub takes_none : Form → Bool
takes_none f = is_ok (read f [])

-- The same of a value under each form.
abbrev pub all_take_none : Forms → Bool
all_take_none fs = is_ok (read_all fs [])
