-- What of a schema decides how its values are spelled (Apache Avro specification, "Binary Encoding").
use Rattle.std.specs.Prelude.{ℕ, suc, max, ◌+◌, ◌-◌, List, [], ◌∷◌, length, nat_lt, if◌then◌else◌, Option, Some, None}
use Rattle.avro_schema.specs.declared.schema.Schema.{Schema, fold-Schema}
use Rattle.avro_schema.specs.declared.schema.Field.{Field, fold-Field}
use Rattle.avro_schema.specs.declared.schema.Schema.TheOpen.{Schema-F, Field-F}

mutual
  -- the form of a schema: which values it has, without names of types and logical types
  pub data Form : Type 0 where
    null : Form
    boolean : Form
    int : Form
    long : Form
    float4 : Form
    float8 : Form
    bytes : Form
    string : Form
    -- of so many bytes
    fixed : ℕ → Form
    -- of so many symbols
    choice : ℕ → Form
    -- of such items
    array : Form → Form
    -- of such values under string keys
    pairs : Form → Form
    -- a record of such fields in order
    fields : Forms → Form
    -- of such branches
    union : Forms → Form

  -- the forms of a record's fields or of a union's branches, in order
  pub data Forms : Type 0 where
    no_forms : Forms
    form : Form → Forms → Forms

-- a list of forms as forms
abbrev pub forms_of : List Form → Forms
forms_of [] = no_forms
forms_of (f ∷ fs) = form f (forms_of fs)

-- the form of a field, once its schema has one
abbrev pub field_step : Field-F Form Form → Form
field_step f = f.schema

-- the form of a schema, once those within it have theirs
abbrev pub form_step : Schema-F Form Form → Form
form_step Schema-F.Null = null
form_step Schema-F.Bool = boolean
form_step (Schema-F.Int logical) = int
form_step (Schema-F.Long logical) = long
form_step Schema-F.Float4 = float4
form_step Schema-F.Float8 = float8
form_step (Schema-F.Blob logical) = bytes
form_step (Schema-F.Str logical) = string
form_step (Schema-F.Fix name size logical) = fixed size
form_step (Schema-F.Choice name symbols) = choice (length symbols)
form_step (Schema-F.List item element_id is_map) = array item
form_step (Schema-F.Pairs value key_id value_id) = pairs value
form_step (Schema-F.Fields name fs) = fields (forms_of fs)
form_step (Schema-F.Union branches) = union (forms_of branches)

-- the form of a schema
abbrev pub form_of : Schema → Form
form_of = fold-Schema Form Form form_step field_step

-- the form of a field's schema
abbrev pub field_form : Field → Form
field_form = fold-Field Form Form form_step field_step

abbrev mutual
  -- how many types lie within one another
  pub depth : Form → ℕ
  depth null = 1
  depth boolean = 1
  depth int = 1
  depth long = 1
  depth float4 = 1
  depth float8 = 1
  depth bytes = 1
  depth string = 1
  depth (fixed n) = 1
  depth (choice n) = 1
  depth (array f) = suc (depth f)
  depth (pairs f) = suc (depth f)
  depth (fields fs) = suc (deepest fs)
  depth (union fs) = suc (deepest fs)

  -- the depth of the deepest of some forms
  pub deepest : Forms → ℕ
  deepest no_forms = 0
  deepest (form f fs) = max (depth f) (deepest fs)

abbrev mutual
  -- how many record fields there are in all
  pub width : Form → ℕ
  width null = 0
  width boolean = 0
  width int = 0
  width long = 0
  width float4 = 0
  width float8 = 0
  width bytes = 0
  width string = 0
  width (fixed n) = 0
  width (choice n) = 0
  width (array f) = width f
  width (pairs f) = width f
  width (fields fs) = field_widths fs
  width (union fs) = branch_widths fs

  -- how many record fields these fields are, with those within them
  pub field_widths : Forms → ℕ
  field_widths no_forms = 0
  field_widths (form f fs) = suc (width f + field_widths fs)

  -- how many record fields lie within these branches
  pub branch_widths : Forms → ℕ
  branch_widths no_forms = 0
  branch_widths (form f fs) = width f + branch_widths fs

-- what is left of a room for so many fields, where they have room
abbrev pub room_behind : ℕ → ℕ → Option ℕ
room_behind width room = if nat_lt room width then None else Some (room - width)
