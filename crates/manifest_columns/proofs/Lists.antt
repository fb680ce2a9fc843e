-- Lists of records in a written schema.
use Rattle.std.proofs.Common.{◌≡◌, ℕ, ℤ, List, [], ◌∷◌, Bool, true, Option, Some, None, option_and_then, ap, ◌∙◌, if◌then◌else◌}
use Rattle.avro_schema.specs.declared.schema.Field.{Field}
use Rattle.avro_schema.specs.declared.schema.Schema.{Schema, out-Schema}
use Rattle.avro_schema.specs.declared.schema.Schema.TheOpen.{Schema-F}
use Rattle.avro_schema.specs.declared.schema.Schema.TheVariants.{Null, Union, List as Array, Fields, outs-Null, outs-Union, outs-List, outs-Fields}
use Rattle.manifest_columns.specs.Shapes.{is_null, in_union, type_of, fields_of, item_fields}
use Rattle.manifest_columns.specs.Slots.{inner_fields, known_fields}

-- A list of records that may lack has the fields of its records.
pub fields_in_list : (name : List ℕ) (fs : List Field) (element_id : Option ℤ) (is_map : Bool) → inner_fields (option_and_then (type_of true) (Some (Union (Null ∷ Array (Fields name fs) element_id is_map ∷ [])))) ≡ fs
fields_in_list name fs element_id is_map =
    let list : Schema = Array (Fields name fs) element_id is_map in
    ap (λ (t : Schema-F Schema Field). inner_fields (in_union t)) (outs-Union (Null ∷ list ∷ []))
    ∙ ap (λ (t : Schema-F Schema Field). inner_fields (if is_null t then Some list else (if is_null (out-Schema list) then Some Null else None))) outs-Null
    ∙ ap (λ (t : Schema-F Schema Field). known_fields (item_fields t)) (outs-List (Fields name fs) element_id is_map)
    ∙ ap (λ (t : Schema-F Schema Field). known_fields (fields_of t)) (outs-Fields name fs)
