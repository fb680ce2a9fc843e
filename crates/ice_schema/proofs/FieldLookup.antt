-- The source of a field that was looked up at its place.
use Rattle.std.proofs.Common.{◌≡◌, ℕ, ℤ, List, Bool, Option, refl}
use Rattle.std.specs.Prelude.{slice_get, option_map}
use Rattle.std.specs.List.{position_or_len}
use Rattle.avro_schema.specs.declared.schema.Field.{Field}
use Rattle.avro_schema.specs.declared.schema.Schema.{Schema}
use Rattle.ice_schema.specs.declared.projection.Projection.{Projection}
use Rattle.ice_schema.specs.Kinds.{has_id}
use Rattle.ice_schema.specs.Projections.{source_of, field_source}

-- what was looked up at the place is what the source is of
pub field_at : (id : ℤ) (required : Bool) (type : Schema → Option Projection) (fields : List Field) (place : ℕ) (found : Option Field)
    → place ≡ position_or_len (has_id id) fields → found ≡ slice_get fields place → field_source id required type fields ≡ source_of required type place (option_map (λ f. f.schema) found)
field_at id required type fields place found at is = rw (is, at) refl
