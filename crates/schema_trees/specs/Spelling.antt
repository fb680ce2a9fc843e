-- Which JSON trees spell which partition spec (Iceberg table specification, Appendix C, "Partition Specs").
use Rattle.std.specs.Prelude.{◌≡◌, ℕ, ℤ, List, [], ◌∷◌, codes, map, Some, option_and_then, Result, Ok, Err}
use Rattle.serde_json.specs.Data.{Data, Items, no_items, item}
use Rattle.serde_json.specs.Find.{get, as_array}
use Rattle.avro_schema.specs.Attribute.{text_at, id_at}
use Rattle.schema_types.specs.declared.types.SpecField.{SpecField}
use Rattle.schema_types.specs.declared.types.Spec.{Spec}
use Rattle.schema_trees.specs.declared.fault.JsonErr.{JsonErr}
use Rattle.schema_trees.specs.declared.fault.JsonErr.TheVariants as errors
use Rattle.schema_trees.specs.Ids.{AreNew}
use Rattle.schema_trees.specs.Words.{transform_of}

-- the trees spell the values, one each
abbrev pub SpellsEach : {A : Type 0} → (Data → A → Type 0) → Items → List A → Type 0
SpellsEach P no_items [] = Unit {0}
SpellsEach P no_items (x ∷ xs) = ⊥
SpellsEach P (item d ds) [] = ⊥
SpellsEach P (item d ds) (x ∷ xs) = P d x × SpellsEach P ds xs

-- a field of a spec; its other members count for nothing
pub record SpellsField (d : Data) (f : SpecField) : Type 0 where
  pub is_field_id : id_at (codes "field-id") d ≡ Some f.field_id
  pub is_name : text_at (codes "name") d ≡ Some f.name
  pub is_source_id : id_at (codes "source-id") d ≡ Some f.source_id
  pub word : List ℕ
  pub is_word : text_at (codes "transform") d ≡ Some word
  pub is_transform : f.transform ≡ transform_of word

-- the ids of a spec's fields
abbrev pub field_ids : List SpecField → List ℤ
field_ids fs = map (λ f. f.field_id) fs

-- a spec, no two of whose fields have one id
pub record SpellsSpec (d : Data) (s : Spec) : Type 0 where
  pub is_spec_id : id_at (codes "spec-id") d ≡ Some s.id
  pub items : Items
  pub are_fields : option_and_then as_array (get (codes "fields") d) ≡ Some items
  pub spelled : SpellsEach SpellsField items s.fields
  pub are_new : AreNew [] (field_ids s.fields)

-- the tree spells no spec
abbrev pub SpellsNoSpec : Data → Type 0
SpellsNoSpec d = (s : Spec) → SpellsSpec d s → ⊥

-- what holds of a refusal that isn't want of memory
abbrev pub OnFault : {A : Type 0} → Result A JsonErr → Type 0 → Type 0
OnFault (Ok x) P = Unit {0}
OnFault (Err errors.Memory) P = Unit {0}
OnFault (Err (errors.Bad path)) P = P
