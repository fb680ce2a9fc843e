-- What reading finds in a tree that was written.
use Rattle.std.proofs.Common.{◌≡◌, ℕ, ℤ, pos, negsuc, ◌<◌, ◌^◌, List, codes, Bool, true, false, cond, lt-ltb, eq-eqb, Option, Some, None, option_map, option_and_then, inl, inr, refl, ap, ◌∙◌, arith}
use Rattle.serde_json.specs.Data.{Data, null, number, string, object, no_members, put}
use Rattle.serde_json.specs.Find.{get, as_array, as_number, as_i64, of_integer}
use Rattle.serde_json.specs.View.{items_of}
use Rattle.avro_schema.specs.declared.schema.Logical.{Logical}
use Rattle.avro_schema.specs.declared.schema.Logical.TheVariants.{Plain, Date, TimeMicros, TimestampMicros, Decimal, Uuid}
use Rattle.avro_schema.specs.declared.schema.Schema.{Schema}
use Rattle.avro_schema.specs.declared.schema.Schema.TheVariants.{Int, Long, Blob, Str}
use Rattle.avro_schema.specs.Attribute.{text_at, u32_of, id_at, narrow_signed}
use Rattle.avro_schema.specs.Logical.{has_logical, int_logical, long_logical, decimal_of, bytes_logical, string_logical, fixed_logical}
use Rattle.avro_schema.specs.Primitive.{primitive}
use Rattle.avro_schema.specs.Spelling.{IsNamed, IsObjectOf, strings}
use Rattle.avro_schema.specs.Writable.{GoesWithInt, GoesWithLong, GoesWithBytes, GoesWithString, GoesWithFixed, IsId}
use Rattle.avro_schema.specs.Writing.{put_id, put_logical, primitive_tree, fixed_tree, choice_tree, put_map, array_tree, map_tree, record_tree, begins_with_null, put_default, field_tree}

-- the tree names the primitive type
pub record IsPrimitiveTree (word : List ℕ) (d : Data) (s : Schema) : Type 0 where
  pub named : IsNamed word d
  pub is : primitive word d ≡ Some s

pub int_tree : (l : Logical) → GoesWithInt l → IsPrimitiveTree (codes "int") (primitive_tree (codes "int") l) (Int l)
unfolding primitive_tree put_logical primitive int_logical has_logical
int_tree Plain g = record { named = inl refl; is = refl }
int_tree Date g = record { named = inr (refl, (refl, refl, refl, refl, refl)); is = refl }
int_tree TimeMicros g = absurd g
int_tree (TimestampMicros b) g = absurd g
int_tree (Decimal p s) g = absurd g
int_tree Uuid g = absurd g

pub long_tree : (l : Logical) → GoesWithLong l → IsPrimitiveTree (codes "long") (primitive_tree (codes "long") l) (Long l)
unfolding primitive_tree put_logical primitive long_logical has_logical
long_tree Plain g = record { named = inl refl; is = refl }
long_tree Date g = absurd g
long_tree TimeMicros g = record { named = inr (refl, (refl, refl, refl, refl, refl)); is = refl }
long_tree (TimestampMicros b) g = record { named = inr (refl, (refl, refl, refl, refl, refl)); is = refl }
long_tree (Decimal p s) g = absurd g
long_tree Uuid g = absurd g

pub bytes_tree : (l : Logical) → GoesWithBytes l → IsPrimitiveTree (codes "bytes") (primitive_tree (codes "bytes") l) (Blob l)
unfolding primitive_tree put_logical primitive bytes_logical has_logical decimal_of
bytes_tree Plain g = record { named = inl refl; is = refl }
bytes_tree Date g = absurd g
bytes_tree TimeMicros g = absurd g
bytes_tree (TimestampMicros b) g = absurd g
bytes_tree (Decimal p s) g = record { named = inr (refl, (refl, refl, refl, refl, refl)); is = rw (lt-ltb p (2 ^ 32) g.0, lt-ltb s (2 ^ 32) g.1) refl }
bytes_tree Uuid g = absurd g

pub string_tree : (l : Logical) → GoesWithString l → IsPrimitiveTree (codes "string") (primitive_tree (codes "string") l) (Str l)
unfolding primitive_tree put_logical primitive string_logical has_logical
string_tree Plain g = record { named = inl refl; is = refl }
string_tree Date g = absurd g
string_tree TimeMicros g = absurd g
string_tree (TimestampMicros b) g = absurd g
string_tree (Decimal p s) g = absurd g
string_tree Uuid g = record { named = inr (refl, (refl, refl, refl, refl, refl)); is = refl }

pub record IsFixedTree (name : List ℕ) (size : ℕ) (l : Logical) (d : Data) : Type 0 where
  pub type : IsObjectOf (codes "fixed") d
  pub name_is : text_at (codes "name") d ≡ Some name
  pub size_is : option_and_then u32_of (get (codes "size") d) ≡ Some size
  pub logical_is : fixed_logical size d ≡ l

pub fixed_again : (name : List ℕ) (size : ℕ) (l : Logical) → size < 2 ^ 32 → GoesWithFixed size l → IsFixedTree name size l (fixed_tree name size l)
unfolding fixed_tree put_logical fixed_logical has_logical decimal_of
fixed_again name size Plain h g = record { type = refl; name_is = refl; size_is = rw (lt-ltb size (2 ^ 32) h) refl; logical_is = refl }
fixed_again name size Date h g = absurd g
fixed_again name size TimeMicros h g = absurd g
fixed_again name size (TimestampMicros b) h g = absurd g
fixed_again name size (Decimal p s) h g = record { type = refl; name_is = refl; size_is = rw (lt-ltb size (2 ^ 32) h) refl; logical_is = rw (lt-ltb p (2 ^ 32) g.0, lt-ltb s (2 ^ 32) g.1) refl }
fixed_again name size Uuid h g = record { type = refl; name_is = refl; size_is = rw (lt-ltb size (2 ^ 32) h) refl; logical_is = rw (eq-eqb size 16 g) refl }

pub record IsChoiceTree (name : List ℕ) (symbols : List (List ℕ)) (d : Data) : Type 0 where
  pub type : IsObjectOf (codes "enum") d
  pub name_is : text_at (codes "name") d ≡ Some name
  pub symbols_are : option_and_then as_array (get (codes "symbols") d) ≡ Some (strings symbols)

pub choice_again : (name : List ℕ) (symbols : List (List ℕ)) → IsChoiceTree name symbols (choice_tree name symbols)
unfolding choice_tree
choice_again name symbols = record { type = refl; name_is = refl; symbols_are = refl }

pub record IsRecordTree (name : List ℕ) (ds : List Data) (d : Data) : Type 0 where
  pub type : IsObjectOf (codes "record") d
  pub name_is : text_at (codes "name") d ≡ Some name
  pub fields_are : option_and_then as_array (get (codes "fields") d) ≡ Some (items_of ds)

pub record_again : (name : List ℕ) (ds : List Data) → IsRecordTree name ds (record_tree name ds)
unfolding record_tree
record_again name ds = record { type = refl; name_is = refl; fields_are = refl }

-- an id that was put there
abbrev pub id_data : Option ℤ → Option Data
id_data id = option_map (λ z. number (of_integer z)) id

id_from : (id : Option ℤ) → IsId id → option_and_then narrow_signed (option_and_then as_i64 (option_and_then as_number (id_data id))) ≡ id
id_from None h = refl
id_from (Some (pos n)) h = rw (lt-ltb n (2 ^ 63) (omega (arith, h)), lt-ltb n (2 ^ 31) h) refl
id_from (Some (negsuc n)) h = rw (lt-ltb n (2 ^ 31) h) refl

id_found : (key : List ℕ) (d : Data) (id : Option ℤ) → get key d ≡ id_data id → IsId id → id_at key d ≡ id
unfolding id_at
id_found key d id e h = ap (λ o. option_and_then narrow_signed (option_and_then as_i64 (option_and_then as_number o))) e ∙ id_from id h

record ArrayTree (t : Data) (id : Option ℤ) (m : Bool) (d : Data) : Type 0 where
  type : IsObjectOf (codes "array") d
  items_are : get (codes "items") d ≡ Some t
  id_is : get (codes "element-id") d ≡ id_data id
  map_is : has_logical (codes "map") d ≡ m

array_parts : (t : Data) (id : Option ℤ) (m : Bool) → ArrayTree t id m (array_tree t id m)
unfolding array_tree put_id put_map has_logical
array_parts t None true = record { type = refl; items_are = refl; id_is = refl; map_is = refl }
array_parts t None false = record { type = refl; items_are = refl; id_is = refl; map_is = refl }
array_parts t (Some z) true = record { type = refl; items_are = refl; id_is = refl; map_is = refl }
array_parts t (Some z) false = record { type = refl; items_are = refl; id_is = refl; map_is = refl }

pub record IsArrayTree (t : Data) (id : Option ℤ) (m : Bool) (d : Data) : Type 0 where
  pub type : IsObjectOf (codes "array") d
  pub items_are : get (codes "items") d ≡ Some t
  pub id_is : id_at (codes "element-id") d ≡ id
  pub map_is : has_logical (codes "map") d ≡ m

pub array_again : (t : Data) (id : Option ℤ) (m : Bool) → IsId id → IsArrayTree t id m (array_tree t id m)
array_again t id m h = let p = array_parts t id m in record { type = p.type; items_are = p.items_are; id_is = id_found (codes "element-id") (array_tree t id m) id p.id_is h; map_is = p.map_is }

record MapTree (t : Data) (k v : Option ℤ) (d : Data) : Type 0 where
  type : IsObjectOf (codes "map") d
  values_are : get (codes "values") d ≡ Some t
  key_is : get (codes "key-id") d ≡ id_data k
  value_is : get (codes "value-id") d ≡ id_data v

map_parts : (t : Data) (k v : Option ℤ) → MapTree t k v (map_tree t k v)
unfolding map_tree put_id
map_parts t None None = record { type = refl; values_are = refl; key_is = refl; value_is = refl }
map_parts t None (Some w) = record { type = refl; values_are = refl; key_is = refl; value_is = refl }
map_parts t (Some z) None = record { type = refl; values_are = refl; key_is = refl; value_is = refl }
map_parts t (Some z) (Some w) = record { type = refl; values_are = refl; key_is = refl; value_is = refl }

pub record IsMapTree (t : Data) (k v : Option ℤ) (d : Data) : Type 0 where
  pub type : IsObjectOf (codes "map") d
  pub values_are : get (codes "values") d ≡ Some t
  pub key_is : id_at (codes "key-id") d ≡ k
  pub value_is : id_at (codes "value-id") d ≡ v

pub map_again : (t : Data) (k v : Option ℤ) → IsId k → IsId v → IsMapTree t k v (map_tree t k v)
map_again t k v h i = let p = map_parts t k v in record {
  type = p.type;
  values_are = p.values_are;
  key_is = id_found (codes "key-id") (map_tree t k v) k p.key_is h;
  value_is = id_found (codes "value-id") (map_tree t k v) v p.value_is i;
}

record FieldTree (name : List ℕ) (t : Data) (id : Option ℤ) (d : Data) : Type 0 where
  name_is : text_at (codes "name") d ≡ Some name
  type_is : get (codes "type") d ≡ Some t
  id_is : get (codes "field-id") d ≡ id_data id

field_parts : (name : List ℕ) (t : Data) (id : Option ℤ) → FieldTree name t id (field_tree name t id)
unfolding field_tree put_id put_default
field_parts name t id = go (begins_with_null t) id
  where
    go : (b : Bool) (id : Option ℤ) → FieldTree name t id (object (cond b (put (codes "default") null (put_id (codes "field-id") id (put (codes "name") (string name) (put (codes "type") t no_members)))) (put_id (codes "field-id") id (put (codes "name") (string name) (put (codes "type") t no_members)))))
    go true None = record { name_is = refl; type_is = refl; id_is = refl }
    go true (Some z) = record { name_is = refl; type_is = refl; id_is = refl }
    go false None = record { name_is = refl; type_is = refl; id_is = refl }
    go false (Some z) = record { name_is = refl; type_is = refl; id_is = refl }

pub record IsFieldTree (name : List ℕ) (t : Data) (id : Option ℤ) (d : Data) : Type 0 where
  pub name_is : text_at (codes "name") d ≡ Some name
  pub type_is : get (codes "type") d ≡ Some t
  pub id_is : id_at (codes "field-id") d ≡ id

pub field_again : (name : List ℕ) (t : Data) (id : Option ℤ) → IsId id → IsFieldTree name t id (field_tree name t id)
field_again name t id h = let p = field_parts name t id in record { name_is = p.name_is; type_is = p.type_is; id_is = id_found (codes "field-id") (field_tree name t id) id p.id_is h }
