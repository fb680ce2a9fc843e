-- The written schema of a list has the columns of a row.
use Rattle.std.proofs.Common.{◌≡◌, ℤ, List, [], ◌∷◌, map, Bool, true, false, not, if◌then◌else◌, Option, Some, None, Ok, refl, ap, ◌∙◌}
use Rattle.std.specs.List.{AllByRecursion}
use Rattle.std.specs.Ordering.{int_eq}
use Rattle.avro_schema.specs.declared.schema.Field.{Field}
use Rattle.avro_schema.specs.declared.schema.Logical.TheVariants.{Plain}
use Rattle.avro_schema.specs.declared.schema.Schema.{Schema, out-Schema}
use Rattle.avro_schema.specs.declared.schema.Schema.TheOpen.{Schema-F}
use Rattle.avro_schema.specs.declared.schema.Schema.TheVariants.{Null, Fields, Union, outs-Null, outs-Bool, outs-Int, outs-Long, outs-Str, outs-Blob, outs-List, outs-Fields, outs-Union}
use Rattle.manifest_columns.specs.declared.column.Column.{Column}
use Rattle.manifest_columns.specs.declared.column.Kind.{Kind}
use Rattle.manifest_columns.specs.declared.column.Kind.TheVariants.{Bool as Truth, Int, Long, Text, Bytes, Summaries, Record}
use Rattle.manifest_columns.specs.declared.faults.Fault.{Fault}
use Rattle.manifest_columns.specs.declared.faults.Fault.TheVariants.{Lacks, Bad}
use Rattle.manifest_columns.specs.declared.name.RecordName.TheVariants as names
use Rattle.manifest_columns.specs.Faults.{is_of, own_fault, smaller, flat_fault, record_under, summary_fault, type_fault, inner_fault, field_fault, schema_fault}
use Rattle.manifest_columns.specs.Name.{record_name_of}
use Rattle.manifest_columns.specs.Places.{schema_of}
use Rattle.manifest_columns.specs.Shapes.{is_null, in_union, type_of, has_kind, item_of, fields_of, is_bool, is_int, is_long, is_text, is_bytes, is_there}
use Rattle.manifest_columns.specs.Tables.{row_columns, summary_columns, written_row_columns, written_summary_columns}
use Rattle.manifest_columns.specs.Written.{nullable, plain_type, plain_field, written_type, written_field}
use Rattle.manifest_codec.specs.Schemas.{fields_fault, unless, checked}
use Rattle.manifest_writing.specs.Lists.{list_schema}

-- the type of a column, without null beside it
beside_null : (b : Bool) (s : Schema) → type_of b (nullable b s) ≡ Some s
beside_null false s = refl
beside_null true s =
    ap in_union (outs-Union (Null ∷ s ∷ []))
    ∙ ap (λ (t : Schema-F Schema Field). if is_null t then Some s else (if is_null (out-Schema s) then Some Null else None)) outs-Null

-- kinds of a row's columns
IsKind : Kind → Type 0
IsKind Truth = Unit {0}
IsKind Int = Unit {0}
IsKind Long = Unit {0}
IsKind Text = Unit {0}
IsKind Bytes = Unit {0}
IsKind (Summaries element name) = int_eq element element ≡ true
IsKind _ = ⊥

kind_fits : (k : Kind) → IsKind k → has_kind k (out-Schema (written_type k)) ≡ true
unfolding IsKind
kind_fits Truth h = ap is_bool outs-Bool
kind_fits Int h = ap is_int (outs-Int Plain)
kind_fits Long h = ap is_long (outs-Long Plain)
kind_fits Text h = ap is_text (outs-Str Plain)
kind_fits Bytes h = ap is_bytes (outs-Blob Plain)
kind_fits (Summaries element name) h = ap (λ (t : Schema-F Schema Field). is_there (item_of t)) (outs-List (Fields (record_name_of name) (map plain_field written_summary_columns)) (Some element) false)
kind_fits k h = absurd h

-- a field of its column's type has no fault
no_own : (fault : Fault) (id : ℤ) (k : Kind) (b : Bool) (s : Schema) → is_of k (type_of b s) ≡ true → own_fault fault id k b (Some s) ≡ None
no_own Lacks id k b s h = refl
no_own Bad id k b s h = ap (λ (t : Bool). if not t then Some id else None) h

no_nullable : (fault : Fault) (id : ℤ) (k : Kind) (b : Bool) (s : Schema) → has_kind k (out-Schema s) ≡ true → own_fault fault id k b (Some (nullable b s)) ≡ None
no_nullable fault id k b s h = no_own fault id k b (nullable b s) (ap (is_of k) (beside_null b s) ∙ h)

-- the same of one more field of a summary
flat_next : (fault : Fault) (c : Column) (cs : List Column) (fs : List Field) → own_fault fault c.id c.kind c.may_lack (schema_of c.id fs) ≡ None → flat_fault fault None cs fs ≡ None → flat_fault fault None (c ∷ cs) fs ≡ None
flat_next fault c cs fs e rest = ap (λ (o : Option ℤ). flat_fault fault (smaller None o) cs fs) e ∙ rest

-- columns without anything within them, each of which is there
abbrev IsPlain : List Field → Column → Type 0
IsPlain fs c = (schema_of c.id fs ≡ Some (nullable c.may_lack (plain_type c.kind))) × (has_kind c.kind (out-Schema (plain_type c.kind)) ≡ true)

no_flat : (fault : Fault) (cs : List Column) (fs : List Field) → AllByRecursion (IsPlain fs) cs → flat_fault fault None cs fs ≡ None
no_flat fault [] fs h = refl
no_flat fault (c ∷ cs) fs h =
    flat_next fault c cs fs (ap (own_fault fault c.id c.kind c.may_lack) h.0.0 ∙ no_nullable fault c.id c.kind c.may_lack (plain_type c.kind) h.0.1) (no_flat fault cs fs h.1)

no_summary : (fault : Fault) → flat_fault fault None summary_columns (map plain_field written_summary_columns) ≡ None
unfolding IsKind
no_summary fault =
    no_flat fault summary_columns (map plain_field written_summary_columns)
    ((refl, kind_fits Truth tt), ((refl, kind_fits Bytes tt), ((refl, kind_fits Bytes tt), ((refl, kind_fits Truth tt), tt))))

-- what lies within a type has no fault
no_within : (fault : Fault) (k : Kind) → IsKind k → type_fault fault k (out-Schema (written_type k)) ≡ None
unfolding IsKind
no_within fault Truth h = refl
no_within fault Int h = refl
no_within fault Long h = refl
no_within fault Text h = refl
no_within fault Bytes h = refl
no_within fault (Summaries element name) h =
    let item : Schema = Fields (record_name_of name) (map plain_field written_summary_columns) in
    let fits : has_kind (Record name) (out-Schema item) ≡ true = ap (λ (t : Schema-F Schema Field). is_there (fields_of t)) (outs-Fields (record_name_of name) (map plain_field written_summary_columns)) in
    ap (type_fault fault (Summaries element name)) (outs-List item (Some element) false)
    ∙ ap (λ (b : Bool). smaller (own_fault fault element (Record name) false (if b then Some item else None)) (summary_fault fault (record_under (if b then Some item else None)))) h
    ∙ ap (λ (o : Option ℤ). smaller o (summary_fault fault (fields_of (out-Schema item)))) (no_own fault element (Record name) false item fits)
    ∙ ap (λ (t : Schema-F Schema Field). summary_fault fault (fields_of t)) (outs-Fields (record_name_of name) (map plain_field written_summary_columns))
    ∙ no_summary fault
no_within fault k h = absurd h

no_field : (fault : Fault) (c : Column) → IsKind c.kind → field_fault fault c (Some (nullable c.may_lack (written_type c.kind))) ≡ None
no_field fault c h =
    ap (λ (o : Option ℤ). smaller o (inner_fault fault c.kind (type_of c.may_lack (nullable c.may_lack (written_type c.kind))))) (no_nullable fault c.id c.kind c.may_lack (written_type c.kind) (kind_fits c.kind h))
    ∙ ap (inner_fault fault c.kind) (beside_null c.may_lack (written_type c.kind))
    ∙ no_within fault c.kind h

-- a column that is there
abbrev IsThere : List Field → Column → Type 0
IsThere fs c = (schema_of c.id fs ≡ Some (nullable c.may_lack (written_type c.kind))) × IsKind c.kind

no_fault : (fault : Fault) (cs : List Column) (fs : List Field) → AllByRecursion (IsThere fs) cs → schema_fault fault None cs fs ≡ None
no_fault fault [] fs h = refl
no_fault fault (c ∷ cs) fs h = ap (λ (o : Option ℤ). schema_fault fault (smaller None o) cs fs) (ap (field_fault fault c) h.0.0 ∙ no_field fault c h.0.1) ∙ no_fault fault cs fs h.1

all_there : AllByRecursion (IsThere (map written_field written_row_columns)) row_columns
unfolding IsKind
all_there =
    ((refl, tt), ((refl, tt), ((refl, tt), ((refl, tt), ((refl, tt), ((refl, tt), ((refl, tt), ((refl, refl), ((refl, tt), ((refl, tt), ((refl, tt), ((refl, tt), ((refl, tt), ((refl, tt), ((refl, tt), tt)))))))))))))))

pub has_columns : checked row_columns (fields_of (out-Schema list_schema)) ≡ Ok (map written_field written_row_columns)
has_columns =
    let fs : List Field = map written_field written_row_columns in
    ap (λ (t : Schema-F Schema Field). checked row_columns (fields_of t)) (outs-Fields (record_name_of names.ManifestFile) fs)
    ∙ ap (λ (o : Option ℤ). unless fs (fields_fault o (schema_fault Bad None row_columns fs))) (no_fault Lacks row_columns fs all_there)
    ∙ ap (λ (o : Option ℤ). unless fs (fields_fault None o)) (no_fault Bad row_columns fs all_there)
