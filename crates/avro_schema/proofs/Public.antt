-- The clauses of the public calls.
use Rattle.std.proofs.Common.{◌≡◌, ℕ, ◌+◌, List, [], Result, Ok, Err, sym, ap, ◌∙◌, arith, IfOk, subst}
use Rattle.serde_json.specs.Data.{Data}
use Rattle.serde_json.specs.View.{view}
use Rattle.serde_json.specs.declared.value.Value.{Value}
use Rattle.avro_schema.specs.declared.fault.SchemaErr.{SchemaErr}
use Rattle.avro_schema.specs.declared.fault.SchemaErr.TheVariants as errors
use Rattle.avro_schema.specs.declared.scope.Scope.{Scope}
use Rattle.avro_schema.specs.declared.schema.Schema.{Schema}
use Rattle.avro_schema.specs.Form.{form_of, width}
use Rattle.avro_schema.specs.Reading.{◌>>=◌, Gives, Reads, read, schema_of}
use Rattle.avro_schema.specs.Spelling.{SpellsSchema, SpellsNone, OnFault}
use Rattle.avro_schema.specs.Writable.{IsWritable}
use Rattle.avro_schema.specs.Writing.{written_type, written_schema}
use Rattle.avro_schema.proofs.Found.{bind_ok, same_ok, found}
use Rattle.avro_schema.proofs.Again.{scope_of, again}
use Rattle.avro_schema.proofs.Rewritten.{rewritten}

pub schema_from : (d : Data) (r : Result Schema SchemaErr) (after : Scope) → Reads r after (read 32 [] d (scope_of [] 4096)) → Gives r (schema_of d)
unfolding schema_of
schema_from d (Ok s) after g = ap (λ r. r >>= λ x. Ok x.0) g
schema_from d (Err errors.Memory) after g = tt
schema_from d (Err (errors.Bad path cause)) after g = ap (λ r. r >>= λ x. Ok x.0) g

pub schema_found : (d : Data) (s : Schema) → schema_of d ≡ Ok s → SpellsSchema d s
unfolding schema_of
schema_found d s e =
    let got = bind_ok (read 32 [] d (scope_of [] 4096)) (λ x. Ok x.0) s e in
    let it = found 32 [] d (scope_of [] 4096) got.0.0 got.0.1 got.1 in
    let room : 4096 ≡ width (form_of got.0.0) + got.0.1.room = it.room in
    let made : SpellsSchema d got.0.0 = record { names = got.0.1.names; spells = it.spells; is_narrow = omega (arith, room) } in
    subst (SpellsSchema d) (same_ok got.2) made

pub schema_again : (d : Data) (s : Schema) → SpellsSchema d s → schema_of d ≡ Ok s
unfolding schema_of
schema_again d s spelled = ap (λ r. r >>= λ x. Ok x.0) (again 32 [] d [] s spelled.names 4096 spelled.spells spelled.is_narrow)

pub found_of : (d : Data) (r : Result Schema SchemaErr) → Gives r (schema_of d) → IfOk r (SpellsSchema d)
found_of d (Ok s) g = schema_found d s g
found_of d (Err e) g = tt

pub none_of : (d : Data) (r : Result Schema SchemaErr) → Gives r (schema_of d) → OnFault r (SpellsNone d)
none_of d (Ok s) g = tt
none_of d (Err errors.Memory) g = tt
none_of d (Err (errors.Bad path cause)) g = λ s spelled. (let got = schema_again d s spelled in cc)

pub spelled_of : {E : Type 0} (s : Schema) (r : Result Value E) (after : List (List ℕ)) → IfOk r (λ v. written_type s [] ≡ (view v, after)) → IfOk r (λ v. IsWritable s → SpellsSchema (view v) s)
unfolding written_schema
spelled_of s (Ok v) after e = λ w. (let tree : written_schema s ≡ view v = ap (λ x. x.0) e in subst (λ d. SpellsSchema d s) tree (rewritten s w))
spelled_of s (Err e) after is = tt

pub again_of : {E : Type 0} (s : Schema) (r : Result Value E) (after : List (List ℕ)) → IfOk r (λ v. written_type s [] ≡ (view v, after)) → IfOk r (λ v. IsWritable s → schema_of (view v) ≡ Ok s)
again_of s (Ok v) after e = λ w. schema_again (view v) s (spelled_of {E = ℕ} s (Ok v) after e w)
again_of s (Err e) after is = tt

pub only_of : (d : Data) (r : Result Schema SchemaErr) → Gives r (schema_of d) → (s : Schema) → SpellsSchema d s → Gives r (Ok s)
only_of d (Ok t) g s spelled = sym (schema_again d s spelled) ∙ g
only_of d (Err errors.Memory) g s spelled = tt
only_of d (Err (errors.Bad path cause)) g s spelled = sym (schema_again d s spelled) ∙ g
