-- The clauses of the public calls.
use Rattle.std.proofs.Common.{Result, Ok, Err, sym, ◌∙◌, IfOk}
use Rattle.serde_json.specs.Data.{Data}
use Rattle.schema_types.specs.declared.types.Schema.{Schema}
use Rattle.schema_types.specs.declared.types.Spec.{Spec}
use Rattle.schema_trees.specs.declared.fault.JsonErr.{JsonErr}
use Rattle.schema_trees.specs.declared.fault.JsonErr.TheVariants as errors
use Rattle.schema_trees.specs.Reading.{Gives, spec_of}
use Rattle.schema_trees.specs.Spelling.{SpellsSpec, SpellsNoSpec, OnFault}
use Rattle.schema_trees.specs.TypeReading.{schema_of}
use Rattle.schema_trees.specs.TypeSpelling.{SpellsSchema, SpellsNoSchema}
use Rattle.schema_trees.proofs.Found.{spec_found}
use Rattle.schema_trees.proofs.Again.{spec_again}
use Rattle.schema_trees.proofs.TypeFound.{schema_found}
use Rattle.schema_trees.proofs.TypeAgain.{schema_again}

pub found_of : (d : Data) (r : Result Spec JsonErr) → Gives r (spec_of d) → IfOk r (SpellsSpec d)
found_of d (Ok s) g = spec_found d s g
found_of d (Err e) g = tt

pub none_of : (d : Data) (r : Result Spec JsonErr) → Gives r (spec_of d) → OnFault r (SpellsNoSpec d)
none_of d (Ok s) g = tt
none_of d (Err errors.Memory) g = tt
none_of d (Err (errors.Bad path)) g = λ s spelled. (let got = spec_again d s spelled in cc)

pub only_of : (d : Data) (r : Result Spec JsonErr) → Gives r (spec_of d) → (s : Spec) → SpellsSpec d s → Gives r (Ok s)
only_of d (Ok t) g s spelled = sym (spec_again d s spelled) ∙ g
only_of d (Err errors.Memory) g s spelled = tt
only_of d (Err (errors.Bad path)) g s spelled = sym (spec_again d s spelled) ∙ g

pub schema_found_of : (d : Data) (r : Result Schema JsonErr) → Gives r (schema_of d) → IfOk r (SpellsSchema d)
schema_found_of d (Ok s) g = schema_found d s g
schema_found_of d (Err e) g = tt

pub schema_none_of : (d : Data) (r : Result Schema JsonErr) → Gives r (schema_of d) → OnFault r (SpellsNoSchema d)
schema_none_of d (Ok s) g = tt
schema_none_of d (Err errors.Memory) g = tt
schema_none_of d (Err (errors.Bad path)) g = λ s spelled. (let got = schema_again d s spelled in cc)

pub schema_only_of : (d : Data) (r : Result Schema JsonErr) → Gives r (schema_of d) → (s : Schema) → SpellsSchema d s → Gives r (Ok s)
schema_only_of d (Ok t) g s spelled = sym (schema_again d s spelled) ∙ g
schema_only_of d (Err errors.Memory) g s spelled = tt
schema_only_of d (Err (errors.Bad path)) g s spelled = sym (schema_again d s spelled) ∙ g
