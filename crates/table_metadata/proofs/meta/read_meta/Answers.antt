use Rattle.std.proofs.Common.{ℕ, List, Result, Ok, Err, IfOk, IfErr, refl}
use Rattle.serde_json.specs.Data.{Data}
use Rattle.serde_json.specs.View.{view}
use Rattle.serde_json.specs.declared.value.Value.{Value}
use Rattle.table_metadata.specs.Spelling.{Spells, IsRefused, IsReadAs}
use Rattle.table_metadata.specs.declared.cause.MetaErr.{MetaErr}
use Rattle.table_metadata.specs.declared.cause.MetaErr.TheVariants.{Bad, Memory}
use Rattle.table_metadata.proofs.SpellingLaws.{no_fault_of}
use Rattle.table_metadata.proofs.meta.read_meta.Goals as goal

taken : (bytes : List ℕ) (r : Result Value MetaErr) → IfOk r (λ m. Spells bytes (view m)) → IfErr r (λ e. IsRefused bytes e) → (d : Data) → Spells bytes d → IsReadAs d r
taken bytes (Ok m) ok err d s = let a = ok.json in let b = s.json in cc
taken bytes (Err Memory) ok err d s = refl
taken bytes (Err (Bad path cause)) ok err d s = absurd (no_fault_of bytes d path cause s err)

pub returns-clause-taken : goal.returns-clause-taken
returns-clause-taken c = taken c.args.bytes.now c.read.result c.read.ensures.ok c.read.ensures.err
