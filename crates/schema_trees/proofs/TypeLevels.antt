-- Levels of types within one another.
use Rattle.std.proofs.Common.{◌≡◌, ℕ, ℤ, zero, suc, ◌-◌, ◌<◌, List, Result, Err, sym, ap, ◌∙◌, arith}
use Rattle.serde_json.specs.Data.{Data}
use Rattle.schema_trees.specs.declared.fault.JsonErr.{JsonErr}
use Rattle.schema_trees.specs.declared.fault.JsonErr.TheVariants as errors
use Rattle.schema_trees.specs.Reading.{Fault, Fails, IsFault}
use Rattle.schema_trees.specs.TypeReading.{level, read}

pub fault-fails : {A : Type 0} (path : List ℕ) (e : JsonErr) (r : Result A Fault) → r ≡ Err path → IsFault path e → Fails e r
fault-fails path errors.Memory r is f = tt
fault-fails {A} path (errors.Bad p) r is f = is ∙ ap (λ (q : List ℕ). Err q) (sym f)

pub read-zero : (most : ℕ) (path : List ℕ) (d : Data) (seen : List ℤ) → most ≡ 0 → read most path d seen ≡ Err path
unfolding read
read-zero most path d seen e = ap (λ n. read n path d seen) e

pub read-level : (most : ℕ) (path : List ℕ) (d : Data) (seen : List ℤ) → 0 < most → read most path d seen ≡ level (read (most - 1)) path d seen
unfolding read
read-level zero path d seen h = absurd (omega arith)
read-level (suc left) path d seen h = let same : left ≡ suc left - 1 = omega arith in ap (λ k. level (read k) path d seen) same
