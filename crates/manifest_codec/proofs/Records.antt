-- Records of objects, one after the other.
use Rattle.std.proofs.Common.{◌≡◌, ℕ, ℤ, ◌-◌, length, drop, Option, Some, None, List, [], ◌∷◌, ◌++◌, Result, Ok, Err, sym, ap, ◌∙◌, subst, append_assoc, inl, inr}
use Rattle.std.proofs.lemmas.List.{append-nil}
use Rattle.avro_container.specs.Container.{Pair}
use Rattle.avro_schema.specs.Form.{form_of}
use Rattle.avro_schema.specs.declared.schema.Field.{Field}
use Rattle.avro_schema.specs.declared.schema.Schema.{out-Schema}
use Rattle.avro_datum.specs.declared.datum.Datum.{Datum}
use Rattle.manifest_columns.specs.Shapes.{fields_of}
use Rattle.manifest_codec.specs.declared.container.Container.{Container as File}
use Rattle.manifest_codec.specs.declared.fault.ManifestCause.{ManifestCause}
use Rattle.manifest_codec.specs.declared.fault.ManifestErr.{ManifestErr}
use Rattle.manifest_codec.specs.declared.fault.ManifestErr.TheVariants as errors
use Rattle.manifest_codec.specs.declared.objects.Progress.{Progress}
use Rattle.manifest_codec.specs.Faults.{Fault, Fails, ◌>>=◌, at_schema}
use Rattle.manifest_codec.specs.Objects.{Objects, ended, stopped, object, in_blocks, objects_from, Steps}
use Rattle.manifest_codec.specs.Records.{AreEach, FaultIs}
use Rattle.manifest_codec.specs.Schemas.{Head, FieldsAre, Opens, head_at, file_at}
use Rattle.manifest_codec.proofs.Steps.{from_start}

-- What is read from the rest, with what was read before it, is what is read of all objects.
pub record GoesOn {A : Type 0} (Is : ℕ → Datum → A → Type 0) (IsBad : Datum → ℤ → Type 0) (all : Objects) (xs : List A) (rest : Objects) : Type 0 where
  pub whole : (more : List A) → AreEach Is rest more → AreEach Is all (xs ++ more)
  pub fault : (at : ℕ) (cause : ManifestCause) → FaultIs Is IsBad rest at cause → FaultIs Is IsBad all at cause

pub at_start : {A : Type 0} (Is : ℕ → Datum → A → Type 0) (IsBad : Datum → ℤ → Type 0) (all : Objects) → GoesOn Is IsBad all [] all
at_start Is IsBad all = record { whole = λ more h. h; fault = λ at cause h. h }

-- one more was read
pub one_more : {A : Type 0} (Is : ℕ → Datum → A → Type 0) (IsBad : Datum → ℤ → Type 0) (all rest : Objects) (xs : List A) (at : ℕ) (d : Datum) (x : A) → GoesOn Is IsBad all xs (object at d rest) → Is at d x → GoesOn Is IsBad all (xs ++ x ∷ []) rest
one_more {A = A} Is IsBad all rest xs at d x h is = record {
  whole = λ more m. let P : List A → Type 0 = AreEach Is all in subst P (sym (append_assoc xs (x ∷ []) more)) (h.whole (x ∷ more) (is, m));
  fault = λ place cause m. h.fault place cause (inr (x, is, m));
}

-- a fault excludes that the objects are read, where a bad field excludes that one is
pub apart : {A : Type 0} (Is : ℕ → Datum → A → Type 0) (IsBad : Datum → ℤ → Type 0) (all : Objects) (xs : List A) (at : ℕ) (cause : ManifestCause)
    → ((at : ℕ) (d : Datum) (x : A) (id : ℤ) → Is at d x → IsBad d id → ⊥) → AreEach Is all xs → FaultIs Is IsBad all at cause → ⊥
apart Is IsBad ended xs at cause e h f = f
apart Is IsBad (stopped c place) [] at cause e h f = h
apart Is IsBad (stopped c place) (x ∷ xs) at cause e h f = h
apart Is IsBad (object place d more) [] at cause e h f = h
apart Is IsBad (object place d more) (x ∷ xs) at cause e h (inl b) = e place d x b.0 h.0 b.3
apart Is IsBad (object place d more) (x ∷ xs) at cause e h (inr b) = apart Is IsBad more xs at cause e h.1 b.2

-- at the end of the objects all are read
pub all_read : {A : Type 0} (Is : ℕ → Datum → A → Type 0) (IsBad : Datum → ℤ → Type 0) (file : File) (bytes : List ℕ) (old new : Progress) (found : Option (ℕ × Datum)) (all : Objects) (xs : List A)
    → GoesOn Is IsBad all xs (objects_from file bytes old) → Steps file bytes old new (Ok found) → found ≡ None → AreEach Is all xs
all_read {A = A} Is IsBad file bytes old new None all xs h s e =
    let P : List A → Type 0 = AreEach Is all in
    let Q : Objects → Type 0 = λ rest. AreEach Is rest [] in
    subst P (append-nil xs) (h.whole [] (subst Q (sym s) tt))
all_read Is IsBad file bytes old new (Some x) all xs h s e = absurd cc

-- the fields, metadata and objects that a head gives
abbrev pub of_head : (Option (List Field) → Result (List Field) ManifestCause) → ℕ → Head → Result (List Field × List Pair × Objects) Fault
of_head check n h = at_schema (check (fields_of (out-Schema h.0))) >>= λ fs. Ok (fs, h.1, in_blocks (form_of h.0) h.2 n (length h.3) h.3)

-- a file that wasn't opened
pub not_opened : (check : Option (List Field) → Result (List Field) ManifestCause) (bytes : List ℕ) (e : ManifestErr) → Fails e (head_at bytes) → Fails e (file_at check bytes)
unfolding file_at
not_opened check bytes errors.Memory h = tt
not_opened check bytes (errors.Bad at cause) h = ap (λ (r : Result Head Fault). r >>= of_head check (length bytes)) h

-- one whose schema isn't wanted
pub not_checked : (check : Option (List Field) → Result (List Field) ManifestCause) (bytes : List ℕ) (file : File) (e : ManifestErr) → Opens bytes (Ok file) → FieldsAre (check (fields_of (out-Schema file.schema))) (Err e)
    → Fails e (file_at check bytes)
unfolding file_at
not_checked check bytes file errors.Memory o h = tt
not_checked check bytes file (errors.Bad at cause) o h =
    let rest = drop file.header.end bytes in
    ap (λ (r : Result Head Fault). r >>= of_head check (length bytes)) o.0
    ∙ ap (λ (r : Result (List Field) Fault). r >>= λ fs. Ok (fs, file.header.meta, in_blocks (form_of file.schema) file.header.sync (length bytes) (length rest) rest)) h

-- one whose schema is
pub opened : (check : Option (List Field) → Result (List Field) ManifestCause) (bytes : List ℕ) (file : File) (fs : List Field) (place : Progress) → Opens bytes (Ok file)
    → check (fields_of (out-Schema file.schema)) ≡ Ok fs
    → place ≡ record { from = file.header.end; to = file.header.end; at = 0; count = 0; next = file.header.end; blocks = length bytes - file.header.end }
    → file_at check bytes ≡ Ok (fs, file.header.meta, objects_from file bytes place)
unfolding file_at
opened check bytes file fs place o h at =
    let rest = drop file.header.end bytes in
    let start = from_start (form_of file.schema) file.header.sync bytes file.header.end o.1 in
    let objects : in_blocks (form_of file.schema) file.header.sync (length bytes) (length rest) rest ≡ objects_from file bytes place = sym (ap (objects_from file bytes) at ∙ start) in
    ap (λ (r : Result Head Fault). r >>= of_head check (length bytes)) o.0
    ∙ ap (λ (r : Result (List Field) ManifestCause). at_schema r >>= λ fs. Ok (fs, file.header.meta, in_blocks (form_of file.schema) file.header.sync (length bytes) (length rest) rest)) h
    ∙ ap (λ objects. Ok (fs, file.header.meta, objects)) objects
