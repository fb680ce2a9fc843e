-- Values of a type are values of the Avro type that it maps to.
use Rattle.std.proofs.Common.{◌≡◌, ℕ, ℤ, Bool, true, false, ◌&&◌, ◌==◌, Option, Some, None, is_some, refl, sym, ap, ◌∙◌, rules, if◌then◌else◌}
use Rattle.std.proofs.lemmas.Bool.{eq-eqb}
use Rattle.avro_schema.specs.declared.schema.Field.{Field}
use Rattle.avro_schema.specs.declared.schema.Logical.{Logical}
use Rattle.avro_schema.specs.declared.schema.Logical.TheVariants as logical
use Rattle.avro_schema.specs.declared.schema.Schema.{Schema}
use Rattle.avro_schema.specs.declared.schema.Schema.TheOpen.{Schema-F}
use Rattle.avro_schema.specs.declared.schema.Schema.TheVariants as avro
use Rattle.avro_schema.specs.declared.schema.Schema.TheVariants.{outs-Bool, outs-Int, outs-Long, outs-Float4, outs-Float8, outs-Blob, outs-Str, outs-Fix}
use Rattle.schema_types.specs.declared.types.ColType.{ColType, out-ColType, roll-ColType, the_lemmas}
use Rattle.schema_types.specs.declared.types.ColType.TheViews.{roll-out-ColType}
use Rattle.schema_types.specs.declared.types.ColType.TheOpen.{ColType-F}
use Rattle.schema_types.specs.declared.types.ColType.TheVariants.{Boolean, Int, Long, Float, Double, Decimal, Date, Time, Timestamp, Timestamptz, Str, Uuid, Fixed, Binary, rolls-Boolean, rolls-Int, rolls-Long, rolls-Float, rolls-Double, rolls-Decimal, rolls-Date, rolls-Time, rolls-Timestamp, rolls-Timestamptz, rolls-Str, rolls-Uuid, rolls-Fixed, rolls-Binary}
use Rattle.ice_schema.specs.declared.projection.Projection.{Projection}
use Rattle.ice_schema.specs.declared.projection.Projection.TheVariants.{Kept, Widened}
use Rattle.ice_schema.specs.Kinds.{is_boolean, is_boolean_layer, is_float, is_float_layer, is_double, is_double_layer, int_of, int_of_layer, long_of, long_of_layer, bytes_of, bytes_of_layer, string_of, string_of_layer, fixed_of_layer, size_of_layer, is_plain, is_date, is_time, is_timestamp, is_timestamptz, is_decimal, is_uuid}
use Rattle.ice_schema.specs.Names.{fixed_name}
use Rattle.ice_schema.specs.Mapping.{avro_type, decimal_size}
use Rattle.ice_schema.specs.Projections.{kept, long_projection, decimal_projection, uuid_projection, fixed_projection, type_projection}
use Rattle.manifest_parts.specs.Parts.{fits_type}
use Rattle.manifest_parts.specs.Laws.{is_primitive}

-- a type fits what it maps to
Fits : ColType → Type 0
Fits t = (id : ℤ) → fits_type t (avro_type t id) ≡ true

-- by what it maps to, and by what is taken of it
fit : (u : ColType) (s : ℤ → Schema) (p : Schema → Option Projection) → ((id : ℤ) → avro_type u id ≡ s id) → ((x : Schema) → type_projection u x ≡ p x) → ((id : ℤ) → is_some (p (s id)) ≡ true) → Fits u
unfolding Fits
fit u s p a b c id = ap (λ (x : Schema). is_some (type_projection u x)) (a id) ∙ ap is_some (b (s id)) ∙ c id

at : (t u : ColType) → t ≡ u → Fits u → Fits t
unfolding Fits
at t u e h id = ap (λ (v : ColType). fits_type v (avro_type v id)) e ∙ h id

both : (a b : Bool) → a ≡ true → b ≡ true → (a && b) ≡ true
both true true e f = refl
both true false e f = absurd cc
both false b e f = absurd cc

kept_if : (b : Bool) → b ≡ true → is_some (kept b) ≡ true
kept_if true e = refl
kept_if false e = absurd cc

decimal_fits : (precision scale : ℕ) (id : ℤ) → is_some (decimal_projection precision scale (avro.Fix (fixed_name id) (decimal_size precision) (logical.Decimal precision scale))) ≡ true
decimal_fits precision scale id =
    ap (λ (t : Schema-F Schema Field). is_some (kept (is_decimal precision scale (fixed_of_layer t) && size_of_layer t == decimal_size precision))) (outs-Fix (fixed_name id) (decimal_size precision) (logical.Decimal precision scale))
    ∙ kept_if _ (both _ _ (both _ _ (eq-eqb precision precision refl) (eq-eqb scale scale refl)) (eq-eqb (decimal_size precision) (decimal_size precision) refl))

uuid_fits : (id : ℤ) → is_some (uuid_projection (avro.Fix (fixed_name id) 16 logical.Uuid)) ≡ true
uuid_fits id = ap (λ (t : Schema-F Schema Field). is_some (kept (is_uuid (fixed_of_layer t) && size_of_layer t == 16))) (outs-Fix (fixed_name id) 16 logical.Uuid)

fixed_fits : (length : ℕ) (id : ℤ) → is_some (fixed_projection length (avro.Fix (fixed_name id) length logical.Plain)) ≡ true
fixed_fits length id =
    ap (λ (t : Schema-F Schema Field). is_some (kept (is_plain (fixed_of_layer t) && size_of_layer t == length))) (outs-Fix (fixed_name id) length logical.Plain)
    ∙ kept_if _ (eq-eqb length length refl)

int_fits : (l : Logical) (test : Option Logical → Bool) → test (Some l) ≡ true → is_some (kept (test (int_of (avro.Int l)))) ≡ true
int_fits l test e = ap (λ (t : Schema-F Schema Field). is_some (kept (test (int_of_layer t)))) (outs-Int l) ∙ kept_if (test (Some l)) e

long_fits : (l : Logical) (test : Option Logical → Bool) → test (Some l) ≡ true → is_some (kept (test (long_of (avro.Long l)))) ≡ true
long_fits l test e = ap (λ (t : Schema-F Schema Field). is_some (kept (test (long_of_layer t)))) (outs-Long l) ∙ kept_if (test (Some l)) e

widened_fits : is_some (long_projection (avro.Long logical.Plain)) ≡ true
widened_fits = ap (λ (t : Schema-F Schema Field). is_some (if is_plain (long_of_layer t) then Some Kept else (if is_plain (int_of (avro.Long logical.Plain)) then Some Widened else None))) (outs-Long logical.Plain)

-- A type that has no types within it fits what it maps to.
pub type_fits : (t : ColType) → is_primitive (out-ColType t) ≡ true → (id : ℤ) → fits_type t (avro_type t id) ≡ true
unfolding Fits
type_fits t = elim (out-ColType t) as (λ o. roll-ColType o ≡ t → is_primitive o ≡ true → Fits t) [
  | ColType-F.Boolean ↦ λ e p. at t Boolean (sym e ∙ rolls-Boolean) (fit Boolean (λ id. avro.Bool) (λ x. kept (is_boolean x)) (λ id. search (rules, the_lemmas)) (λ x. search (rules, the_lemmas)) (λ id. ap (λ (o : Schema-F Schema Field). is_some (kept (is_boolean_layer o))) outs-Bool))
  | ColType-F.Int ↦ λ e p. at t Int (sym e ∙ rolls-Int) (fit Int (λ id. avro.Int logical.Plain) (λ x. kept (is_plain (int_of x))) (λ id. search (rules, the_lemmas)) (λ x. search (rules, the_lemmas)) (λ id. int_fits logical.Plain is_plain refl))
  | ColType-F.Long ↦ λ e p. at t Long (sym e ∙ rolls-Long) (fit Long (λ id. avro.Long logical.Plain) long_projection (λ id. search (rules, the_lemmas)) (λ x. search (rules, the_lemmas)) (λ id. widened_fits))
  | ColType-F.Float ↦ λ e p. at t Float (sym e ∙ rolls-Float) (fit Float (λ id. avro.Float4) (λ x. kept (is_float x)) (λ id. search (rules, the_lemmas)) (λ x. search (rules, the_lemmas)) (λ id. ap (λ (o : Schema-F Schema Field). is_some (kept (is_float_layer o))) outs-Float4))
  | ColType-F.Double ↦ λ e p. at t Double (sym e ∙ rolls-Double) (fit Double (λ id. avro.Float8) (λ x. kept (is_double x)) (λ id. search (rules, the_lemmas)) (λ x. search (rules, the_lemmas)) (λ id. ap (λ (o : Schema-F Schema Field). is_some (kept (is_double_layer o))) outs-Float8))
  | ColType-F.Decimal precision scale ↦ λ e p. at t (Decimal precision scale) (sym e ∙ rolls-Decimal precision scale) (fit (Decimal precision scale) (λ id. avro.Fix (fixed_name id) (decimal_size precision) (logical.Decimal precision scale)) (decimal_projection precision scale) (λ id. search (rules, the_lemmas)) (λ x. search (rules, the_lemmas)) (decimal_fits precision scale))
  | ColType-F.Date ↦ λ e p. at t Date (sym e ∙ rolls-Date) (fit Date (λ id. avro.Int logical.Date) (λ x. kept (is_date (int_of x))) (λ id. search (rules, the_lemmas)) (λ x. search (rules, the_lemmas)) (λ id. int_fits logical.Date is_date refl))
  | ColType-F.Time ↦ λ e p. at t Time (sym e ∙ rolls-Time) (fit Time (λ id. avro.Long logical.TimeMicros) (λ x. kept (is_time (long_of x))) (λ id. search (rules, the_lemmas)) (λ x. search (rules, the_lemmas)) (λ id. long_fits logical.TimeMicros is_time refl))
  | ColType-F.Timestamp ↦ λ e p. at t Timestamp (sym e ∙ rolls-Timestamp) (fit Timestamp (λ id. avro.Long (logical.TimestampMicros false)) (λ x. kept (is_timestamp (long_of x))) (λ id. search (rules, the_lemmas)) (λ x. search (rules, the_lemmas)) (λ id. long_fits (logical.TimestampMicros false) is_timestamp refl))
  | ColType-F.Timestamptz ↦ λ e p. at t Timestamptz (sym e ∙ rolls-Timestamptz) (fit Timestamptz (λ id. avro.Long (logical.TimestampMicros true)) (λ x. kept (is_timestamptz (long_of x))) (λ id. search (rules, the_lemmas)) (λ x. search (rules, the_lemmas)) (λ id. long_fits (logical.TimestampMicros true) is_timestamptz refl))
  | ColType-F.Str ↦ λ e p. at t Str (sym e ∙ rolls-Str) (fit Str (λ id. avro.Str logical.Plain) (λ x. kept (is_plain (string_of x))) (λ id. search (rules, the_lemmas)) (λ x. search (rules, the_lemmas)) (λ id. ap (λ (o : Schema-F Schema Field). is_some (kept (is_plain (string_of_layer o)))) (outs-Str logical.Plain)))
  | ColType-F.Uuid ↦ λ e p. at t Uuid (sym e ∙ rolls-Uuid) (fit Uuid (λ id. avro.Fix (fixed_name id) 16 logical.Uuid) uuid_projection (λ id. search (rules, the_lemmas)) (λ x. search (rules, the_lemmas)) uuid_fits)
  | ColType-F.Fixed length ↦ λ e p. at t (Fixed length) (sym e ∙ rolls-Fixed length) (fit (Fixed length) (λ id. avro.Fix (fixed_name id) length logical.Plain) (fixed_projection length) (λ id. search (rules, the_lemmas)) (λ x. search (rules, the_lemmas)) (fixed_fits length))
  | ColType-F.Binary ↦ λ e p. at t Binary (sym e ∙ rolls-Binary) (fit Binary (λ id. avro.Blob logical.Plain) (λ x. kept (is_plain (bytes_of x))) (λ id. search (rules, the_lemmas)) (λ x. search (rules, the_lemmas)) (λ id. ap (λ (o : Schema-F Schema Field). is_some (kept (is_plain (bytes_of_layer o)))) (outs-Blob logical.Plain)))
  | ColType-F.Struct columns ↦ λ e p. absurd cc
  | ColType-F.List element_id required element ↦ λ e p. absurd cc
  | ColType-F.Map key_id key value_id required value ↦ λ e p. absurd cc
] (roll-out-ColType t)
