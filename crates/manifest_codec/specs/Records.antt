-- What the objects of a file are records of: rows, or entries. `Is at d x` says that the object d, which begins at the place, stands for x, and
-- `IsBad d id` that it stands for nothing, as the field of this id holds no value of its kind.
use Rattle.std.specs.Prelude.{◌≡◌, ℕ, List, [], ◌∷◌, ℤ, Result, Ok, Err, ◌⊎◌}
use Rattle.avro_datum.specs.declared.datum.Datum.{Datum}
use Rattle.manifest_codec.specs.declared.fault.ManifestCause.{ManifestCause}
use Rattle.manifest_codec.specs.declared.fault.ManifestCause.TheVariants.{BadField}
use Rattle.manifest_codec.specs.declared.fault.ManifestErr.{ManifestErr}
use Rattle.manifest_codec.specs.declared.fault.ManifestErr.TheVariants as errors
use Rattle.manifest_codec.specs.Objects.{Objects, ended, stopped, object}

-- The objects stand for these, one for each.
abbrev pub AreEach : {A : Type 0} → (ℕ → Datum → A → Type 0) → Objects → List A → Type 0
AreEach Is ended [] = Unit {0}
AreEach Is (object at d more) (x ∷ xs) = Is at d x × AreEach Is more xs
AreEach Is _ _ = ⊥

-- The first fault of the objects has the place and the cause: their own, or a bad field.
abbrev pub FaultIs : {A : Type 0} → (ℕ → Datum → A → Type 0) → (Datum → ℤ → Type 0) → Objects → ℕ → ManifestCause → Type 0
FaultIs Is IsBad ended at cause = ⊥
FaultIs Is IsBad (stopped c place) at cause = (place ≡ at) × (c ≡ cause)
FaultIs {A = A} Is IsBad (object place d more) at cause =
    ((id : ℤ) × (place ≡ at) × (cause ≡ BadField id) × IsBad d id)
    ⊎ ((x : A) × Is place d x × FaultIs Is IsBad more at cause)

-- What one object stands for, or its bad field.
abbrev pub GivesOne : {A : Type 0} → (ℕ → Datum → A → Type 0) → (Datum → ℤ → Type 0) → ℕ → Datum → Result A ManifestErr → Type 0
GivesOne Is IsBad at d (Ok x) = Is at d x
GivesOne Is IsBad at d (Err errors.Memory) = Unit {0}
GivesOne Is IsBad at d (Err (errors.Bad place cause)) = (id : ℤ) × (at ≡ place) × (cause ≡ BadField id) × IsBad d id

-- What the objects stand for, or the first fault.
abbrev pub GivesEach : {A : Type 0} → (ℕ → Datum → A → Type 0) → (Datum → ℤ → Type 0) → Objects → Result (List A) ManifestErr → Type 0
GivesEach Is IsBad objects (Ok xs) = AreEach Is objects xs
GivesEach Is IsBad objects (Err errors.Memory) = Unit {0}
GivesEach Is IsBad objects (Err (errors.Bad at cause)) = FaultIs Is IsBad objects at cause
