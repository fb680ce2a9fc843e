-- What the public calls say.
use Rattle.std.proofs.Common.{◌≡◌, ℕ, List, [], ◌++◌, drop, Result, Ok, Err, sym, ap, ◌∙◌, IfOk, OnOk, OnErr, refl}
use Rattle.std.proofs.lemmas.List.{append_cancel_right, append-nil}
use Rattle.avro_schema.specs.Form.{Form}
use Rattle.avro_container.specs.Growth.{Grows}
use Rattle.avro_container.specs.Reading.{Read, Fault, end_of}
use Rattle.avro_container.proofs.Binding.{same_ok, same_value, same_rest, clash}
use Rattle.avro_datum.specs.declared.datum.Datum.{Datum}
use Rattle.avro_pieces.specs.declared.fault.DatumCause.{DatumCause}
use Rattle.avro_datum.specs.declared.fault.DatumErr.{DatumErr}
use Rattle.avro_datum.specs.declared.fault.DatumErr.TheVariants as errors
use Rattle.avro_pieces.specs.declared.fault.SkipErr.{SkipErr}
use Rattle.avro_datum.specs.Reading.{read, Makes, Ends, OnFault}
use Rattle.avro_datum.specs.Spelling.{IsSpelledAt, NoneAt, ValuesAreApart}
use Rattle.avro_datum.specs.Writing.{IsOf}
use Rattle.avro_datum.proofs.Found.{found}
use Rattle.avro_datum.proofs.Again.{again}
use Rattle.avro_datum.proofs.Values.{is_of}

pub found_at : (f : Form) (bytes : List ℕ) (at : ℕ) (r : Result (Datum × ℕ) DatumErr) → Makes bytes r (read f (drop at bytes)) → IfOk r (λ x. IsSpelledAt f x.0 bytes at x.1)
found_at f bytes at (Ok x) g = let front = found f (drop at bytes) x.0 (drop x.1 bytes) g.0 in (front.front, front.spells, front.is, g.1)
found_at f bytes at (Err e) g = tt

pub of_schema : (f : Form) (bytes : List ℕ) (at : ℕ) (r : Result (Datum × ℕ) DatumErr) → Makes bytes r (read f (drop at bytes)) → IfOk r (λ x. IsOf f x.0)
of_schema f bytes at (Ok x) g = let front = found f (drop at bytes) x.0 (drop x.1 bytes) g.0 in is_of f x.0 front.front front.spells
of_schema f bytes at (Err e) g = tt

none_read : (f : Form) (bytes : List ℕ) (at : ℕ) (w : Fault DatumCause) → read f (drop at bytes) ≡ Err w → NoneAt f bytes at
none_read f bytes at w h = λ d front rest s is. absurd (clash h (ap (read f) is ∙ again f d front rest s))

pub none_at : (f : Form) (bytes : List ℕ) (at : ℕ) (r : Result (Datum × ℕ) DatumErr) → Makes bytes r (read f (drop at bytes)) → OnFault r (NoneAt f bytes at)
none_at f bytes at (Ok x) g = tt
none_at f bytes at (Err errors.Memory) g = tt
none_at f bytes at (Err (errors.Bad place cause)) g = none_read f bytes at _ g.0

-- a value that was passed over was read
value_of_end : {A : Type 0} (r : Read DatumCause A) (rest : List ℕ) → end_of r ≡ Ok rest → (x : A) × (r ≡ Ok (x, rest))
value_of_end (Ok x) rest e = (x.0, ap (λ (r : List ℕ). Ok (x.0, r)) (same_ok e))
value_of_end (Err w) rest e = absurd cc

fault_of_end : {A : Type 0} (r : Read DatumCause A) (w : Fault DatumCause) → end_of r ≡ Err w → (v : Fault DatumCause) × (r ≡ Err v)
fault_of_end (Ok x) w e = absurd cc
fault_of_end (Err v) w e = (v, refl)

pub passed_at : (f : Form) (bytes : List ℕ) (at : ℕ) (r : Result ℕ SkipErr) → Ends bytes r (read f (drop at bytes)) → IfOk r (λ end. (d : Datum) × IsSpelledAt f d bytes at end)
passed_at f bytes at (Ok end) g =
    let value = value_of_end (read f (drop at bytes)) (drop end bytes) g.0 in
    let front = found f (drop at bytes) value.0 (drop end bytes) value.1 in (value.0, (front.front, front.spells, front.is, g.1))
passed_at f bytes at (Err e) g = tt

pub none_passed : (f : Form) (bytes : List ℕ) (at : ℕ) (r : Result ℕ SkipErr) → Ends bytes r (read f (drop at bytes)) → OnErr r (NoneAt f bytes at)
none_passed f bytes at (Ok end) g = tt
none_passed f bytes at (Err e) g = let fault = fault_of_end (read f (drop at bytes)) _ g.0 in none_read f bytes at fault.0 fault.1

pub apart : ValuesAreApart
apart f d e a b x y s t eq =
    let both = sym (again f d a x s) ∙ ap (read f) eq ∙ again f e b y t in
    let rests : x ≡ y = same_rest both in
    (append_cancel_right a b x (eq ∙ ap (λ r. b ++ r) (sym rests)), same_value both)

-- a write that leaves all or nothing only adds
pub grows_by : {A E : Type 0} (r : Result A E) (old new more : List ℕ) → OnOk r (new ≡ old ++ more) → OnErr r (new ≡ old) → Grows old new
grows_by (Ok x) old new more ok err = record { more = more; is = ok }
grows_by (Err e) old new more ok err = record { more = []; is = err ∙ sym (append-nil old) }
