-- What is read is spelled so.
use Rattle.std.proofs.Common.{◌≡◌, ℕ, zero, suc, ℤ, pos, negsuc, ◌<◌, ◌^◌, List, [], ◌∷◌, length, Ok, refl, sym, ap, ◌∙◌, subst, Bool, true, false, ◌&&◌, nat_lt, ltb-true}
use Rattle.std.specs.Str.{IsUtf8}
use Rattle.avro_schema.specs.Form.{Form, null, boolean, int, long, float4, float8, bytes as blob, string, fixed, choice, array, pairs, fields, union, Forms, no_forms, form}
use Rattle.avro_container.specs.Long.{SpellsLong}
use Rattle.avro_container.specs.Spelling.{Joins, SpellsText, Fronts}
use Rattle.avro_container.specs.Reading.{Read, ◌>>=◌, number_at, bytes_at, blob_at, string_at, blocks_at}
use Rattle.avro_container.proofs.Binding.{same_value, same_rest, bind_ok, pass_ok, joined, as_spelled, ends_at, IsFound}
use Rattle.avro_container.proofs.Found.{number_found, bytes_found, blob_found, string_found, ahead_found, blocks_found}
use Rattle.avro_pieces.specs.declared.fault.DatumCause.{DatumCause}
use Rattle.avro_pieces.specs.declared.fault.DatumCause.TheVariants.{NumberTooLong, BadBranch, BadEnum}
use Rattle.avro_datum.specs.declared.datum.Datum.{Datum}
use Rattle.avro_datum.specs.declared.datum.Datum.TheVariants.{Bool as Truth, Int, Long, Float4, Float8, Blob, Str, Fix, Choice, List as Array, Pairs, Fields, Branch}
use Rattle.avro_datum.specs.Spelling.{IsInt, truth_byte, most_items, SpellsEntry, Spells, SpellsAll, SpellsNth}
use Rattle.avro_datum.specs.Reading.{entry_at, count_of, read, read_all, read_nth}
use Rattle.avro_pieces.specs.Pieces.{causes, narrow, int_at, position, position_at, bool_at}

narrow_found : (left : ℕ) (n : ℤ × List ℕ) (k : ℤ) (rest : List ℕ) → narrow left n ≡ Ok (k, rest) → IsInt k × (n ≡ (k, rest))
narrow_found left (pos n, r) k rest e =
    let test = pass_ok (nat_lt n (2 ^ 31)) (NumberTooLong, left) (pos n, r) (k, rest) e in
    (subst IsInt (ap (λ p. p.0) test.1) (ltb-true n (2 ^ 31) test.0), test.1)
narrow_found left (negsuc n, r) k rest e =
    let test = pass_ok (nat_lt n (2 ^ 31)) (NumberTooLong, left) (negsuc n, r) (k, rest) e in
    (subst IsInt (ap (λ p. p.0) test.1) (ltb-true n (2 ^ 31) test.0), test.1)

int_found : (bytes : List ℕ) (n : ℤ) (rest : List ℕ) → int_at bytes ≡ Ok (n, rest) → IsInt n × Fronts (λ b. SpellsLong b n) bytes rest
unfolding int_at
int_found bytes n rest e =
    let got = bind_ok (number_at causes bytes) (narrow (length bytes)) (n, rest) e in
    let parts = narrow_found (length bytes) got.0 n rest got.2 in
    let same : got.0.0 ≡ n = ap (λ p. p.0) parts.1 in
    (parts.0, ends_at (ap (λ p. p.1) parts.1) (as_spelled (λ b s. subst (λ z. SpellsLong b z) same s) (number_found causes bytes got.0.0 got.0.1 got.1)))

both : (a b : Bool) → (a && b) ≡ true → (a ≡ true) × (b ≡ true)
both true b e = (refl, e)
both false b e = absurd cc

position_from : (above : DatumCause) (count left : ℕ) (n : ℤ × List ℕ) (k : ℕ) (rest : List ℕ) → position above count left n ≡ Ok (k, rest) → (k < count) × (k < 2 ^ 32) × (n ≡ (pos k, rest))
position_from above count left (pos n, r) k rest e =
    let test = pass_ok (nat_lt n count && nat_lt n (2 ^ 32)) (above, left) (n, r) (k, rest) e in
    let parts = both (nat_lt n count) (nat_lt n (2 ^ 32)) test.0 in
    let same : n ≡ k = ap (λ p. p.0) test.1 in
    (subst (λ m. m < count) same (ltb-true n count parts.0), subst (λ m. m < 2 ^ 32) same (ltb-true n (2 ^ 32) parts.1), ap (λ p. (pos p.0, p.1)) test.1)
position_from above count left (negsuc n, r) k rest e = absurd cc

position_found : (above : DatumCause) (count : ℕ) (bytes : List ℕ) (k : ℕ) (rest : List ℕ) → position_at above count bytes ≡ Ok (k, rest) → (k < count) × (k < 2 ^ 32) × Fronts (λ b. SpellsLong b (pos k)) bytes rest
unfolding position_at
position_found above count bytes k rest e =
    let got = bind_ok (number_at causes bytes) (position above count (length bytes)) (k, rest) e in
    let parts = position_from above count (length bytes) got.0 k rest got.2 in
    let same : got.0.0 ≡ pos k = ap (λ p. p.0) parts.2 in
    (parts.0, parts.1, ends_at (ap (λ p. p.1) parts.2) (as_spelled (λ b s. subst (λ z. SpellsLong b z) same s) (number_found causes bytes got.0.0 got.0.1 got.1)))

bool_found : (bytes : List ℕ) (t : Bool) (rest : List ℕ) → bool_at bytes ≡ Ok (t, rest) → Fronts (λ b. b ≡ truth_byte t ∷ []) bytes rest
unfolding bool_at
bool_found [] t rest e = absurd cc
bool_found (zero ∷ bs) t rest e = subst (λ u. Fronts (λ b. b ≡ truth_byte u ∷ []) (0 ∷ bs) rest) (same_value e) (record { front = 0 ∷ []; spells = refl; is = ap (λ r. 0 ∷ r) (same_rest e) })
bool_found (suc zero ∷ bs) t rest e = subst (λ u. Fronts (λ b. b ≡ truth_byte u ∷ []) (1 ∷ bs) rest) (same_value e) (record { front = 1 ∷ []; spells = refl; is = ap (λ r. 1 ∷ r) (same_rest e) })
bool_found (suc (suc c) ∷ bs) t rest e = absurd cc

-- so many bytes, which are the value
part_found : (n : ℕ) (bytes part rest : List ℕ) → bytes_at causes n bytes ≡ Ok (part, rest) → Fronts (λ b. (part ≡ b) × (length b ≡ n)) bytes rest
part_found n bytes part rest e = let found = bytes_found causes n bytes part rest e in record { front = part; spells = (refl, found.1); is = found.0 }

entry_found : (P : Datum → List ℕ → Type 0) (item : List ℕ → Read DatumCause Datum) → IsFound P item → IsFound (SpellsEntry P) (entry_at item)
unfolding entry_at SpellsEntry
entry_found P item h bytes x rest e =
    let key = bind_ok (string_at causes bytes) (λ k. item k.1 >>= λ d. Ok ((k.0, d.0), d.1)) (x, rest) e in
    let val = bind_ok (item key.0.1) (λ d. Ok ((key.0.0, d.0), d.1)) (x, rest) key.2 in
    let front = string_found causes bytes key.0.0 key.0.1 key.1 in
    let text : Fronts (SpellsText key.0.0) bytes key.0.1 = record { front = front.front; spells = front.spells.1; is = front.is } in
    let both = joined text (h key.0.1 val.0.0 val.0.1 val.1) in
    let whole : Fronts (λ b. IsUtf8 key.0.0 × Joins (SpellsText key.0.0) (P val.0.0) b) bytes val.0.1 = as_spelled (λ b s. (front.spells.0, s)) both in
    ends_at (same_rest val.2) (subst (λ y. Fronts (λ b. IsUtf8 y.0 × Joins (SpellsText y.0) (P y.1) b) bytes val.0.1) (same_value val.2) whole)

mutual
  unfolding read Spells

  pub found : (f : Form) (bytes : List ℕ) (d : Datum) (rest : List ℕ) → read f bytes ≡ Ok (d, rest) → Fronts (Spells f d) bytes rest
  found null bytes d rest e = record { front = []; spells = (sym (same_value e), refl); is = same_rest e }
  found boolean bytes d rest e =
      let got = bind_ok (bool_at bytes) (λ b. Ok (Truth b.0, b.1)) (d, rest) e in
      ends_at (same_rest got.2) (as_spelled (λ b s. (got.0.0, sym (same_value got.2), s)) (bool_found bytes got.0.0 got.0.1 got.1))
  found int bytes d rest e =
      let got = bind_ok (int_at bytes) (λ n. Ok (Int n.0, n.1)) (d, rest) e in
      let number = int_found bytes got.0.0 got.0.1 got.1 in
      ends_at (same_rest got.2) (as_spelled (λ b s. (got.0.0, sym (same_value got.2), number.0, s)) number.1)
  found long bytes d rest e =
      let got = bind_ok (number_at causes bytes) (λ n. Ok (Long n.0, n.1)) (d, rest) e in
      ends_at (same_rest got.2) (as_spelled (λ b s. (got.0.0, sym (same_value got.2), s)) (number_found causes bytes got.0.0 got.0.1 got.1))
  found float4 bytes d rest e =
      let got = bind_ok (bytes_at causes 4 bytes) (λ b. Ok (Float4 b.0, b.1)) (d, rest) e in
      ends_at (same_rest got.2) (as_spelled (λ b s. (sym (same_value got.2) ∙ ap Float4 s.0, s.1)) (part_found 4 bytes got.0.0 got.0.1 got.1))
  found float8 bytes d rest e =
      let got = bind_ok (bytes_at causes 8 bytes) (λ b. Ok (Float8 b.0, b.1)) (d, rest) e in
      ends_at (same_rest got.2) (as_spelled (λ b s. (sym (same_value got.2) ∙ ap Float8 s.0, s.1)) (part_found 8 bytes got.0.0 got.0.1 got.1))
  found blob bytes d rest e =
      let got = bind_ok (blob_at causes bytes) (λ b. Ok (Blob b.0, b.1)) (d, rest) e in
      ends_at (same_rest got.2) (as_spelled (λ b s. (got.0.0, sym (same_value got.2), s)) (blob_found causes bytes got.0.0 got.0.1 got.1))
  found string bytes d rest e =
      let got = bind_ok (string_at causes bytes) (λ s. Ok (Str s.0, s.1)) (d, rest) e in
      ends_at (same_rest got.2) (as_spelled (λ b s. (got.0.0, sym (same_value got.2), s.0, s.1)) (string_found causes bytes got.0.0 got.0.1 got.1))
  found (fixed n) bytes d rest e =
      let got = bind_ok (bytes_at causes n bytes) (λ b. Ok (Fix b.0, b.1)) (d, rest) e in
      ends_at (same_rest got.2) (as_spelled (λ b s. (sym (same_value got.2) ∙ ap Fix s.0, s.1)) (part_found n bytes got.0.0 got.0.1 got.1))
  found (choice n) bytes d rest e =
      let got = bind_ok (position_at BadEnum n bytes) (λ k. Ok (Choice k.0, k.1)) (d, rest) e in
      let symbol = position_found BadEnum n bytes got.0.0 got.0.1 got.1 in
      ends_at (same_rest got.2) (as_spelled (λ b s. (got.0.0, sym (same_value got.2), symbol.0, symbol.1, s)) symbol.2)
  found (array f) bytes d rest e =
      let got = bind_ok (blocks_at causes (read f) (suc (length bytes)) most_items bytes) (λ ds. Ok (Array ds.0, ds.1)) (d, rest) e in
      ends_at (same_rest got.2) (as_spelled (λ b s. (got.0.0, sym (same_value got.2), s)) (blocks_found causes (Spells f) (read f) (found f) (suc (length bytes)) most_items bytes got.0.0 got.0.1 got.1))
  found (pairs f) bytes d rest e =
      let got = bind_ok (blocks_at causes (entry_at (read f)) (suc (length bytes)) most_items bytes) (λ ds. Ok (Pairs ds.0, ds.1)) (d, rest) e in
      ends_at (same_rest got.2) (as_spelled (λ b s. (got.0.0, sym (same_value got.2), s)) (blocks_found causes (SpellsEntry (Spells f)) (entry_at (read f)) (entry_found (Spells f) (read f) (found f)) (suc (length bytes)) most_items bytes got.0.0 got.0.1 got.1))
  found (fields fs) bytes d rest e =
      let got = bind_ok (read_all fs bytes) (λ ds. Ok (Fields ds.0, ds.1)) (d, rest) e in
      ends_at (same_rest got.2) (as_spelled (λ b s. (got.0.0, sym (same_value got.2), s)) (found_all fs bytes got.0.0 got.0.1 got.1))
  found (union fs) bytes d rest e =
      let pair = bind_ok (position_at BadBranch (count_of fs) bytes) (λ n. read_nth fs n.0 n.1 >>= λ d. Ok (Branch n.0 d.0, d.1)) (d, rest) e in
      let inner = bind_ok (read_nth fs pair.0.0 pair.0.1) (λ d. Ok (Branch pair.0.0 d.0, d.1)) (d, rest) pair.2 in
      let branch = position_found BadBranch (count_of fs) bytes pair.0.0 pair.0.1 pair.1 in
      ends_at (same_rest inner.2) (as_spelled (λ b s. (pair.0.0, inner.0.0, sym (same_value inner.2), branch.1, s))
      (joined branch.2 (found_nth fs pair.0.0 pair.0.1 inner.0.0 inner.0.1 inner.1)))

  pub found_all : (fs : Forms) (bytes : List ℕ) (ds : List Datum) (rest : List ℕ) → read_all fs bytes ≡ Ok (ds, rest) → Fronts (SpellsAll fs ds) bytes rest
  found_all no_forms bytes ds rest e =
      subst (λ es. Fronts (SpellsAll no_forms es) bytes rest) (same_value e) (record { front = []; spells = refl; is = same_rest e })
  found_all (form f fs) bytes ds rest e =
      let a = ahead_found (read f bytes) (read_all fs) ds rest e in
      subst (λ es. Fronts (SpellsAll (form f fs) es) bytes rest) a.5 (joined (found f bytes a.0 a.1 a.3) (found_all fs a.1 a.2 rest a.4))

  pub found_nth : (fs : Forms) (n : ℕ) (bytes : List ℕ) (d : Datum) (rest : List ℕ) → read_nth fs n bytes ≡ Ok (d, rest) → Fronts (SpellsNth fs n d) bytes rest
  found_nth no_forms n bytes d rest e = absurd cc
  found_nth (form f fs) zero bytes d rest e = found f bytes d rest e
  found_nth (form f fs) (suc n) bytes d rest e = found_nth fs n bytes d rest e
