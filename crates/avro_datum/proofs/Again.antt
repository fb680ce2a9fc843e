-- What is spelled so is read, whatever follows.
use Rattle.std.proofs.Common.{◌≡◌, ℕ, zero, suc, ℤ, pos, negsuc, ◌<◌, ◌^◌, List, [], ◌∷◌, ◌++◌, length, Ok, refl, sym, ap, ◌∙◌, arith, Bool, true, false, lt-ltb, length-append}
use Rattle.avro_schema.specs.Form.{Form, null, boolean, int, long, float4, float8, bytes as blob, string, fixed, choice, array, pairs, fields, union, Forms, no_forms, form}
use Rattle.avro_container.specs.Long.{SpellsLong}
use Rattle.avro_container.specs.Reading.{Read, ◌>>=◌, bytes_at, string_at, ahead}
use Rattle.avro_container.proofs.Binding.{regrouped, IsRead}
use Rattle.avro_container.proofs.Again.{number_again, bytes_again, blob_again, string_again, ahead_again, blocks_again}
use Rattle.avro_pieces.specs.declared.fault.DatumCause.{DatumCause}
use Rattle.avro_pieces.specs.declared.fault.DatumCause.TheVariants.{BadBranch, BadEnum}
use Rattle.avro_datum.specs.declared.datum.Datum.{Datum}
use Rattle.avro_datum.specs.declared.datum.Datum.TheVariants.{Null, Bool as Truth, Int, Long, Float4, Float8, Blob, Str, Fix, Choice, List as Array, Pairs, Fields, Branch}
use Rattle.avro_datum.specs.Spelling.{IsInt, truth_byte, SpellsEntry, Spells, SpellsAll, SpellsNth}
use Rattle.avro_datum.specs.Reading.{entry_at, count_of, read, read_all, read_nth}
use Rattle.avro_pieces.specs.Pieces.{causes, narrow, int_at, position, position_at, bool_at}

narrow_again : (left : ℕ) (n : ℤ) (rest : List ℕ) → IsInt n → narrow left (n, rest) ≡ Ok (n, rest)
narrow_again left (pos n) rest h = rw (lt-ltb n (2 ^ 31) h) refl
narrow_again left (negsuc n) rest h = rw (lt-ltb n (2 ^ 31) h) refl

int_again : (b rest : List ℕ) (n : ℤ) → IsInt n → SpellsLong b n → int_at (b ++ rest) ≡ Ok (n, rest)
unfolding int_at
int_again b rest n h s = ap (λ r. r >>= narrow (length (b ++ rest))) (number_again causes b rest n s) ∙ narrow_again (length (b ++ rest)) n rest h

position_again : (above : DatumCause) (count : ℕ) (b rest : List ℕ) (n : ℕ) → n < count → n < 2 ^ 32 → SpellsLong b (pos n) → position_at above count (b ++ rest) ≡ Ok (n, rest)
unfolding position_at
position_again above count b rest n h small s =
    ap (λ r. r >>= position above count (length (b ++ rest))) (number_again causes b rest (pos n) s)
    ∙ rw (lt-ltb n count h, lt-ltb n (2 ^ 32) small) refl

count_nth : (fs : Forms) (n : ℕ) (d : Datum) (b : List ℕ) → SpellsNth fs n d b → n < count_of fs
unfolding Spells
count_nth no_forms n d b s = absurd s
count_nth (form f fs) zero d b s = omega arith
count_nth (form f fs) (suc n) d b s = omega (arith, count_nth fs n d b s)

bool_again : (t : Bool) (rest : List ℕ) → bool_at (truth_byte t ∷ rest) ≡ Ok (t, rest)
unfolding bool_at
bool_again false rest = refl
bool_again true rest = refl

-- so many bytes
part_again : (n : ℕ) (b rest : List ℕ) → length b ≡ n → bytes_at causes n (b ++ rest) ≡ Ok (b, rest)
part_again n b rest e = ap (λ m. bytes_at causes m (b ++ rest)) (sym e) ∙ bytes_again causes b rest

entry_again : (P : Datum → List ℕ → Type 0) (item : List ℕ → Read DatumCause Datum) → IsRead P item → IsRead (SpellsEntry P) (entry_at item)
unfolding entry_at SpellsEntry
entry_again P item h x b rest s =
    ap (λ y. string_at causes y >>= λ k. item k.1 >>= λ d. Ok ((k.0, d.0), d.1)) (regrouped b rest s.1)
    ∙ ap (λ r. r >>= λ k. item k.1 >>= λ d. Ok ((k.0, d.0), d.1)) (string_again causes s.1.front (s.1.rest ++ rest) x.0 s.0 s.1.first)
    ∙ ap (λ r. r >>= λ d. Ok ((x.0, d.0), d.1)) (h x.1 s.1.rest rest s.1.second)

mutual
  unfolding read Spells

  pub again : (f : Form) (d : Datum) (b rest : List ℕ) → Spells f d b → read f (b ++ rest) ≡ Ok (d, rest)
  again null d b rest s = ap (λ x. Ok (Null, x ++ rest)) s.1 ∙ ap (λ e. Ok (e, rest)) (sym s.0)
  again boolean d b rest s = ap (λ x. bool_at (x ++ rest) >>= λ b. Ok (Truth b.0, b.1)) s.2 ∙ ap (λ r. r >>= λ b. Ok (Truth b.0, b.1)) (bool_again s.0 rest) ∙ ap (λ e. Ok (e, rest)) (sym s.1)
  again int d b rest s = ap (λ r. r >>= λ n. Ok (Int n.0, n.1)) (int_again b rest s.0 s.2 s.3) ∙ ap (λ e. Ok (e, rest)) (sym s.1)
  again long d b rest s = ap (λ r. r >>= λ n. Ok (Long n.0, n.1)) (number_again causes b rest s.0 s.2) ∙ ap (λ e. Ok (e, rest)) (sym s.1)
  again float4 d b rest s = ap (λ r. r >>= λ b. Ok (Float4 b.0, b.1)) (part_again 4 b rest s.1) ∙ ap (λ e. Ok (e, rest)) (sym s.0)
  again float8 d b rest s = ap (λ r. r >>= λ b. Ok (Float8 b.0, b.1)) (part_again 8 b rest s.1) ∙ ap (λ e. Ok (e, rest)) (sym s.0)
  again blob d b rest s = ap (λ r. r >>= λ t. Ok (Blob t.0, t.1)) (blob_again causes b rest s.0 s.2) ∙ ap (λ e. Ok (e, rest)) (sym s.1)
  again string d b rest s = ap (λ r. r >>= λ t. Ok (Str t.0, t.1)) (string_again causes b rest s.0 s.2 s.3) ∙ ap (λ e. Ok (e, rest)) (sym s.1)
  again (fixed n) d b rest s = ap (λ r. r >>= λ b. Ok (Fix b.0, b.1)) (part_again n b rest s.1) ∙ ap (λ e. Ok (e, rest)) (sym s.0)
  again (choice n) d b rest s = ap (λ r. r >>= λ k. Ok (Choice k.0, k.1)) (position_again BadEnum n b rest s.0 s.2 s.3 s.4) ∙ ap (λ e. Ok (e, rest)) (sym s.1)
  again (array f) d b rest s =
      let enough : length b < suc (length (b ++ rest)) = omega (arith, length-append b rest) in
      ap (λ r. r >>= λ ds. Ok (Array ds.0, ds.1)) (blocks_again causes (Spells f) (read f) (again f) s.2 (suc (length (b ++ rest))) rest enough) ∙ ap (λ e. Ok (e, rest)) (sym s.1)
  again (pairs f) d b rest s =
      let enough : length b < suc (length (b ++ rest)) = omega (arith, length-append b rest) in
      ap (λ r. r >>= λ ds. Ok (Pairs ds.0, ds.1)) (blocks_again causes (SpellsEntry (Spells f)) (entry_at (read f)) (entry_again (Spells f) (read f) (again f)) s.2 (suc (length (b ++ rest))) rest enough) ∙ ap (λ e. Ok (e, rest)) (sym s.1)
  again (fields fs) d b rest s = ap (λ r. r >>= λ ds. Ok (Fields ds.0, ds.1)) (again_all fs s.0 b rest s.2) ∙ ap (λ e. Ok (e, rest)) (sym s.1)
  again (union fs) d b rest s =
      let j = s.4 in
      ap (λ x. position_at BadBranch (count_of fs) x >>= λ n. read_nth fs n.0 n.1 >>= λ d. Ok (Branch n.0 d.0, d.1)) (regrouped b rest j)
      ∙ ap (λ r. r >>= λ n. read_nth fs n.0 n.1 >>= λ d. Ok (Branch n.0 d.0, d.1)) (position_again BadBranch (count_of fs) j.front (j.rest ++ rest) s.0 (count_nth fs s.0 s.1 j.rest j.second) s.3 j.first)
      ∙ ap (λ r. r >>= λ d. Ok (Branch s.0 d.0, d.1)) (again_nth fs s.0 s.1 j.rest rest j.second)
      ∙ ap (λ e. Ok (e, rest)) (sym s.2)

  pub again_all : (fs : Forms) (ds : List Datum) (b rest : List ℕ) → SpellsAll fs ds b → read_all fs (b ++ rest) ≡ Ok (ds, rest)
  again_all no_forms [] b rest s = ap (λ x. Ok ([], x ++ rest)) s
  again_all no_forms (d ∷ ds) b rest s = absurd s
  again_all (form f fs) [] b rest s = absurd s
  again_all (form f fs) (d ∷ ds) b rest s =
      ap (λ x. ahead (read f x) (read_all fs)) (regrouped b rest s)
      ∙ ahead_again (read f (s.front ++ (s.rest ++ rest))) (read_all fs) d (s.rest ++ rest) ds rest (again f d s.front (s.rest ++ rest) s.first) (again_all fs ds s.rest rest s.second)

  pub again_nth : (fs : Forms) (n : ℕ) (d : Datum) (b rest : List ℕ) → SpellsNth fs n d b → read_nth fs n (b ++ rest) ≡ Ok (d, rest)
  again_nth no_forms n d b rest s = absurd s
  again_nth (form f fs) zero d b rest s = again f d b rest s
  again_nth (form f fs) (suc n) d b rest s = again_nth fs n d b rest s
