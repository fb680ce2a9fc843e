-- What is spelled is of the schema, and the written spelling of what is of the schema spells it.
use Rattle.std.proofs.Common.{◌≡◌, ℕ, zero, suc, ℤ, pos, negsuc, ◌≤◌, ◌<◌, ◌^◌, List, [], ◌∷◌, ◌++◌, length, refl, sym, ap, ◌∙◌, arith, subst, length-append}
use Rattle.std.specs.List.{AllByRecursion}
use Rattle.avro_schema.specs.Form.{Form, null, boolean, int, long, float4, float8, bytes as blob, string, fixed, choice, array, pairs, fields, union, Forms, no_forms, form}
use Rattle.avro_container.specs.Long.{SpellsLong, written_long, zigzag}
use Rattle.avro_container.specs.Spelling.{SpellsText, SpellsEach, SpellsBlocks, last, block}
use Rattle.avro_container.specs.Writing.{written_text, written_blocks}
use Rattle.avro_container.proofs.LongWritten.{written_spells}
use Rattle.avro_container.proofs.Written.{count_written, text_within, blocks_within}
use Rattle.avro_datum.specs.declared.datum.Datum.{Datum, out-Datum}
use Rattle.avro_datum.specs.declared.datum.Datum.TheVariants.{Float4, Float8, Fix, outs-Bool, outs-Int, outs-Long, outs-Float4, outs-Float8, outs-Blob, outs-Str, outs-Fix, outs-Choice, outs-List, outs-Pairs, outs-Fields, outs-Branch}
use Rattle.avro_datum.specs.Spelling.{IsInt, truth_byte, most_items, SpellsEntry, Spells, SpellsAll, SpellsNth}
use Rattle.avro_datum.specs.Writing.{IsEntry, IsOf, AreOf, IsOfNth, number_in, bytes_in, truth_in, items_in, entries_in, position_in, inner_in, written_entry, written, written_all, written_nth}

module _ {A : Type 0} where
  all-append : (Q : A → Type 0) (ds es : List A) → AllByRecursion Q ds → AllByRecursion Q es → AllByRecursion Q (ds ++ es)
  all-append Q [] es h k = k
  all-append Q (d ∷ ds) es h k = (h.0, all-append Q ds es h.1 k)

  each_of : (P : A → List ℕ → Type 0) (Q : A → Type 0) → ((d : A) (b : List ℕ) → P d b → Q d) → (ds : List A) (b : List ℕ) → SpellsEach P ds b → AllByRecursion Q ds
  each_of P Q h [] b s = tt
  each_of P Q h (d ∷ ds) b s = (h d s.front s.first, each_of P Q h ds s.rest s.second)

  blocks_of : (P : A → List ℕ → Type 0) (Q : A → Type 0) → ((d : A) (b : List ℕ) → P d b → Q d) → {room : ℕ} {ds : List A} {b : List ℕ} → SpellsBlocks P room ds b → AllByRecursion Q ds × (length ds ≤ room)
  blocks_of P Q h (last room b none) = (tt, omega arith)
  blocks_of P Q h (block room n es fs head body tail len fits said each more) =
      let behind = blocks_of P Q h more in
      (all-append Q es fs (each_of P Q h es body each) behind.0, omega (arith, length-append es fs, len, behind.1))

entry_of : (P : Datum → List ℕ → Type 0) (Q : Datum → Type 0) → ((d : Datum) (b : List ℕ) → P d b → Q d) → (e : List ℕ × Datum) (b : List ℕ) → SpellsEntry P e b → IsEntry Q e
unfolding SpellsEntry IsEntry
entry_of P Q h e b s = (s.0, h e.1 s.1.rest s.1.second)

mutual
  unfolding Spells IsOf

  pub is_of : (f : Form) (d : Datum) (b : List ℕ) → Spells f d b → IsOf f d
  is_of null d b s = s.0
  is_of boolean d b s = (s.0, s.1)
  is_of int d b s = (s.0, s.1, s.2)
  is_of long d b s = (s.0, s.1, s.2.fits)
  is_of float4 d b s = (b, s.0, s.1)
  is_of float8 d b s = (b, s.0, s.1)
  is_of blob d b s = (s.0, s.1)
  is_of string d b s = (s.0, s.1, s.2)
  is_of (fixed n) d b s = (b, s.0, s.1)
  is_of (choice n) d b s = (s.0, s.1, s.2, s.3)
  is_of (array f) d b s = let all = blocks_of (Spells f) (IsOf f) (is_of f) s.2 in (s.0, s.1, all.0, all.1)
  is_of (pairs f) d b s = let all = blocks_of (SpellsEntry (Spells f)) (IsEntry (IsOf f)) (entry_of (Spells f) (IsOf f) (is_of f)) s.2 in (s.0, s.1, all.0, all.1)
  is_of (fields fs) d b s = (s.0, s.1, are_of fs s.0 b s.2)
  is_of (union fs) d b s = (s.0, s.1, s.2, s.3, is_of_nth fs s.0 s.1 s.4.rest s.4.second)

  pub are_of : (fs : Forms) (ds : List Datum) (b : List ℕ) → SpellsAll fs ds b → AreOf fs ds
  are_of no_forms [] b s = tt
  are_of no_forms (d ∷ ds) b s = absurd s
  are_of (form f fs) [] b s = absurd s
  are_of (form f fs) (d ∷ ds) b s = (is_of f d s.front s.first, are_of fs ds s.rest s.second)

  pub is_of_nth : (fs : Forms) (n : ℕ) (d : Datum) (b : List ℕ) → SpellsNth fs n d b → IsOfNth fs n d
  is_of_nth no_forms n d b s = absurd s
  is_of_nth (form f fs) zero d b s = is_of f d b s
  is_of_nth (form f fs) (suc n) d b s = is_of_nth fs n d b s

-- What memory can hold has fewer than 2 ^ 63 bytes.

int_fits : (n : ℤ) → IsInt n → zigzag n < 2 ^ 64
int_fits (pos n) h = omega arith
int_fits (negsuc n) h = omega arith

entry_within : (P : Datum → List ℕ → Type 0) (Q : Datum → Type 0) (w : Datum → List ℕ) → ((d : Datum) → Q d → length (w d) < 2 ^ 63 → P d (w d)) → (e : List ℕ × Datum) → IsEntry Q e → length (written_entry w e) < 2 ^ 63 → SpellsEntry P e (written_entry w e)
unfolding SpellsEntry IsEntry written_entry
entry_within P Q w h e q small =
    let sizes = length-append (written_text e.0) (w e.1) in
    (q.0, record { front = written_text e.0; rest = w e.1; first = text_within e.0 (omega (arith, sizes, small)); second = h e.1 q.1 (omega (arith, sizes, small)); is = refl })

mutual
  unfolding Spells IsOf written

  pub is_written : (f : Form) (d : Datum) → IsOf f d → length (written f d) < 2 ^ 63 → Spells f d (written f d)
  is_written null d s small = (s, refl)
  is_written boolean d s small = (s.0, s.1, ap (λ t. truth_byte t ∷ []) (ap (λ e. truth_in (out-Datum e)) s.1 ∙ ap truth_in (outs-Bool s.0)))
  is_written int d s small = (s.0, s.1, s.2, subst (λ n. SpellsLong (written_long n) s.0) (sym (ap (λ e. number_in (out-Datum e)) s.1 ∙ ap number_in (outs-Int s.0))) (written_spells s.0 (int_fits s.0 s.2)))
  is_written long d s small = (s.0, s.1, subst (λ n. SpellsLong (written_long n) s.0) (sym (ap (λ e. number_in (out-Datum e)) s.1 ∙ ap number_in (outs-Long s.0))) (written_spells s.0 s.2))
  is_written float4 d s small =
      let same : bytes_in (out-Datum d) ≡ s.0 = ap (λ e. bytes_in (out-Datum e)) s.1 ∙ ap bytes_in (outs-Float4 s.0) in
      (s.1 ∙ ap Float4 (sym same), ap length same ∙ s.2)
  is_written float8 d s small =
      let same : bytes_in (out-Datum d) ≡ s.0 = ap (λ e. bytes_in (out-Datum e)) s.1 ∙ ap bytes_in (outs-Float8 s.0) in
      (s.1 ∙ ap Float8 (sym same), ap length same ∙ s.2)
  is_written blob d s small =
      let same : bytes_in (out-Datum d) ≡ s.0 = ap (λ e. bytes_in (out-Datum e)) s.1 ∙ ap bytes_in (outs-Blob s.0) in
      (s.0, s.1, subst (λ t. SpellsText t (written_text (bytes_in (out-Datum d)))) same (text_within (bytes_in (out-Datum d)) small))
  is_written string d s small =
      let same : bytes_in (out-Datum d) ≡ s.0 = ap (λ e. bytes_in (out-Datum e)) s.1 ∙ ap bytes_in (outs-Str s.0) in
      (s.0, s.1, s.2, subst (λ t. SpellsText t (written_text (bytes_in (out-Datum d)))) same (text_within (bytes_in (out-Datum d)) small))
  is_written (fixed n) d s small =
      let same : bytes_in (out-Datum d) ≡ s.0 = ap (λ e. bytes_in (out-Datum e)) s.1 ∙ ap bytes_in (outs-Fix s.0) in
      (s.1 ∙ ap Fix (sym same), ap length same ∙ s.2)
  is_written (choice n) d s small =
      let k = s.0 in
      let at : position_in (out-Datum d) ≡ k = ap (λ e. position_in (out-Datum e)) s.1 ∙ ap position_in (outs-Choice k) in
      (k, s.1, s.2, s.3, subst (λ m. SpellsLong (written_long (pos m)) (pos k)) (sym at) (count_written k (omega (arith, s.3))))
  is_written (array f) d s small =
      let same : items_in (out-Datum d) ≡ s.0 = ap (λ e. items_in (out-Datum e)) s.1 ∙ ap items_in (outs-List s.0) in
      let fits : length (written_blocks (written f) s.0) < 2 ^ 63 = subst (λ ds. length (written_blocks (written f) ds) < 2 ^ 63) same small in (
        s.0,
        s.1,
        subst (λ ds. SpellsBlocks (Spells f) most_items s.0 (written_blocks (written f) ds)) (sym same)
            (blocks_within (Spells f) (IsOf f) (written f) (is_written f) most_items s.0 s.2 s.3 (omega arith) fits),
      )
  is_written (pairs f) d s small =
      let same : entries_in (out-Datum d) ≡ s.0 = ap (λ e. entries_in (out-Datum e)) s.1 ∙ ap entries_in (outs-Pairs s.0) in
      let fits : length (written_blocks (written_entry (written f)) s.0) < 2 ^ 63 = subst (λ ds. length (written_blocks (written_entry (written f)) ds) < 2 ^ 63) same small in (
        s.0,
        s.1,
        subst (λ ds. SpellsBlocks (SpellsEntry (Spells f)) most_items s.0 (written_blocks (written_entry (written f)) ds)) (sym same)
            (blocks_within (SpellsEntry (Spells f)) (IsEntry (IsOf f)) (written_entry (written f)) (entry_within (Spells f) (IsOf f) (written f) (is_written f)) most_items s.0 s.2 s.3 (omega arith) fits),
      )
  is_written (fields fs) d s small =
      let same : items_in (out-Datum d) ≡ s.0 = ap (λ e. items_in (out-Datum e)) s.1 ∙ ap items_in (outs-Fields s.0) in
      let fits : length (written_all fs s.0) < 2 ^ 63 = subst (λ ds. length (written_all fs ds) < 2 ^ 63) same small in
      (s.0, s.1, subst (λ ds. SpellsAll fs s.0 (written_all fs ds)) (sym same) (all_written fs s.0 s.2 fits))
  is_written (union fs) d s small =
      let n = s.0 in
      let inner = s.1 in
      let at : position_in (out-Datum d) ≡ n = ap (λ e. position_in (out-Datum e)) s.2 ∙ ap position_in (outs-Branch n inner) in
      let within : inner_in (out-Datum d) ≡ inner = ap (λ e. inner_in (out-Datum e)) s.2 ∙ ap inner_in (outs-Branch n inner) in
      let whole : written_long (pos (position_in (out-Datum d))) ++ written_nth fs (position_in (out-Datum d)) (inner_in (out-Datum d)) ≡ written_long (pos n) ++ written_nth fs n inner =
      ap (λ m. written_long (pos m) ++ written_nth fs m (inner_in (out-Datum d))) at ∙ ap (λ e. written_long (pos n) ++ written_nth fs n e) within in
      let fits : length (written_long (pos n) ++ written_nth fs n inner) < 2 ^ 63 = subst (λ b. length b < 2 ^ 63) whole small in (
        n,
        inner,
        s.2,
        s.3,
        record {
          front = written_long (pos n);
          rest = written_nth fs n inner;
          first = count_written n (omega (arith, s.3));
          second = nth_written fs n inner s.4 (omega (arith, length-append (written_long (pos n)) (written_nth fs n inner), fits));
          is = whole;
        },
      )

  pub all_written : (fs : Forms) (ds : List Datum) → AreOf fs ds → length (written_all fs ds) < 2 ^ 63 → SpellsAll fs ds (written_all fs ds)
  all_written no_forms [] s small = refl
  all_written no_forms (d ∷ ds) s small = absurd s
  all_written (form f fs) [] s small = absurd s
  all_written (form f fs) (d ∷ ds) s small =
      let sizes = length-append (written f d) (written_all fs ds) in
      record { front = written f d; rest = written_all fs ds; first = is_written f d s.0 (omega (arith, sizes, small)); second = all_written fs ds s.1 (omega (arith, sizes, small)); is = refl }

  pub nth_written : (fs : Forms) (n : ℕ) (d : Datum) → IsOfNth fs n d → length (written_nth fs n d) < 2 ^ 63 → SpellsNth fs n d (written_nth fs n d)
  nth_written no_forms n d s small = absurd s
  nth_written (form f fs) zero d s small = is_written f d s small
  nth_written (form f fs) (suc n) d s small = nth_written fs n d s small

-- what stands at the end of a list is no longer than the list
pub shorter : (old new more : List ℕ) → new ≡ old ++ more → length new < 2 ^ 63 → length more < 2 ^ 63
shorter old new more is small = omega (arith, ap length is, length-append old more, small)
